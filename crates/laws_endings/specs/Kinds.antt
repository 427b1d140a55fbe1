-- Which kinds of characters the inline structure of a content asks for (CommonMark 6.2 and GFM 6.9).
use Rattle.std.specs.Prelude.{◌≡◌, ℕ, Bool, true, false, ◌==◌, ◌||◌, ◌⊎◌, List, [], ◌∷◌}
use Rattle.definition_text.specs.Ascii.{asterisk, dot, equals, slash, underscore, tilde}
use Rattle.definition_text.specs.InlineCode.{InlineCode, is_continuation}
use Rattle.definition_inline.specs.Scan.{InlineContext, inlines}

-- a byte whose runs may form spans: `*`, `_`, `~` or `=`
abbrev pub may_mark : ℕ → Bool
may_mark c = (c == asterisk) || ((c == underscore) || ((c == tilde) || (c == equals)))

-- a byte after which the kind of the next character counts: one of those, or the last one that a literal begins with
abbrev pub counts_after : ℕ → Bool
counts_after c = may_mark c || ((c == dot) || (c == slash))

-- a byte that continues a character comes first
abbrev pub goes_on : List InlineCode → Bool
goes_on [] = false
goes_on (c ∷ cs) = is_continuation c.code

-- a code before others that differs from another one at most in the kind after it, and only where that is inside of a character
pub record IsAlike (one other : InlineCode) (others : List InlineCode) : Type 0 where
  pub code : one.code ≡ other.code
  pub previous : one.previous ≡ other.previous
  pub before : one.before ≡ other.before
  pub after : (counts_after one.code ≡ true) ⊎ (goes_on others ≡ false) → one.after ≡ other.after

abbrev pub AreAlike : List InlineCode → List InlineCode → Type 0
AreAlike [] [] = true ≡ true
AreAlike [] (b ∷ bs) = true ≡ false
AreAlike (a ∷ rest) [] = true ≡ false
AreAlike (a ∷ rest) (b ∷ bs) = IsAlike a b rest × AreAlike rest bs

-- no kind inside of a character counts
abbrev pub KindsLaw : Type 0
KindsLaw = (context : InlineContext) (one other : List InlineCode) → AreAlike one other → inlines context one ≡ inlines context other
