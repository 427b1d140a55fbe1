-- What is found of literals, in bytes.
use Rattle.std.specs.Prelude.{◌≡◌, ◌+◌, ◌-◌, ◌<◌, ◌≤◌, ℕ, zero, suc, Bool, true, false, not, ◌&&◌, ◌||◌, ◌==◌, if◌then◌else◌, List, [], ◌∷◌, Option, None, Some}
use Rattle.std.specs.Prelude.{codes, drop, length, slice_index, take}
use Rattle.std.specs.Str.{IsCharBoundary}
use Rattle.definition_text.specs.Ascii.{line_feed, right_parenthesis, semicolon, underscore}
use Rattle.markdown_options.specs.declared.beside.Kind.TheVariants.{Whitespace}
use Rattle.definition_text.specs.Bytes.{is_letter_or_digit}
use Rattle.definition_text.specs.Content.{content_codes}
use Rattle.definition_text.specs.InlineCode.{first_kind, is_continuation}
use Rattle.definition_inline.specs.Attention.{is_other}
use Rattle.definition_inline.specs.GfmAutolinkLiteral as literal
use Rattle.definition_inline.specs.GfmAutolinkLiteral.{begins_caselessly, has_low_line, is_among, is_control_or_ending, is_trailing, literal_name}
use Rattle.definition_inline.specs.GfmAutolinkLiteral.{literal_start}
use Rattle.inline_content.specs.View.{line_rest}
use Rattle.inline_leaves.specs.Leaves.{kind_view, IsPlain}
use Rattle.inline_literals.specs.declared.gfm_autolink_literal.LiteralStart.{LiteralStart}
use Rattle.inline_literals.specs.declared.names_in_vain.NamesInVain.{NamesInVain}

-- what begins a literal
abbrev pub start_view : LiteralStart → literal.LiteralStart
start_view start = literal_start (kind_view start.kind) start.size

-- `ww` or `ht` comes first, in either case: only then a literal may begin
abbrev pub may_begin : List ℕ → Bool
may_begin bytes = begins_caselessly (codes "ww") bytes || begins_caselessly (codes "ht") bytes

-- a letter, a digit or `;` comes first
abbrev pub is_in_reference : List ℕ → Bool
is_in_reference [] = false
is_in_reference (b ∷ bs) = is_letter_or_digit b || (b == semicolon)

-- a byte that is never cut from a name's end, before these: it isn't cut alone, and ends no reference and stands in none
abbrev pub is_kept : ℕ → List ℕ → Bool
is_kept byte after = not (is_trailing byte) && (not (byte == right_parenthesis) && not (is_in_reference after))

-- the last `_` of a domain, at a place: it and each of its rests up to there has `_` in its last two parts, and what comes after it has none there
pub record HasLowLineAt (domain : List ℕ) (at : ℕ) : Type 0 where
  pub within : at < length domain
  pub byte : slice_index domain at ≡ underscore
  pub refused : (k : ℕ) → k ≤ at → has_low_line (drop k domain) ≡ true
  pub last : has_low_line (drop (at + 1) domain) ≡ false

-- bytes that a literal begins with: none of them is CR, and the last is ASCII and no LF
pub record StartsLiteral (bytes : List ℕ) (size : ℕ) : Type 0 where
  pub some : 0 < size
  pub plain : IsPlain bytes size
  pub ascii : slice_index bytes (size - 1) < 128
  pub inside : slice_index bytes (size - 1) ≡ line_feed → ⊥

module _ (p : ℕ → Bool) where
  -- a character comes first that is neither whitespace nor punctuation
  abbrev pub begins_other : List ℕ → Bool
  begins_other bytes = is_other (first_kind p Whitespace (line_rest (content_codes bytes)))

  -- bytes after the start of a literal begin as they have to
  abbrev pub begins_name : List ℕ → Bool
  begins_name [] = false
  begins_name (b ∷ bs) = begins_other (b ∷ bs) && not (is_control_or_ending b)

  -- a byte belongs to a domain, with those after it
  abbrev pub begins_domain : ℕ → List ℕ → Bool
  begins_domain b bs = is_continuation b || (begins_other (b ∷ bs) || is_among (codes "-._") b)

  -- how many bytes the domain has among the first ones, so many
  abbrev pub domain_size : ℕ → List ℕ → ℕ
  domain_size zero bytes = 0
  domain_size (suc n) [] = 0
  domain_size (suc n) (b ∷ bs) = if begins_domain b bs then 1 + domain_size n bs else 0

  -- how many bytes the name after the start of a literal has, where it may stand there
  abbrev pub size_after : List ℕ → Option ℕ
  size_after after =
      let size = length (literal_name (content_codes after)) in
      if begins_name after && not (has_low_line (take (domain_size size after) after)) then Some size else None

  -- no name is that of a literal which begins at one of the first places of a text, so many after the first
  abbrev pub AreInVain : List ℕ → ℕ → Type 0
  AreInVain after more = (k : ℕ) → k ≤ more → size_after (drop k after) ≡ None

  -- nor one that begins at a place of a content which is known
  abbrev pub KnowsNames : List ℕ → NamesInVain → Type 0
  KnowsNames content known =
      (left : ℕ) → known.fewest ≤ left → left ≤ known.most → left ≤ length content → size_after (drop (length content - left) content) ≡ None

-- a place after a name
pub record IsNameEnd (after : List ℕ) (size : ℕ) : Type 0 where
  pub name : take size after ≡ literal_name (content_codes after)
  pub plain : IsPlain after size
  pub boundary : IsCharBoundary after size
