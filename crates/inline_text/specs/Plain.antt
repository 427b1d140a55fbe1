-- Text in a content (CommonMark 6.9).
use Rattle.std.specs.Prelude.{◌≡◌, ◌<◌, ◌≤◌, ◌+◌, ◌-◌, ℕ, Bool, true, false, not, if◌then◌else◌, ◌==◌, ◌&&◌, ◌||◌, List, [], ◌∷◌, drop, length, slice_index}
use Rattle.definition_text.specs.Ascii.{exclamation_mark, dollar, ampersand, asterisk, less_than, left_bracket, backslash, right_bracket, underscore, backtick}
use Rattle.definition_text.specs.Ascii.{at_sign, tilde, double_quote, greater_than, line_feed, space}
use Rattle.definition_text.specs.Columns.{is_white, bare, indent}
use Rattle.definition_text.specs.Content.{is_eol}
use Rattle.definition_inline.specs.HardBreak.{ends_here}
use Rattle.definition_inline.specs.Inline.{InlineLeaf, Data, LineEnd}
use Rattle.definition_inline.specs.Mark.{is_equals}
use Rattle.inline_literals.specs.Literals.{may_begin}

-- a byte that constructs begin with, or that ends one: `\`, `&`, a backtick, `$`, `<`, `*`, `_`, `~`, `!`, `[` or `]`
abbrev pub is_special : ℕ → Bool
is_special code =
    (code == backslash) || ((code == ampersand) || ((code == backtick) || ((code == dollar) || ((code == less_than)
    || ((code == asterisk) || ((code == underscore)
    || ((code == tilde) || ((code == exclamation_mark) || ((code == left_bracket) || (code == right_bracket))))))))))

-- a code at which a construct may start, if it is no space or tab: one of these, or a line ending
abbrev pub starts : ℕ → Bool
starts code = is_special code || is_eol code

-- marked text or a literal may begin here, where they are on
abbrev pub begins_more : Bool → Bool → List ℕ → Bool
begins_more has_literals has_marks bytes = (has_marks && is_equals (slice_index bytes 0)) || (has_literals && may_begin bytes)

-- a construct may start here, one of these among them
abbrev pub starts_here : Bool → Bool → List ℕ → Bool
starts_here has_literals has_marks bytes = starts (slice_index bytes 0) || begins_more has_literals has_marks bytes

-- so many bytes come before the first at which a construct may start
pub record IsStart (has_literals has_marks : Bool) (bytes : List ℕ) (stop : ℕ) : Type 0 where
  pub within : stop ≤ length bytes
  pub free : (k : ℕ) → k < stop → starts (slice_index bytes k) ≡ false
  pub bare : (k : ℕ) → k < stop → begins_more has_literals has_marks (drop k bytes) ≡ false
  pub stops : stop < length bytes → starts_here has_literals has_marks (drop stop bytes) ≡ true

-- a byte at which nothing starts and that is printed as something else: NUL, `"` or `>`
abbrev pub is_replaced : ℕ → Bool
is_replaced code = (code == 0) || ((code == double_quote) || (code == greater_than))

-- a byte at which nothing starts, and text that holds it isn't verbatim: one of these or, where literals are on, `@`
abbrev pub goes_on : Bool → ℕ → Bool
goes_on has_literals code = is_replaced code || (has_literals && (code == at_sign))

-- something may start at this byte, or it is printed as something else
abbrev pub stops : ℕ → Bool
stops code = starts code || is_replaced code

-- the first code is text: white space before something else on its line, or a code at which nothing starts
abbrev pub is_text_at : List ℕ → Bool
is_text_at [] = false
is_text_at (c ∷ cs) = if is_white c then not (ends_here (bare (c ∷ cs))) else not (starts c)

-- an LF comes first that is a soft line break of one code: no white space follows it (CommonMark 6.8)
abbrev pub is_soft_at : List ℕ → Bool
is_soft_at [] = false
is_soft_at (c ∷ cs) = (c == line_feed) && (indent cs == 0)

-- the first code is text or, in verbatim text, such a soft line break
abbrev pub is_front_at : Bool → List ℕ → Bool
is_front_at is_verbatim codes = is_text_at codes || (is_verbatim && is_soft_at codes)

-- what such a code is
abbrev pub front_leaf : Bool → ℕ → InlineLeaf
front_leaf is_verbatim code = if is_verbatim && (code == line_feed) then LineEnd line_feed else Data code

-- an LF stands at a place with something dark after it, and before it, unless it comes first
pub record IsSoft (bytes : List ℕ) (at : ℕ) : Type 0 where
  pub inside : at + 1 < length bytes
  pub feed : slice_index bytes at ≡ line_feed
  pub before : 0 < at → space < slice_index bytes (at - 1)
  pub after : space < slice_index bytes (at + 1)

-- a line ends before a place, without the white space at its end
pub record IsLineSize (line : List ℕ) (stop size : ℕ) : Type 0 where
  pub within : size ≤ stop
  pub white : (k : ℕ) → size ≤ k → k < stop → is_white (slice_index line k) ≡ true
  pub inner : stop < length line → is_eol (slice_index line stop) ≡ false → size ≡ stop
  pub dark : (stop < length line → is_eol (slice_index line stop) ≡ true) → 0 < size → is_white (slice_index line (size - 1)) ≡ false
