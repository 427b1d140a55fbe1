-- The constructs that a text attempts by the byte at hand (CommonMark 6).
use Rattle.std.specs.Prelude.{◌≡◌, ℕ, Bool, true, false, ◌==◌, ◌||◌, if◌then◌else◌, List, [], ◌∷◌, Option, Some}
use Rattle.definition_text.specs.Ascii.{exclamation_mark, dollar, ampersand, asterisk, less_than, equals, left_bracket, backslash, right_bracket, underscore}
use Rattle.definition_text.specs.Ascii.{backtick, tilde}
use Rattle.engine_states.specs.declared.state.Inline.{Inline as InlineName}
use Rattle.engine_states.specs.declared.state.Inline.TheVariants as state_inline
use Rattle.engine_states.specs.declared.state.Name.{Name}
use Rattle.engine_states.specs.declared.state.Name.TheVariants.{Inline}
use Rattle.engine_states.specs.declared.state.State.TheVariants as states
use Rattle.markdown_engine.specs.Context.{Context}
use Rattle.markdown_engine.specs.Reading.{Config}
use Rattle.markdown_engine.specs.VirtualText.{Text}
use Rattle.state_inline.specs.declared.inlines.Inlines.{Inlines}
use Rattle.state_inline.specs.Inlines.{bodies}
use Rattle.state_verdicts.specs.Attempts.{ChoosesAmong}
use Rattle.state_verdicts.specs.Beginnings.{Wherever}
use Rattle.state_verdicts.specs.Machines.{ReadsBy}

-- the constructs that a text attempts; code and math have one start, and so have runs of emphasis, strikethrough and marked text
pub data PartStart : Type 0 where
  Image : PartStart
  RawText : PartStart
  Reference : PartStart
  Attention : PartStart
  Autolink : PartStart
  Html : PartStart
  Protocol : PartStart
  Www : PartStart
  Footnote : PartStart
  Link : PartStart
  Escape : PartStart
  HardBreak : PartStart
  LabelEnd : PartStart

-- the state with which an attempt begins
abbrev pub state_of : PartStart → InlineName
state_of Image = state_inline.LabelStartImageStart
state_of RawText = state_inline.RawTextStart
state_of Reference = state_inline.CharacterReferenceStart
state_of Attention = state_inline.AttentionStart
state_of Autolink = state_inline.AutolinkStart
state_of Html = state_inline.HtmlTextStart
state_of Protocol = state_inline.GfmAutolinkLiteralProtocolStart
state_of Www = state_inline.GfmAutolinkLiteralWwwStart
state_of Footnote = state_inline.GfmLabelStartFootnoteStart
state_of Link = state_inline.LabelStartLinkStart
state_of Escape = state_inline.CharacterEscapeStart
state_of HardBreak = state_inline.HardBreakEscapeStart
state_of LabelEnd = state_inline.LabelEndStart

-- the bytes at which a text attempts a construct: of a literal those of `http` and `www`, the letters of which may be capitals
abbrev pub may_begin : PartStart → ℕ → Bool
may_begin Image b = b == exclamation_mark
may_begin RawText b = (b == dollar) || (b == backtick)
may_begin Reference b = b == ampersand
may_begin Attention b = (b == asterisk) || (b == underscore) || (b == tilde) || (b == equals)
may_begin Autolink b = b == less_than
may_begin Html b = b == less_than
may_begin Protocol b = (b == 72) || (b == 104)
may_begin Www b = (b == 87) || (b == 119)
may_begin Footnote b = b == left_bracket
may_begin Link b = b == left_bracket
may_begin Escape b = b == backslash
may_begin HardBreak b = b == backslash
may_begin LabelEnd b = b == right_bracket

-- an attempt that looks at the byte at hand first; a literal looks at letters in the bytes that are read
abbrev pub looks_at_byte : PartStart → Bool
looks_at_byte Protocol = false
looks_at_byte Www = false
looks_at_byte s = true

-- all of them, in the order in which a text attempts them
abbrev pub all_parts : List PartStart
all_parts =
    Image ∷ RawText ∷ Reference ∷ Attention ∷ Autolink ∷ Html ∷ Protocol ∷ Www ∷ Footnote ∷ Link ∷ Escape ∷ HardBreak ∷ LabelEnd ∷ []

-- those that may begin with a byte
abbrev pub parts_at : ℕ → List PartStart → List PartStart
parts_at b [] = []
parts_at b (s ∷ ss) = if may_begin s b then s ∷ parts_at b ss else parts_at b ss

-- the name of the state with which an attempt begins, and of the state after one that goes well
abbrev pub begins : PartStart → Name
begins s = Inline (state_of s)

abbrev pub goes_on : PartStart → Name
goes_on s = Inline state_inline.TextBefore

-- this holds of each configuration with a byte at hand
abbrev pub WithByte : (T : Type 0) → ((List ℕ → Option (List ℕ)) → (ℕ → Bool) → Context T → Text → Config Inlines → ℕ → Type 0) → Type 0
WithByte T says = Wherever T (λ texts is_punctuation x text c. (b : ℕ) → c.current ≡ Some b → says texts is_punctuation x text c b)

-- an attempt at a construct that may not begin with the byte at hand fails
abbrev pub TextFailsLaw : Type 0 → Type 0
TextFailsLaw T = WithByte T (λ texts is_punctuation x text c b. (s : PartStart) → looks_at_byte s ≡ true → may_begin s b ≡ false
    → (d : Config Inlines) × ReadsBy (bodies texts is_punctuation x) text c (states.Retry (begins s)) d false)

-- before a part, a text attempts the constructs that may begin with the byte; then comes data
abbrev pub TextChoice : Type 0 → Type 0
TextChoice T = WithByte T (λ texts is_punctuation x text c b. ChoosesAmong (bodies texts is_punctuation x) text begins goes_on c (Inline state_inline.TextBefore)
    c (parts_at b all_parts) (Inline state_inline.TextBeforeData))
