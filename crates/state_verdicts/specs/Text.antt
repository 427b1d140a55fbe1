-- What a text comes to before each part.
use Rattle.std.specs.Prelude.{◌≡◌, ℕ, Bool, true, false, ◌==◌, List, None, Some, codes}
use Rattle.std.specs.List.{list_any}
use Rattle.definition_text.specs.Ascii.{backslash}
use Rattle.definition_inline.specs.CharacterEscape.{escape_at}
use Rattle.engine_events.specs.declared.place.Point.{Point}
use Rattle.engine_states.specs.declared.resolve.Name.TheVariants as resolvers
use Rattle.engine_states.specs.declared.state.Inline.{Inline as InlineName}
use Rattle.engine_states.specs.declared.state.Inline.TheVariants as state_inline
use Rattle.engine_states.specs.declared.state.Name.TheVariants.{Inline}
use Rattle.markdown_engine.specs.Machine.{to_run_last, tries}
use Rattle.markdown_engine.specs.Reading.{Config, hand_on, with_byte}
use Rattle.markdown_engine.specs.VirtualText.{as_byte}
use Rattle.engine_programs.specs.Bodies.{run}
use Rattle.state_table.specs.Words.{next, retry}
use Rattle.state_inline.specs.declared.inlines.Inlines.{Inlines}
use Rattle.state_inline.specs.Inlines.{bodies}
use Rattle.state_verdicts.specs.Beginnings.{BeforeByte, AreSeen, ComesNext, Wherever, all_codes, at_hand, choice_at}
use Rattle.state_verdicts.specs.Choices.{Chooses, GoesOn, byte_at}
use Rattle.state_verdicts.specs.HardBreakEscape.{ReadsBreak, ends_apart}
use Rattle.state_verdicts.specs.Verdicts.{Reads}

-- a state that attempts another at a byte, and goes on before the next part or else with a third, chooses by what that attempt comes to
abbrev pub ChoiceLaw : Type 0 → Type 0
ChoiceLaw T = Wherever T (λ texts is_punctuation x text c. (b : ℕ) (q : Point) (s start other : InlineName)
    → text.byte (text.start c.point) ≡ Some (as_byte b q)
    → run (bodies texts is_punctuation x (Inline s)) (byte_at text c b q)
    ≡ tries (next state_inline.TextBefore) (next other) (byte_at text c b q) (retry start)
    → (d : Config Inlines) (w : Bool) → Reads texts is_punctuation x text (byte_at text c b q) (retry start) d w
    → Chooses texts is_punctuation x text c s (byte_at text c b q) other d w)

-- before a part that begins with a backslash, after which these codes are seen, where the definition has no escape: reading goes on after a hard break exactly
-- where it has one, and otherwise with data, if the place at which reading goes on is itself one
abbrev pub BackslashChoice : Type 0 → Type 0
BackslashChoice T = BeforeByte T backslash (λ here. here.text.start here.place ≡ here.place → ComesNext here → AreSeen here → ends_apart here.rest ≡ true
    → escape_at here.context.options.constructs (all_codes here) ≡ None → (e : Config Inlines) × (let back = hand_on (at_hand here) e in
    ReadsBreak here back (choice_at here state_inline.TextBefore back state_inline.TextBeforeData)))

-- the bytes that a construct may begin with
abbrev pub first_bytes : List ℕ
first_bytes = codes "!$`&*_~=<HhWw[\\]"

-- before a part that begins with another byte reading goes on with data, at that byte
abbrev pub DataChoice : Type 0 → Type 0
DataChoice T = Wherever T (λ texts is_punctuation x text c. (b : ℕ) (q : Point)
    → text.byte (text.start c.point) ≡ Some (as_byte b q) → list_any (λ m. b == m) first_bytes ≡ false
    → GoesOn texts is_punctuation x text c (next state_inline.TextBefore) (byte_at text c b q) (retry state_inline.TextBeforeData))

-- at the text's end reading ends well, with no event more, and the resolvers of data and of texts are registered to run last
abbrev pub TextEndVerdict : Type 0 → Type 0
TextEndVerdict T = Wherever T (λ texts is_punctuation x text c. text.byte (text.start c.point) ≡ None
    → Reads texts is_punctuation x text c (next state_inline.TextBefore)
    (to_run_last resolvers.Text (to_run_last resolvers.Data (with_byte c (text.start c.point) None))) true)
