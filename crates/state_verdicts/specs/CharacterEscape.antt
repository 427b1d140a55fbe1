-- What the states of an escape come to (CommonMark 2.4).
use Rattle.std.specs.Prelude.{List, [], ◌∷◌, None}
use Rattle.definition_text.specs.Ascii.{backslash}
use Rattle.definition_inline.specs.CharacterEscape.{escape_at}
use Rattle.engine_events.specs.Events.{event}
use Rattle.engine_events.specs.declared.event.Event.{Event}
use Rattle.engine_events.specs.declared.event.Kind.TheVariants.{Enter, Exit}
use Rattle.engine_events.specs.declared.event.Name.TheVariants as names
use Rattle.engine_events.specs.declared.place.Point.{Point}
use Rattle.engine_states.specs.declared.state.Inline.TheVariants as state_inline
use Rattle.state_verdicts.specs.Beginnings.{Beginning, AtByte, BeforeByte, AreSeen, ComesNext, all_codes, at_hand, attempt, choice}
use Rattle.state_verdicts.specs.Verdicts.{Comes, Verdict}

-- the events of an escape at a place, after whose backslash is another, and whose second byte is read from a third up to a fourth
abbrev pub escape_events : Point → Point → Point → Point → List Event
escape_events p q from to =
    event Enter names.CharacterEscape p None ∷ event Enter names.CharacterEscapeMarker p None ∷ event Exit names.CharacterEscapeMarker q None
    ∷ event Enter names.CharacterEscapeValue from None ∷ event Exit names.CharacterEscapeValue to None ∷ event Exit names.CharacterEscape to None ∷ []

-- an attempt there reads an escape exactly where the definition has one
abbrev pub ReadsEscape : {T : Type 0} → Beginning T → Comes → Type 0
ReadsEscape here comes =
    Verdict here.text comes (at_hand here) (all_codes here) (escape_events here.place here.after (here.text.start here.after)) (λ end. end)
    (escape_at here.context.options.constructs (all_codes here))

-- at a backslash, after which these codes are seen, an escape is read exactly where the definition has one
abbrev pub EscapeVerdict : Type 0 → Type 0
EscapeVerdict T = AtByte T backslash (λ here. AreSeen here → ReadsEscape here (attempt here state_inline.CharacterEscapeStart))

-- before a part of a text that begins so, reading goes on after an escape exactly where the definition has one, and otherwise with a hard break
abbrev pub EscapeChoice : Type 0 → Type 0
EscapeChoice T = BeforeByte T backslash (λ here. ComesNext here → AreSeen here
    → ReadsEscape here (choice here state_inline.TextBefore state_inline.TextBeforeHardBreakEscape))
