-- What the states of the start of a footnote call come to (in neither standard).
use Rattle.std.specs.Prelude.{List, [], ◌∷◌, None}
use Rattle.definition_text.specs.Ascii.{left_bracket}
use Rattle.definition_inline.specs.GfmLabelStartFootnote.{starts_call}
use Rattle.engine_events.specs.Events.{event}
use Rattle.engine_events.specs.declared.event.Event.{Event}
use Rattle.engine_events.specs.declared.event.Kind.TheVariants.{Enter, Exit}
use Rattle.engine_events.specs.declared.event.Name.TheVariants as names
use Rattle.engine_events.specs.declared.place.Point.{Point}
use Rattle.engine_states.specs.declared.label.LabelKind.TheVariants as kinds
use Rattle.engine_states.specs.declared.state.Inline.TheVariants as state_inline
use Rattle.state_verdicts.specs.Beginnings.{AtByte, AreSeen, BeforeByte, Beginning, ComesNext, all_codes, attempt, choice}
use Rattle.state_verdicts.specs.LabelStarts.{StartVerdict}
use Rattle.state_verdicts.specs.Verdicts.{Comes}

-- the events of `[^`: the `[` is from p to q, and the `^` is read from a third place up to the end
abbrev pub call_events : Point → Point → Point → Point → List Event
call_events p q from end =
    event Enter names.GfmFootnoteCallLabel p None ∷ event Enter names.LabelMarker p None ∷ event Exit names.LabelMarker q None
    ∷ event Enter names.GfmFootnoteCallMarker from None ∷ event Exit names.GfmFootnoteCallMarker end None ∷ event Exit names.GfmFootnoteCallLabel end None ∷ []

-- a call starts there exactly where the definition says so
abbrev pub ReadsCallStart : {T : Type 0} → Beginning T → Comes → Type 0
ReadsCallStart here comes =
    StartVerdict here comes kinds.GfmFootnote 2 (call_events here.place here.after (here.text.start here.after)) (λ end. end)
    (starts_call here.context.options.constructs (all_codes here))

-- at a `[`, after which these codes are seen, the start of a call is read exactly where there is one
abbrev pub CallStartVerdict : Type 0 → Type 0
CallStartVerdict T = AtByte T left_bracket (λ here. AreSeen here → ReadsCallStart here (attempt here state_inline.GfmLabelStartFootnoteStart))

-- before a part of a text that begins so, reading goes on after the start of a call exactly where there is one, and otherwise with the start of a link
abbrev pub CallStartChoice : Type 0 → Type 0
CallStartChoice T = BeforeByte T left_bracket (λ here. ComesNext here → AreSeen here
    → ReadsCallStart here (choice here state_inline.TextBefore state_inline.TextBeforeLabelStartLink))
