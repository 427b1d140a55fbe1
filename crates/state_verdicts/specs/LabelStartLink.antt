-- What the state of the start of a link comes to (CommonMark 6.3).
use Rattle.std.specs.Prelude.{List, [], ◌∷◌, ◌&&◌, None, codes}
use Rattle.definition_text.specs.Ascii.{left_bracket}
use Rattle.definition_text.specs.Bytes.{begins_with}
use Rattle.engine_events.specs.Events.{event}
use Rattle.engine_events.specs.declared.event.Event.{Event}
use Rattle.engine_events.specs.declared.event.Kind.TheVariants.{Enter, Exit}
use Rattle.engine_events.specs.declared.event.Name.TheVariants as names
use Rattle.engine_events.specs.declared.place.Point.{Point}
use Rattle.engine_states.specs.declared.label.LabelKind.TheVariants as kinds
use Rattle.engine_states.specs.declared.state.Inline.TheVariants as state_inline
use Rattle.state_verdicts.specs.Beginnings.{AtByte, AreSeen, BeforeByte, Beginning, ComesNext, all_codes, attempt, choice}
use Rattle.state_verdicts.specs.LabelStarts.{StartVerdict}
use Rattle.state_verdicts.specs.Verdicts.{Comes}

-- the events of a `[` from a place to another
abbrev pub link_events : Point → Point → List Event
link_events p end =
    event Enter names.LabelLink p None ∷ event Enter names.LabelMarker p None ∷ event Exit names.LabelMarker end None ∷ event Exit names.LabelLink end None ∷ []

-- a link starts there exactly if the starts of links are on
abbrev pub ReadsLinkStart : {T : Type 0} → Beginning T → Comes → Type 0
ReadsLinkStart here comes = StartVerdict here comes kinds.Link 1 (link_events here.place) (λ end. end)
    (here.context.options.constructs.label_start_link && begins_with (codes "[") (all_codes here))

-- at a `[`, after which these codes are seen, the start of a link is read exactly where there is one
abbrev pub LinkStartVerdict : Type 0 → Type 0
LinkStartVerdict T = AtByte T left_bracket (λ here. AreSeen here → ReadsLinkStart here (attempt here state_inline.LabelStartLinkStart))

-- before a part of a text that begins so and starts no call, reading goes on after the start of a link exactly where there is one, and otherwise with data
abbrev pub LinkStartChoice : Type 0 → Type 0
LinkStartChoice T = BeforeByte T left_bracket (λ here. ComesNext here → AreSeen here
    → ReadsLinkStart here (choice here state_inline.TextBeforeLabelStartLink state_inline.TextBeforeData))
