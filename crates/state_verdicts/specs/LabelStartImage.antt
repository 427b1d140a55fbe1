-- What the states of the start of an image come to (CommonMark 6.4).
use Rattle.std.specs.Prelude.{List, [], ◌∷◌, None}
use Rattle.definition_text.specs.Ascii.{exclamation_mark}
use Rattle.definition_inline.specs.Scan.{starts_image}
use Rattle.engine_events.specs.Events.{event}
use Rattle.engine_events.specs.declared.event.Event.{Event}
use Rattle.engine_events.specs.declared.event.Kind.TheVariants.{Enter, Exit}
use Rattle.engine_events.specs.declared.event.Name.TheVariants as names
use Rattle.engine_events.specs.declared.place.Point.{Point}
use Rattle.engine_states.specs.declared.label.LabelKind.TheVariants as kinds
use Rattle.engine_states.specs.declared.state.Inline.TheVariants as state_inline
use Rattle.state_verdicts.specs.Beginnings.{AtByte, AreSeen, BeforeByte, Beginning, ComesNext, all_codes, attempt, choice}
use Rattle.state_verdicts.specs.LabelStarts.{StartVerdict}
use Rattle.state_verdicts.specs.Verdicts.{Comes}

-- the events of `![`: the `!` is from p to q, and the `[` is read from a third place up to the end
abbrev pub image_events : Point → Point → Point → Point → List Event
image_events p q from end =
    event Enter names.LabelImage p None ∷ event Enter names.LabelImageMarker p None ∷ event Exit names.LabelImageMarker q None
    ∷ event Enter names.LabelMarker from None ∷ event Exit names.LabelMarker end None ∷ event Exit names.LabelImage end None ∷ []

-- an image starts there exactly where the definition says so; reading then stands where the code after the `[` is read from
abbrev pub ReadsImageStart : {T : Type 0} → Beginning T → Comes → Type 0
ReadsImageStart here comes =
    StartVerdict here comes kinds.Image 2 (image_events here.place here.after (here.text.start here.after)) here.text.start
    (starts_image here.context.options.constructs (all_codes here))

-- at a `!`, after which these codes are seen, the start of an image is read exactly where there is one
abbrev pub ImageStartVerdict : Type 0 → Type 0
ImageStartVerdict T = AtByte T exclamation_mark (λ here. AreSeen here → ReadsImageStart here (attempt here state_inline.LabelStartImageStart))

-- before a part of a text that begins so, reading goes on after the start of an image exactly where there is one, and otherwise with data
abbrev pub ImageStartChoice : Type 0 → Type 0
ImageStartChoice T = BeforeByte T exclamation_mark (λ here. ComesNext here → AreSeen here
    → ReadsImageStart here (choice here state_inline.TextBefore state_inline.TextBeforeData))
