-- What the states of the starts of labels come to (CommonMark 6.3 and 6.4).
use Rattle.std.specs.Prelude.{ℕ, Bool, true, false, List, [], ◌∷◌, ◌++◌, length, drop}
use Rattle.engine_events.specs.declared.event.Event.{Event}
use Rattle.engine_events.specs.declared.place.Point.{Point}
use Rattle.engine_states.specs.declared.label.LabelKind.{LabelKind}
use Rattle.engine_states.specs.declared.resolve.Name.TheVariants as resolvers
use Rattle.markdown_engine.specs.KeptState.{KeptState}
use Rattle.markdown_engine.specs.Machine.{to_run_first}
use Rattle.markdown_engine.specs.Reading.{Config}
use Rattle.state_labels.specs.Start.{last_start}
use Rattle.state_inline.specs.declared.inlines.Inlines.{Inlines}
use Rattle.state_verdicts.specs.Beginnings.{Beginning, all_codes, at_hand}
use Rattle.state_verdicts.specs.Codes.{Sees}
use Rattle.state_verdicts.specs.Verdicts.{Comes, Leaves}

-- a start of a label is kept: the last of these events, so many
abbrev pub starting : LabelKind → ℕ → List Event → KeptState → KeptState
starting kind size events k = record k { label_starts = k.label_starts ++ last_start kind size (length events) ∷ [] }

-- It goes well exactly if this holds, with the events of the start of a label: the start is kept, and the resolver of labels is to run first. Reading then
-- stands where the codes after the start are seen.
abbrev pub StartVerdict : {T : Type 0} → Beginning T → Comes → LabelKind → ℕ → (Point → List Event) → (Point → Point) → Bool → Type 0
StartVerdict here comes kind size events stands true =
    (d : Config Inlines) × (end : Point) × comes d true
    × Leaves (to_run_first resolvers.Label (at_hand here)) d
    (starting kind (length (events end)) (here.config.events ++ events end) here.config.tokenize_state) (events end) (stands end)
    × Sees here.text end (drop size (all_codes here))
StartVerdict here comes kind size events stands false = (d : Config Inlines) × comes d false
