-- What the states of a byte order mark come to.
use Rattle.std.specs.Prelude.{Bool, true, false, List, [], ◌∷◌, drop, None}
use Rattle.definition_text.specs.Lines.{has_mark}
use Rattle.engine_events.specs.Events.{event}
use Rattle.engine_events.specs.declared.event.Event.{Event}
use Rattle.engine_events.specs.declared.event.Kind.TheVariants.{Enter, Exit}
use Rattle.engine_events.specs.declared.event.Name.TheVariants as names
use Rattle.engine_events.specs.declared.place.Point.{Point}
use Rattle.engine_states.specs.declared.state.Block.TheVariants as state_block
use Rattle.markdown_engine.specs.Reading.{Config}
use Rattle.state_table.specs.BlockWords.{retry}
use Rattle.state_verdicts.specs.Codes.{Sees}
use Rattle.state_verdicts.specs.DocumentVerdicts.{AtCodes, InDocument, Reads, at_hand}
use Rattle.state_verdicts.specs.Verdicts.{Leaves}

-- the events of a byte order mark from a place to another
abbrev pub mark_events : Point → Point → List Event
mark_events p end = event Enter names.ByteOrderMark p None ∷ event Exit names.ByteOrderMark end None ∷ []

-- an attempt goes well exactly if this holds, with the events of the mark, up to its end
abbrev pub MarkVerdict : {T V : Type 0} → InDocument T V → Bool → Type 0
MarkVerdict {V = V} here true =
    (d : Config V) × (end : Point) × Reads here (at_hand here) (retry state_block.BomStart) d true
    × Leaves (at_hand here) d (record here.config.tokenize_state { size = 3 }) (mark_events (here.text.start here.place) end) end
    × Sees here.text end (drop 3 here.codes)
MarkVerdict {V = V} here false = (d : Config V) × Reads here (at_hand here) (retry state_block.BomStart) d false

-- at the start of a text, a byte order mark is read exactly if the text has one
abbrev pub BomVerdict : Type 0 → Type 0 → Type 0
BomVerdict T V = AtCodes T V (λ here. MarkVerdict here (has_mark here.codes))
