-- Edits, event by event.
use Rattle.std.proofs.Common.{◌≡◌, ℕ, ◌+◌, Bool, List, [], refl, ap, add-one}
use Rattle.engine_events.specs.declared.event.Event.{Event}
use Rattle.state_edits_data.specs.Data.{data_edits, seam_edit}
use Rattle.state_edits_data.specs.RawText.{span_edit, span_edits}
use Rattle.state_edits_data.specs.Whitespace.{index_edit, white_edits}

pub data_start : (events : List Event) → data_edits events 0 ≡ []
unfolding data_edits
data_start events = refl

pub data_more : (events : List Event) (i : ℕ) → data_edits events (i + 1) ≡ seam_edit events i (data_edits events i)
unfolding data_edits
data_more events i = ap (data_edits events) (add-one i)

pub white_start : (in_text hard : Bool) (bytes : List ℕ) (events : List Event) → white_edits in_text hard bytes events 0 ≡ []
unfolding white_edits
white_start in_text hard bytes events = refl

pub white_more : (in_text hard : Bool) (bytes : List ℕ) (events : List Event) (i : ℕ)
    → white_edits in_text hard bytes events (i + 1) ≡ index_edit in_text hard bytes events i (white_edits in_text hard bytes events i)
unfolding white_edits
white_more in_text hard bytes events i = ap (white_edits in_text hard bytes events) (add-one i)

pub spans_start : (events : List Event) → span_edits events 0 ≡ []
unfolding span_edits
spans_start events = refl

pub spans_more : (events : List Event) (i : ℕ) → span_edits events (i + 1) ≡ span_edit events i (span_edits events i)
unfolding span_edits
spans_more events i = ap (span_edits events) (add-one i)
