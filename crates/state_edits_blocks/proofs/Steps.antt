-- Edits, event by event.
use Rattle.std.specs.Prelude.{is_none}
use Rattle.std.proofs.Common.{◌≡◌, ℕ, ◌+◌, if◌then◌else◌, List, [], ◌∷◌, None, refl, ap, add-one}
use Rattle.engine_events.specs.declared.event.Event.{Event}
use Rattle.engine_edits.specs.Edits.{EditAt}
use Rattle.state_edits_blocks.specs.Content.{ending_edit, ending_edits, linked, linked_at}
use Rattle.state_edits_blocks.specs.HeadingAtx.{atx_edits, heading_edit, known, nothing, seen_at}
use Rattle.state_edits_blocks.specs.HeadingSetext.{after_at, last, nothing as no_paragraph, setext_edits, underline_edit}
use Rattle.state_edits_blocks.specs.GfmTable.{after_index, index_edit as table_edit, no_table, table_before, wraps_before}
use Rattle.state_edits_blocks.specs.GfmTableRow.{index_edit, known_at, outside, row_before, row_edits}
use Rattle.state_edits_blocks.specs.ListItem.{edits_at, edits_before, levels_at, levels_before, marker_at, marker_within}

pub known_start : (events : List Event) → known events 0 ≡ nothing
unfolding known
known_start events = refl

pub known_more : (events : List Event) (i : ℕ) → known events (i + 1) ≡ seen_at events (known events i) i
unfolding known
known_more events i = ap (known events) (add-one i)

pub atx_start : (events : List Event) → atx_edits events 0 ≡ []
unfolding atx_edits
atx_start events = refl

pub atx_more : (events : List Event) (i : ℕ) → atx_edits events (i + 1) ≡ heading_edit events (known events i) i (atx_edits events i)
unfolding atx_edits
atx_more events i = ap (atx_edits events) (add-one i)

pub last_start : (events : List Event) → last events 0 ≡ no_paragraph
unfolding last
last_start events = refl

pub last_more : (events : List Event) (i : ℕ) → last events (i + 1) ≡ after_at events (last events i) i
unfolding last
last_more events i = ap (last events) (add-one i)

pub setext_start : (events : List Event) → setext_edits events 0 ≡ []
unfolding setext_edits
setext_start events = refl

pub setext_more : (events : List Event) (i : ℕ)
    → setext_edits events (i + 1) ≡ underline_edit events (last events i) i (setext_edits events i)
unfolding setext_edits
setext_more events i = ap (setext_edits events) (add-one i)

pub levels_start : (bytes : List ℕ) (events : List Event) → levels_before bytes events 0 ≡ None ∷ []
unfolding levels_before
levels_start bytes events = refl

pub levels_more : (bytes : List ℕ) (events : List Event) (i : ℕ)
    → levels_before bytes events (i + 1) ≡ levels_at bytes events i (levels_before bytes events i)
unfolding levels_before
levels_more bytes events i = ap (levels_before bytes events) (add-one i)

pub lists_start : (bytes : List ℕ) (events : List Event) → edits_before bytes events 0 ≡ []
unfolding edits_before
lists_start bytes events = refl

pub lists_more : (bytes : List ℕ) (events : List Event) (i : ℕ)
    → edits_before bytes events (i + 1) ≡ edits_at bytes events i (levels_before bytes events i) (edits_before bytes events i)
unfolding edits_before
lists_more bytes events i = ap (edits_before bytes events) (add-one i)

pub marker_none : (bytes : List ℕ) (events : List Event) (i : ℕ) → marker_within bytes events i 0 ≡ None
unfolding marker_within
marker_none bytes events i = refl

pub marker_more : (bytes : List ℕ) (events : List Event) (i n : ℕ)
    → marker_within bytes events i (n + 1) ≡ (if is_none (marker_within bytes events i n) then marker_at bytes events (i + n) else marker_within bytes events i n)
unfolding marker_within
marker_more bytes events i n = ap (marker_within bytes events i) (add-one n)

pub row_start : (events : List Event) → row_before events 0 ≡ outside
unfolding row_before
row_start events = refl

pub row_more : (events : List Event) (i : ℕ) → row_before events (i + 1) ≡ known_at events (row_before events i) i
unfolding row_before
row_more events i = ap (row_before events) (add-one i)

pub rows_start : (events : List Event) (edits : List EditAt) → row_edits events edits 0 ≡ edits
unfolding row_edits
rows_start events edits = refl

pub rows_more : (events : List Event) (edits : List EditAt) (i : ℕ)
    → row_edits events edits (i + 1) ≡ index_edit events (row_before events i) i (row_edits events edits i)
unfolding row_edits
rows_more events edits i = ap (row_edits events edits) (add-one i)

pub table_start : (events : List Event) → table_before events 0 ≡ no_table
unfolding table_before
table_start events = refl

pub table_more : (events : List Event) (i : ℕ) → table_before events (i + 1) ≡ after_index events (table_before events i) i
unfolding table_before
table_more events i = ap (table_before events) (add-one i)

pub wraps_start : (events : List Event) (edits : List EditAt) → wraps_before events edits 0 ≡ edits
unfolding wraps_before
wraps_start events edits = refl

pub wraps_more : (events : List Event) (edits : List EditAt) (i : ℕ)
    → wraps_before events edits (i + 1) ≡ table_edit events (table_before events i) i (wraps_before events edits i)
unfolding wraps_before
wraps_more events edits i = ap (wraps_before events edits) (add-one i)

pub linked_start : (events : List Event) → linked events 0 ≡ events
unfolding linked
linked_start events = refl

pub linked_more : (events : List Event) (i : ℕ) → linked events (i + 1) ≡ linked_at (linked events i) i
unfolding linked
linked_more events i = ap (linked events) (add-one i)

pub ending_start : (events : List Event) → ending_edits events 0 ≡ []
unfolding ending_edits
ending_start events = refl

pub ending_more : (events : List Event) (i : ℕ) → ending_edits events (i + 1) ≡ ending_edit (linked events i) i (ending_edits events i)
unfolding ending_edits
ending_more events i = ap (ending_edits events) (add-one i)
