use Rattle.std.proofs.Common.{◌≡◌, ◌≤◌, ◌*◌, map, take, vec_capacity, vec_len}
use Rattle.parse_output.proofs.Prelude.{AreInOrder, ArePlain, first_end, IsPlace, IsTold, mark_of, marks_of}
use Rattle.parse_output.proofs.Forests.{IsRead}
use Rattle.parse_output.proofs.points.push_drafts.Given as goal

abbrev pub invariant-loop-draft : goal.invariant-loop-draft
invariant-loop-draft g l =
    IsPlace l.text l.place × IsTold l.text l.events.items l.place × (map mark_of l.events.items ≡ marks_of (take l.draft-index l.drafts))
    × (vec_len l.events ≤ 2 * l.draft-index) × (vec_capacity l.events ≡ vec_capacity l.fn.events) × ArePlain l.text l.place.spot.index l.plain
    × (AreInOrder l.text first_end l.drafts → IsRead l.text (take l.draft-index l.drafts) l.place l.events.items)
