-- Openers as the definition has them, and below which of them no search has to look.
use Rattle.std.specs.Prelude.{◌≡◌, ◌<◌, ◌≤◌, ◌+◌, ◌%◌, ℕ, Bool, false, not, if◌then◌else◌, ◌==◌, ◌&&◌, ◌||◌, nat_le, List, map, length, slice_index_or, All}
use Rattle.definition_inline.specs.Attention.{Run as RunOf, is_whole, are_fitting}
use Rattle.definition_inline.specs.Pairing.{OpenRun as PlacedOf, open_run}
use Rattle.inline_runs.specs.View.{run_view}
use Rattle.inline_runs.specs.declared.openers.PlacedRun.{PlacedRun}
use Rattle.inline_runs.specs.declared.openers.Opener.{Opener}
use Rattle.inline_runs.specs.declared.openers.Want.{Want}
use Rattle.inline_runs.specs.declared.openers.Floor.{Floor}
use Rattle.inline_runs.specs.declared.openers.Openers.{Openers}

abbrev pub placed_view : PlacedRun → PlacedOf
placed_view p = open_run (run_view p.run) p.place

abbrev pub opener_view : Opener → PlacedOf
opener_view o = placed_view o.placed

abbrev pub openers_view : {A : Type 0} → Openers A → List PlacedOf
openers_view o = map opener_view o.openers.items

-- the size of a run that goes with as many alone, and otherwise 0
abbrev pub whole_size : RunOf → ℕ
whole_size c = if is_whole c.marker then c.left else 0

-- what matters of a closer
abbrev pub want_of : RunOf → Want
want_of c = record { marker = c.marker; may_open = c.may_open; rest = c.left % 3; whole = whole_size c }

-- whether a run may close a span, and has a byte left
abbrev pub can_close : RunOf → Bool
can_close c = c.may_close && nat_le 1 c.left

-- the rule of three, over what is left of both
abbrev pub is_ruled_out : RunOf → Want → Bool
is_ruled_out o w = (o.may_close || w.may_open) && (not (w.rest == 0) && ((o.left + w.rest) % 3 == 0))

-- whether an opener may pair with such a closer
abbrev pub fits : RunOf → Want → Bool
fits o w = ((o.marker == w.marker) && are_fitting o.marker o.left w.whole) && ((o.may_open && nat_le 1 o.left) && not (is_ruled_out o w))

-- whether the opener at a place may pair with such a closer
abbrev pub FitsAt : List Opener → ℕ → Want → Bool → Type 0
FitsAt openers k w whether = (d : Opener) → fits (run_view (slice_index_or openers k d).placed.run) w ≡ whether

-- no opener up to one that is older than the floor fits
pub record IsFloor (openers : List Opener) (want : Want) (floor : ℕ) : Type 0 where
  pub none : (k j : ℕ) (d : Opener) → k < length openers → (slice_index_or openers k d).since < floor → j ≤ k
      → fits (run_view (slice_index_or openers j d).placed.run) want ≡ false

pub record IsFloorOf (openers : List Opener) (now : ℕ) (f : Floor) : Type 0 where
  pub past : f.place ≤ now
  pub floor : IsFloor openers f.want f.place

-- what is known of openers while the run at a place is read: they stand before it, and the floors are floors
pub record AreOpenersAt {A : Type 0} (o : Openers A) (now : ℕ) : Type 0 where
  pub early : All (λ (p : Opener). p.placed.place < now) o.openers.items
  pub floors : All (IsFloorOf o.openers.items now) o.floors.items
