-- The pairs of runs as they are found: by a stack of the openers that no pair crosses. They are the definition's (CommonMark 6.2).
use Rattle.std.specs.Prelude.{ℕ, zero, suc, ◌-◌, Bool, true, false, not, ◌==◌, List, [], ◌∷◌, ◌++◌, length, take, slice_index_or}
use Rattle.std.specs.List.{suffix_len, fold}
use Rattle.definition_inline.specs.Attention.{Run}
use Rattle.definition_inline.specs.Pairing.{Pair, OpenRun, is_eligible, taken_by, without, openers_of, pair_of, placed_from}

-- the openers that no pair crosses, the nearest last, and the pairs so far
pub record Pairing : Type 0 where
  pub openers : List OpenRun
  pub pairs : List Pair

abbrev pub pairing : List OpenRun → List Pair → Pairing
pairing openers pairs = record { openers = openers; pairs = pairs }

-- how many openers stand up to the nearest eligible one, none where there is no such
abbrev pub up_to_nearest : List OpenRun → OpenRun → ℕ
up_to_nearest openers closer = length openers - suffix_len (λ o. not (is_eligible o closer)) openers

-- the nearest eligible opener
abbrev pub nearest : List OpenRun → OpenRun → OpenRun
nearest openers closer = slice_index_or openers (up_to_nearest openers closer - 1) closer

-- an eligible opener and the closer make a pair; the openers between go, so that nothing crosses it (CommonMark 6.2)
abbrev pub with_pair : Pairing → OpenRun → OpenRun → Pairing
with_pair so_far opener closer =
    pairing (take (up_to_nearest so_far.openers closer - 1) so_far.openers ++ openers_of (without (taken_by opener closer) opener))
    (so_far.pairs ++ pair_of opener closer ∷ [])

-- what is left of a run may open
abbrev pub with_opener : Pairing → OpenRun → Pairing
with_opener so_far p = pairing (so_far.openers ++ openers_of p) so_far.pairs

-- the closer pairs with this opener, and what is left of it goes on; or it may open, where no opener was found
abbrev pub pair_or_open : Bool → Pairing → OpenRun → OpenRun → (Pairing → OpenRun → Pairing) → Pairing
pair_or_open true so_far opener closer more = with_opener so_far closer
pair_or_open false so_far opener closer more = more (with_pair so_far opener closer) (without (taken_by opener closer) closer)

-- a run closes what it can, at most so many times, and what is left of it may open (CommonMark 6.2)
abbrev pub close : ℕ → Pairing → OpenRun → Pairing
close zero so_far closer = with_opener so_far closer
close (suc most) so_far closer =
    pair_or_open (up_to_nearest so_far.openers closer == 0) so_far (nearest so_far.openers closer) closer (close most)

-- one more run
abbrev pub next_run : Pairing → OpenRun → Pairing
next_run so_far p = close p.run.left so_far p

-- the pairs of the runs of one container, from left to right (CommonMark 6.2)
abbrev pub found_pairs : List Run → List Pair
found_pairs runs = (fold next_run (pairing [] []) (placed_from 0 runs)).pairs
