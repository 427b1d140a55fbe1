-- The pairs of the runs of one container in the words of the standard (CommonMark 6.2).
use Rattle.std.specs.Prelude.{◌≡◌, ◌<◌, ℕ, true, false, List, [], ◌∷◌, ◌++◌, length, take, slice_index_or}
use Rattle.definition_inline.specs.Pairing.{Pair, OpenRun, is_eligible, taken_by, without, openers_of, pair_of}

-- The pairs of runs from left to right, over the openers before them that no pair crosses.
pub data ArePairs : List OpenRun → List OpenRun → List Pair → Type 0 where
  -- no run is left
  NoRuns : (before : List OpenRun) → ArePairs before [] []
  -- no opener before a run may pair with it: what is left of the run may open
  Opens : (before : List OpenRun) (run : OpenRun) (others : List OpenRun) (pairs : List Pair)
      → ((place : ℕ) → place < length before → is_eligible (slice_index_or before place run) run ≡ false)
      → ArePairs (before ++ openers_of run) others pairs → ArePairs before (run ∷ others) pairs
  -- the nearest opener that may pair with a run does: the openers between go, what is left of the opener may open again, and what is left of the run goes on
  Closes : (before : List OpenRun) (run : OpenRun) (others : List OpenRun) (pairs : List Pair) (place : ℕ) (opener : OpenRun)
      → place < length before → opener ≡ slice_index_or before place run → is_eligible opener run ≡ true
      → ((later : ℕ) → place < later → later < length before → is_eligible (slice_index_or before later run) run ≡ false)
      → ArePairs (take place before ++ openers_of (without (taken_by opener run) opener)) (without (taken_by opener run) run ∷ others) pairs
      → ArePairs before (run ∷ others) (pair_of opener run ∷ pairs)
