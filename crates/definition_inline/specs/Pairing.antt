-- Which runs of a container go together (CommonMark 6.2). RunPairs.antt and NextPair.antt say it again as relations.
use Rattle.std.specs.Prelude.{ℕ, zero, suc, ◌+◌, ◌-◌, ◌%◌, Bool, not, if◌then◌else◌, ◌==◌, ◌&&◌, ◌||◌, nat_le, List, [], ◌∷◌, ◌++◌, drop}
use Rattle.std.specs.List.{prefix_len, sum_by}
use Rattle.definition_inline.specs.Attention.{Run, are_fitting}

-- a run that is open, with its place among the runs of its container
pub record OpenRun : Type 0 where
  pub run : Run
  pub place : ℕ

-- two runs that go together, by their places, and how many bytes of each belong to the pair
pub record Pair : Type 0 where
  pub opener : ℕ
  pub closer : ℕ
  pub taken : ℕ

abbrev pub open_run : Run → ℕ → OpenRun
open_run run place = record { run = run; place = place }

-- no pair: one of the two may both open and close, and what is left of them makes a multiple of three together, but not of each alone (CommonMark 6.2)
abbrev pub is_ruled_out_by_three : Run → Run → Bool
is_ruled_out_by_three opener closer =
    (opener.may_close || closer.may_open) && (not (closer.left % 3 == 0) && ((opener.left + closer.left) % 3 == 0))

-- two runs that may form a pair: of one byte, something left of both, of sizes that fit, and not ruled out (CommonMark 6.2)
abbrev pub may_pair : Run → Run → Bool
may_pair opener closer =
    ((opener.marker == closer.marker) && are_fitting opener.marker opener.left closer.left)
    && ((opener.may_open && nat_le 1 opener.left)
    && ((closer.may_close && nat_le 1 closer.left) && not (is_ruled_out_by_three opener closer)))

-- a pair takes two bytes of each where both have two left: of `*` and `_` it is strong emphasis (CommonMark 6.2)
abbrev pub bytes_of_pair : Run → Run → ℕ
bytes_of_pair opener closer = if nat_le 2 opener.left && nat_le 2 closer.left then 2 else 1

abbrev pub is_eligible : OpenRun → OpenRun → Bool
is_eligible opener closer = may_pair opener.run closer.run

abbrev pub taken_by : OpenRun → OpenRun → ℕ
taken_by opener closer = bytes_of_pair opener.run closer.run

-- what is left of a run after so many bytes
abbrev pub without : ℕ → OpenRun → OpenRun
without count p = open_run (record p.run { left = p.run.left - count }) p.place

-- a run that has something left and may open
abbrev pub openers_of : OpenRun → List OpenRun
openers_of p = if p.run.may_open && not (p.run.left == 0) then p ∷ [] else []

-- the pair that two runs form
abbrev pub pair_of : OpenRun → OpenRun → Pair
pair_of opener closer = record { opener = opener.place; closer = closer.place; taken = taken_by opener closer }

-- the openers from the nearest eligible one on; openers are given with the nearest first (CommonMark 6.2)
abbrev pub from_nearest : List OpenRun → OpenRun → List OpenRun
from_nearest openers closer = drop (prefix_len (λ o. not (is_eligible o closer)) openers) openers

-- A run pairs with the nearest eligible opener, what is left of both goes on, and the openers between go, so that nothing crosses the pair; with no eligible
-- opener what is left of the run may open (CommonMark 6.2).
abbrev pub pair_or_open : List OpenRun → List OpenRun → OpenRun → List OpenRun → (List OpenRun → List OpenRun → List Pair) → List Pair
pair_or_open [] openers run others more = more (openers_of run ++ openers) others
pair_or_open (opener ∷ before) openers run others more =
    let taken = taken_by opener run in
    pair_of opener run ∷ more (openers_of (without taken opener) ++ before) (without taken run ∷ others)

-- the pairs of runs from left to right after these openers, in at most so many steps (CommonMark 6.2)
abbrev pub pairs_after : ℕ → List OpenRun → List OpenRun → List Pair
pairs_after zero openers runs = []
pairs_after (suc most) openers [] = []
pairs_after (suc most) openers (run ∷ others) = pair_or_open (from_nearest openers run) openers run others (pairs_after most)

-- how many steps runs need at most: each takes a byte or more of a run, or goes on to the next one
abbrev pub steps : List OpenRun → ℕ
steps runs = sum_by (λ (p : OpenRun). 1 + p.run.left) runs

-- runs with their places from this one on
abbrev pub placed_from : ℕ → List Run → List OpenRun
placed_from place [] = []
placed_from place (run ∷ others) = open_run run place ∷ placed_from (place + 1) others

-- the pairs of the runs of one container (CommonMark 6.2)
abbrev pub pairs : List Run → List Pair
pairs runs = let placed = placed_from 0 runs in pairs_after (steps placed) [] placed
