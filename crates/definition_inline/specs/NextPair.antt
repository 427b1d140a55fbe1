-- Which pair of runs comes next, from the pairs so far (CommonMark 6.2).
use Rattle.std.specs.Prelude.{◌≡◌, ◌<◌, ◌≤◌, ◌+◌, ℕ, Bool, true, false, if◌then◌else◌, ◌==◌, ◌&&◌, ◌||◌, nat_lt, List, [], ◌∷◌, slice_index_or}
use Rattle.definition_inline.specs.Attention.{Run}
use Rattle.definition_inline.specs.Pairing.{Pair, OpenRun, open_run, is_eligible, taken_by, without}

-- The pairs so far are given with the last one first.

-- the run at a place; past the last one nothing stands, which forms no pair
abbrev pub no_run : Run
no_run = record { marker = 0; left = 0; may_open = false; may_close = false }

abbrev pub run_by_place : List Run → ℕ → Run
run_by_place runs place = slice_index_or runs place no_run

-- how many bytes of the run at a place a pair takes
abbrev pub taken_at : ℕ → Pair → ℕ
taken_at place p = if (p.opener == place) || (p.closer == place) then p.taken else 0

-- how many the pairs so far take
abbrev pub total_taken : List Pair → ℕ → ℕ
total_taken [] place = 0
total_taken (p ∷ ps) place = taken_at place p + total_taken ps place

-- what is left of the run at a place
abbrev pub left_at : List Run → List Pair → ℕ → OpenRun
left_at runs so_far place = without (total_taken so_far place) (open_run (run_by_place runs place) place)

-- a place strictly inside of a pair
abbrev pub is_within : ℕ → Pair → Bool
is_within place p = nat_lt p.opener place && nat_lt place p.closer

-- a place strictly inside of one of the pairs so far: a pair from there would cross it
abbrev pub is_inside : List Pair → ℕ → Bool
is_inside [] place = false
is_inside (p ∷ ps) place = is_within place p || is_inside ps place

-- the closer of the last pair
abbrev pub last_closer : List Pair → ℕ
last_closer [] = 0
last_closer (p ∷ ps) = p.closer

-- two runs that may go together: the opener first, by what is left of them, and no pair so far is crossed (CommonMark 6.2)
pub record IsEligiblePair (runs : List Run) (so_far : List Pair) (opener closer : ℕ) : Type 0 where
  pub ordered : opener < closer
  pub eligible : is_eligible (left_at runs so_far opener) (left_at runs so_far closer) ≡ true
  pub uncrossed : is_inside so_far opener ≡ false

-- the next pair: eligible, with the leftmost closer that isn't before the last one, and then with the nearest opener (CommonMark 6.2)
pub record IsNextPair (runs : List Run) (so_far : List Pair) (p : Pair) : Type 0 where
  pub eligible : IsEligiblePair runs so_far p.opener p.closer
  pub goes_on : last_closer so_far ≤ p.closer
  pub leftmost : (opener closer : ℕ) → last_closer so_far ≤ closer → closer < p.closer → IsEligiblePair runs so_far opener closer → ⊥
  pub nearest : (opener : ℕ) → p.opener < opener → IsEligiblePair runs so_far opener p.closer → ⊥
  pub taken : p.taken ≡ taken_by (left_at runs so_far p.opener) (left_at runs so_far p.closer)

-- the pairs that come after the pairs so far, up to the last (CommonMark 6.2)
pub data AreNext (runs : List Run) : List Pair → List Pair → Type 0 where
  -- no pair comes next
  NoMore : (so_far : List Pair)
      → ((opener closer : ℕ) → last_closer so_far ≤ closer → IsEligiblePair runs so_far opener closer → ⊥)
      → AreNext runs so_far []
  -- a pair comes next, and others after it
  NextIs : (so_far : List Pair) (p : Pair) (others : List Pair) → IsNextPair runs so_far p → AreNext runs (p ∷ so_far) others
      → AreNext runs so_far (p ∷ others)
