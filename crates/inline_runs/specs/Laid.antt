-- What each run becomes.
use Rattle.std.specs.Prelude.{◌≡◌, ◌<◌, ◌≤◌, ◌+◌, ◌-◌, ℕ, List, length, reverse, slice_index, slice_index_or, slice_range}
use Rattle.std.specs.List.{sum_by}
use Rattle.inline_runs.specs.View.{bytes_by}
use Rattle.inline_runs.specs.Threads.{closed_by, opened_by}
use Rattle.inline_runs.specs.declared.pair.Pair.{Pair}
use Rattle.inline_runs.specs.declared.pairs.Pairs.{Pairs}
use Rattle.inline_runs.specs.declared.spans.RunLayout.{RunLayout}
use Rattle.inline_runs.specs.declared.spans.OpenedPairs.{OpenedPairs}

abbrev pub pair_bytes : Pair → ℕ
pair_bytes p = bytes_by p.double

abbrev pub bytes : List Pair → ℕ
bytes ps = sum_by pair_bytes ps

-- the pairs that the run at a place opens, the last first, are these of the opened ones
pub record IsLaid (ps : List Pair) (place : ℕ) (all : List Pair) (l : RunLayout) : Type 0 where
  pub in_order : l.start ≤ l.end
  pub within : l.end ≤ length all
  pub opened : slice_range all l.start l.end ≡ reverse (opened_by place ps)

abbrev pub AreLaid : List Pair → List Pair → List RunLayout → Type 0
AreLaid ps all laid = (i : ℕ) (d : RunLayout) → i < length laid → IsLaid ps i all (slice_index_or laid i d)

-- of a run of this size so many bytes are in no pair
abbrev pub text_at : List Pair → ℕ → ℕ → ℕ
text_at ps place size = size - (bytes (closed_by place ps) + bytes (opened_by place ps))

abbrev pub AreTexts : List Pair → List ℕ → List RunLayout → Type 0
AreTexts ps sizes laid = (i : ℕ) (d : RunLayout) → i < length laid → (slice_index_or laid i d).text ≡ text_at ps i (slice_index sizes i)

-- of each run so far it is known which pairs it opens, and how many of its bytes are text
abbrev pub IsLaidOut : {A : Type 0} → Pairs A → OpenedPairs A → Type 0
IsLaidOut ps o = AreLaid ps.pairs.items o.opened.items o.laid.items

abbrev pub HasTexts : {A : Type 0} → Pairs A → List ℕ → OpenedPairs A → Type 0
HasTexts ps sizes o = AreTexts ps.pairs.items sizes o.laid.items
