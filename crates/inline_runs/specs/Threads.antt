-- Which pairs a run is in.
use Rattle.std.specs.Prelude.{◌≡◌, ◌<◌, ◌≤◌, ◌-◌, ℕ, ◌==◌, List, [], ◌∷◌, ◌++◌, length, take, drop, slice_index_or, slice_range, All}
use Rattle.std.specs.List.{filter}
use Rattle.definition_inline.specs.Pairing.{Pair as PairOf}
use Rattle.inline_runs.specs.View.{pairs_view}
use Rattle.inline_runs.specs.declared.pair.Pair.{Pair}
use Rattle.inline_runs.specs.declared.pairs.Ends.{Ends}
use Rattle.inline_runs.specs.declared.pairs.Pairs.{Pairs}

abbrev pub pair_between : ℕ → ℕ → ℕ → PairOf
pair_between opener closer taken = record { opener = opener; closer = closer; taken = taken }

-- the pairs that the run at a place closes
abbrev pub closed_by : ℕ → List Pair → List Pair
closed_by place ps = filter (λ (p : Pair). p.closer == place) ps

-- the pairs that the run at a place opens
abbrev pub opened_by : ℕ → List Pair → List Pair
opened_by place ps = filter (λ (p : Pair). p.opener == place) ps

-- so many pairs end with the last one that a run opens
pub record IsLast (place : ℕ) (ps : List Pair) (count : ℕ) : Type 0 where
  pub within : count ≤ length ps
  pub all : opened_by place (take count ps) ≡ opened_by place ps
  pub there : (d : Pair) → 0 < count → (slice_index_or ps (count - 1) d).opener ≡ place

-- of each pair it is known which pair before it has the same opener
abbrev pub AreLinked : List Pair → Type 0
AreLinked ps = (k : ℕ) (d : Pair) → k < length ps → IsLast (slice_index_or ps k d).opener (take k ps) (slice_index_or ps k d).earlier

-- of a run it is known which pairs it is in
pub record IsEnds (ps : List Pair) (place : ℕ) (e : Ends) : Type 0 where
  pub in_order : e.first_closed ≤ e.closed_end
  pub within : e.closed_end ≤ length ps
  pub closed : slice_range ps e.first_closed e.closed_end ≡ closed_by place ps
  pub opened : IsLast place ps e.last_opened

-- a pair of a run that was read and one that is being read, or was
pub record IsRead (place : ℕ) (p : Pair) : Type 0 where
  pub opener : p.opener < place
  pub closer : p.closer ≤ place

-- what is known of the pairs and the runs that they are in
pub record AreThreaded (ps : List Pair) (es : List Ends) (first : ℕ) : Type 0 where
  pub links : AreLinked ps
  pub ends : (i : ℕ) (d : Ends) → i < length es → IsEnds ps i (slice_index_or es i d)
  pub read : All (IsRead (length es)) ps
  pub within : first ≤ length ps
  pub now : drop first ps ≡ closed_by (length es) ps

abbrev pub HasThreads : {A : Type 0} → Pairs A → Type 0
HasThreads p = AreThreaded p.pairs.items p.ends.items p.first

-- one more pair is found
abbrev pub Adds : {A : Type 0} → Pairs A → Pairs A → PairOf → Type 0
Adds old new pair = pairs_view new.pairs.items ≡ pairs_view old.pairs.items ++ pair ∷ []
