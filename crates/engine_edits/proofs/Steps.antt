-- One edit of a walk over edits.
use Rattle.std.proofs.Common.{◌≡◌, ◌∙◌, ◌≤◌, ◌<◌, ◌+◌, ◌-◌, ◌^◌, ℕ, List, [], ◌∷◌, ◌++◌, length, map, None, ap, append_assoc, arith, refl, subst, sym}
use Rattle.std.specs.Prelude.{replicate}
use Rattle.engine_edits.specs.declared.edit.Edit.{Edit}
use Rattle.engine_edits.specs.Edits.{EditAt, edit_of}
use Rattle.engine_edits.specs.Replacement.{IsOrdered, Places, arrivals, places, places_from, rising}
use Rattle.engine_edits.specs.Placing.{Placing}

pub within : (from : ℕ) (es : List EditAt) (len : ℕ) → IsOrdered from es len → from ≤ len
within from [] len h = h
within from (e ∷ es) len h = let k = within (e.at + e.remove) es len h.1 in let l = h.0 in omega arith

pub record Bounds (from to count remove at more : ℕ) : Type 0 where
  pub low : from ≤ at
  pub high : at + remove ≤ count
  pub total : to + (at - from) + more < 2 ^ 64

bounds_of : (from to count : ℕ) (found : Places) (e : EditAt) (es all : List EditAt) → Placing from to count found (e ∷ es) all → count + arrivals all < 2 ^ 64
    → Bounds from to count e.remove e.at (length e.add)
bounds_of from to count found e es all p f =
    let low : from ≤ e.at = p.ordered.0 in
    let high = within (e.at + e.remove) es count p.ordered.1 in
    let room : to + (length e.add + arrivals es) ≤ from + arrivals all = p.room in
    record { low = low; high = high; total = omega arith }

placing_of : (from to count more to' : ℕ) (found found' : Places) (e : EditAt) (es all : List EditAt) → Placing from to count found (e ∷ es) all
    → more ≡ length e.add → to' ≡ to + (e.at - from + more) → found' ≡ (found ++ rising to (e.at - from)) ++ replicate e.remove None
    → Placing (e.at + e.remove) to' count found' es all
placing_of from to count more to' found found' e es all p n t f =
    let low : from ≤ e.at = p.ordered.0 in
    let room : to + (length e.add + arrivals es) ≤ from + arrivals all = p.room in
    let next : to' ≡ to + (e.at - from) + length e.add = omega arith in
    let stay = rising to (e.at - from) in
    let gone : Places = replicate e.remove None in
    let rest = places_from (e.at + e.remove) es (to + (e.at - from) + length e.add) count in
    record {
      ordered = p.ordered.1;
      room = omega arith;
      whole = ap (λ (z : ℕ). found' ++ places_from (e.at + e.remove) es z count) next
          ∙ (ap (λ (z : Places). z ++ rest) f ∙ (append_assoc (found ++ stay) gone rest ∙ (append_assoc found stay (gone ++ rest) ∙ p.whole)));
    }

-- what is left once no edit is
pub record Rest (from to count : ℕ) (found : Places) (all : List EditAt) : Type 0 where
  pub low : from ≤ count
  pub total : to + (count - from) < 2 ^ 64
  pub whole : found ++ rising to (count - from) ≡ places all count

rest_of : (from to count : ℕ) (found : Places) (all : List EditAt) → Placing from to count found [] all → count + arrivals all < 2 ^ 64
    → Rest from to count found all
rest_of from to count found all p f =
    let low : from ≤ count = p.ordered in
    let room : to + 0 ≤ from + arrivals all = p.room in
    record { low = low; total = omega arith; whole = p.whole }

module _ {A : Type 0} where
  pub placing_none : (count : ℕ) (found : Places) (left entries : List (ℕ × Edit A)) → left ≡ entries → found ≡ [] → IsOrdered 0 (map edit_of entries) count
      → Placing 0 0 count found (map edit_of left) (map edit_of entries)
  placing_none count found left entries s m o =
      let all = map edit_of entries in
      let start : Placing 0 0 count [] all all = record { ordered = o; room = omega arith; whole = refl } in
      subst (λ (z : List (ℕ × Edit A)). Placing 0 0 count found (map edit_of z) all) (sym s)
      (subst (λ (z : Places). Placing 0 0 count z all all) (sym m) start)

  pub placing_on : (from to count more to' : ℕ) (found stay found' : Places) (left rest : List (ℕ × Edit A)) (e : ℕ × Edit A) (all : List EditAt)
      → left ≡ e ∷ rest → Placing from to count found (map edit_of left) all → more ≡ length e.1.add.items → to' ≡ to + (e.0 - from + more)
      → stay ≡ found ++ rising to (e.0 - from) → found' ≡ stay ++ replicate e.1.remove None
      → Placing (e.0 + e.1.remove) to' count found' (map edit_of rest) all
  placing_on from to count more to' found stay found' left rest e all s p n t f g =
      placing_of from to count more to' found found' (edit_of e) (map edit_of rest) all (subst
      (λ (z : List (ℕ × Edit A)). Placing from to count found (map edit_of z) all) s p) n t
      (g ∙ ap (λ (z : Places). z ++ replicate e.1.remove None) f)

  pub placing_rest : (from to count : ℕ) (found : Places) (left : List (ℕ × Edit A)) (all : List EditAt) → left ≡ []
      → Placing from to count found (map edit_of left) all → count + arrivals all < 2 ^ 64 → Rest from to count found all
  placing_rest from to count found left all s p f =
      rest_of from to count found all (subst (λ (z : List (ℕ × Edit A)). Placing from to count found (map edit_of z) all) s p) f

module _ {A : Type 0} where
  -- the next edit of a walk over the entries
  pub bounds : (from to count : ℕ) (found : Places) (left rest : List (ℕ × Edit A)) (e : ℕ × Edit A) (all : List EditAt) → left ≡ e ∷ rest
      → Placing from to count found (map edit_of left) all → count + arrivals all < 2 ^ 64
      → Bounds from to count e.1.remove e.0 (length e.1.add.items)
  bounds from to count found left rest e all s p f =
      bounds_of from to count found (edit_of e) (map edit_of rest) all (subst
      (λ (z : List (ℕ × Edit A)). Placing from to count found (map edit_of z) all) s p) f

module _ {A : Type 0} where
  -- the next edit of a walk, where the rest is in order
  pub next_within : (from count : ℕ) (left rest : List (ℕ × Edit A)) (e : ℕ × Edit A) → left ≡ e ∷ rest → IsOrdered from (map edit_of left) count
      → (from ≤ e.0) × (e.0 + e.1.remove ≤ count)
  next_within from count left rest e s o =
      let q = subst (λ (z : List (ℕ × Edit A)). IsOrdered from (map edit_of z) count) s o in
      (q.0, within (e.0 + e.1.remove) (map edit_of rest) count q.1)
