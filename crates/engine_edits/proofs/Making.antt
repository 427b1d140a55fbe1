-- One edit of the walk that makes the new list.
use Rattle.std.proofs.Common.{◌≡◌, ◌≤◌, ◌+◌, ◌-◌, ◌∙◌, ◌++◌, ℕ, List, [], ◌∷◌, length, map, take, drop, arith, refl, subst, sym, ap, append_assoc, length-drop}
use Rattle.std.proofs.lemmas.List.{take_all, length-map, take-map}
use Rattle.std.specs.List.{drop-map}
use Rattle.engine_events.specs.declared.event.Event.{Event}
use Rattle.engine_edits.specs.declared.edit.Edit.{Edit}
use Rattle.engine_edits.specs.Edits.{EditAt, edit_of}
use Rattle.engine_edits.specs.Replacement.{IsOrdered, Places, replacement, with_new_links}
use Rattle.engine_edits.specs.Placing.{Replacing}
use Rattle.engine_edits.proofs.Steps.{within}

pub record Fitting (from at remove count : ℕ) : Type 0 where
  pub low : from ≤ at
  pub high : at + remove ≤ count

fitting_of : (from : ℕ) (made : List Event) (e : EditAt) (es all : List EditAt) (old : List Event) → Replacing from made (e ∷ es) all old
    → Fitting from e.at e.remove (length old)
fitting_of from made e es all old p = record { low = p.ordered.0; high = within (e.at + e.remove) es (length old) p.ordered.1 }

made_of : (from : ℕ) (made made' : List Event) (e : EditAt) (es all : List EditAt) (old : List Event) → Replacing from made (e ∷ es) all old
    → made' ≡ (made ++ take (e.at - from) (drop from old)) ++ e.add → Replacing (e.at + e.remove) made' es all old
made_of from made made' e es all old p m = record {
  ordered = p.ordered.1;
  whole =
      let rest = replacement (e.at + e.remove) es old in
      let kept = take (e.at - from) (drop from old) in
      ap (λ (z : List Event). z ++ rest) m ∙ (append_assoc (made ++ kept) e.add rest ∙ (append_assoc made kept (e.add ++ rest) ∙ p.whole));
}

kept_map : (f : Event → Event) (n from : ℕ) (events : List Event) → map f (take n (drop from events)) ≡ take n (drop from (map f events))
kept_map f n from events = sym (take-map f n (drop from events)) ∙ ap (take n) (sym (drop-map f from events))

module _ {A : Type 0} (ps : Places) (events : List Event) where
  pub fitting : (from : ℕ) (made : List Event) (left rest : List (ℕ × Edit A)) (e : ℕ × Edit A) (all : List EditAt) → left ≡ e ∷ rest
      → Replacing from made (map edit_of left) all (map (with_new_links ps) events)
      → Fitting from e.0 e.1.remove (length events)
  fitting from made left rest e all s p =
      let q = subst (λ (z : List (ℕ × Edit A)). Replacing from made (map edit_of z) all (map (with_new_links ps) events)) s p in
      subst (λ (n : ℕ). Fitting from e.0 e.1.remove n) (length-map events (with_new_links ps))
      (fitting_of from made (edit_of e) (map edit_of rest) all (map (with_new_links ps) events) q)

  pub replacing_none : (made : List Event) (left entries : List (ℕ × Edit A)) → left ≡ entries → made ≡ [] → IsOrdered 0 (map edit_of entries) (length events)
      → Replacing 0 made (map edit_of left) (map edit_of entries) (map (with_new_links ps) events)
  replacing_none made left entries s m o =
      let all = map edit_of entries in
      let old = map (with_new_links ps) events in
      let start : Replacing 0 [] all all old =
      record { ordered = subst (λ (n : ℕ). IsOrdered 0 all n) (sym (length-map events (with_new_links ps))) o; whole = refl } in
      subst (λ (z : List (ℕ × Edit A)). Replacing 0 made (map edit_of z) all old) (sym s)
      (subst (λ (z : List Event). Replacing 0 z all all old) (sym m) start)

  -- at the end the last one ends within the list
  pub ends_within : (from : ℕ) (made : List Event) (left : List (ℕ × Edit A)) (all : List EditAt) → left ≡ []
      → Replacing from made (map edit_of left) all (map (with_new_links ps) events) → from ≤ length events
  ends_within from made left all s p =
      let q = subst (λ (z : List (ℕ × Edit A)). Replacing from made (map edit_of z) all (map (with_new_links ps) events)) s p in
      subst (λ (n : ℕ). from ≤ n) (length-map events (with_new_links ps)) q.ordered

  pub making : (from : ℕ) (made kept made' : List Event) (left rest : List (ℕ × Edit A)) (e : ℕ × Edit A) (all : List EditAt) → left ≡ e ∷ rest
      → Replacing from made (map edit_of left) all (map (with_new_links ps) events)
      → kept ≡ made ++ map (with_new_links ps) (take (e.0 - from) (drop from events)) → made' ≡ kept ++ e.1.add.items
      → Replacing (e.0 + e.1.remove) made' (map edit_of rest) all (map (with_new_links ps) events)
  making from made kept made' left rest e all s p k m =
      let q = subst (λ (z : List (ℕ × Edit A)). Replacing from made (map edit_of z) all (map (with_new_links ps) events)) s p in
      made_of from made made' (edit_of e) (map edit_of rest) all (map (with_new_links ps) events) q
      (m ∙ ap (λ (z : List Event). z ++ e.1.add.items) (k ∙ ap (λ (z : List Event). made ++ z) (kept_map (with_new_links ps) (e.0 - from) from events)))

  pub done : (from : ℕ) (made made' : List Event) (left : List (ℕ × Edit A)) (all : List EditAt) → left ≡ []
      → Replacing from made (map edit_of left) all (map (with_new_links ps) events)
      → made' ≡ made ++ map (with_new_links ps) (take (length events - from) (drop from events)) → made' ≡ replacement 0 all (map (with_new_links ps) events)
  done from made made' left all s p k =
      let q = subst (λ (z : List (ℕ × Edit A)). Replacing from made (map edit_of z) all (map (with_new_links ps) events)) s p in
      let rest : take (length events - from) (drop from events) ≡ drop from events =
      take_all (length events - from) (drop from events) (rw length-drop (omega arith)) in
      k ∙ (ap (λ (z : List Event). made ++ z) (ap (map (with_new_links ps)) rest ∙ sym (drop-map (with_new_links ps) from events)) ∙ q.whole)
