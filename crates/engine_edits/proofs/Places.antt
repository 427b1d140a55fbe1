-- The entries of the map as edits.
use Rattle.std.proofs.Common.{◌≡◌, ◌∙◌, ℕ, Bool, true, false, ◌==◌, nat_lt, List, [], ◌∷◌, map, Some, None, refl, sym, ap, subst, nat_cmp, Result, Ok, Err}
use Rattle.std.proofs.Common.{OnErr}
use Rattle.std.specs.Cmp.{unsigned_tied}
use Rattle.std.specs.Map.{lookup, set_value}
use Rattle.std.specs.BTreeMap.{insert_entry, is_at}
use Rattle.engine_events.specs.declared.event.Event.{Event}
use Rattle.engine_edits.specs.Counts.{together}
use Rattle.engine_edits.specs.declared.edit.Edit.{Edit}
use Rattle.engine_edits.specs.Edits.{EditAt, both_additions, edit_at, edit_of, merge, with_merge, with_new, has_place}

tied : (k q : ℕ) (t : Bool) → (k == q) ≡ t → is_at (nat_cmp k) q ≡ t
tied k q t e = unsigned_tied k q ∙ e

module _ {A : Type 0} where
  -- what `edit` is after a merge
  pub record Merges (before : Bool) (remove : ℕ) (add : List Event) (old new : Edit A) : Type 0 where
    pub removes : new.remove ≡ together old.remove remove
    pub adds : new.add.items ≡ both_additions before add old.add.items

  one_merged : (before : Bool) (k remove : ℕ) (add : List Event) (q : ℕ) (old new : Edit A) → Merges before remove add old new
      → edit_at q new.remove new.add.items ≡ merge before remove add (edit_at q old.remove old.add.items)
  one_merged before k remove add q old new h =
      ap (λ (n : ℕ). edit_at q n new.add.items) h.removes ∙ ap (λ (xs : List Event). edit_at q (together old.remove remove) xs) h.adds

  some_same : {x y : Edit A} → Some x ≡ Some y → x ≡ y
  some_same h = cc

  pub set_merged : (before : Bool) (k remove : ℕ) (add : List Event) (es : List (ℕ × Edit A)) (old new : Edit A) → lookup (is_at (nat_cmp k)) es ≡ Some old
      → Merges before remove add old new
      → map edit_of (set_value (is_at (nat_cmp k)) es new) ≡ with_merge before k remove add (map edit_of es)
  set_merged before k remove add [] old new l h = refl
  set_merged before k remove add (e ∷ es) old new l h = pick (k == e.0) refl (set_merged before k remove add es old new)
    where
      pick : (t : Bool) → (k == e.0) ≡ t → (lookup (is_at (nat_cmp k)) es ≡ Some old → Merges before remove add old new
          → map edit_of (set_value (is_at (nat_cmp k)) es new) ≡ with_merge before k remove add (map edit_of es))
          → map edit_of (set_value (is_at (nat_cmp k)) (e ∷ es) new) ≡ with_merge before k remove add (map edit_of (e ∷ es))
      pick true q ih =
          let s = tied k e.0 true q in
          let f : Some e.1 ≡ Some old = rw s at l in
          let same : e.1 ≡ old = some_same f in
          rw (s, q) (ap (λ (p : EditAt). p ∷ map edit_of es) (one_merged before k remove add e.0 e.1 new
          (subst (λ (x : Edit A). Merges before remove add x new) (sym same) h)))
      pick false q ih =
          let s = tied k e.0 false q in
          rw (s, q) (ap (λ (ps : List EditAt). edit_of e ∷ ps) (ih (rw s at l) h))

  pub some_place : (k : ℕ) (es : List (ℕ × Edit A)) (old : Edit A) → lookup (is_at (nat_cmp k)) es ≡ Some old → has_place k (map edit_of es) ≡ true
  some_place k [] old l = absurd (let f : None ≡ Some old = l in cc)
  some_place k (e ∷ es) old l = pick (k == e.0) refl (some_place k es old)
    where
      pick : (t : Bool) → (k == e.0) ≡ t → (lookup (is_at (nat_cmp k)) es ≡ Some old → has_place k (map edit_of es) ≡ true)
          → has_place k (map edit_of (e ∷ es)) ≡ true
      pick true q ih = rw q refl
      pick false q ih = rw q (ih (rw (tied k e.0 false q) at l))

  pub no_place : (k : ℕ) (es : List (ℕ × Edit A)) → lookup (is_at (nat_cmp k)) es ≡ None → has_place k (map edit_of es) ≡ false
  no_place k [] l = refl
  no_place k (e ∷ es) l = pick (k == e.0) refl (no_place k es)
    where
      pick : (t : Bool) → (k == e.0) ≡ t → (lookup (is_at (nat_cmp k)) es ≡ None → has_place k (map edit_of es) ≡ false)
          → has_place k (map edit_of (e ∷ es)) ≡ false
      pick true q ih = absurd (let f : Some e.1 ≡ None = rw (tied k e.0 true q) at l in cc)
      pick false q ih = rw q (ih (rw (tied k e.0 false q) at l))

  pub inserted : (k : ℕ) (es : List (ℕ × Edit A)) (x : Edit A) → has_place k (map edit_of es) ≡ false
      → map edit_of (insert_entry nat_cmp es k x) ≡ with_new k x.remove x.add.items (map edit_of es)
  inserted k [] x h = refl
  inserted k (e ∷ es) x h = pick (k == e.0) (nat_lt k e.0) refl refl (inserted k es x)
    where
      pick : (t u : Bool) → (k == e.0) ≡ t → nat_lt k e.0 ≡ u → (has_place k (map edit_of es) ≡ false
          → map edit_of (insert_entry nat_cmp es k x) ≡ with_new k x.remove x.add.items (map edit_of es))
          → map edit_of (insert_entry nat_cmp (e ∷ es) k x) ≡ with_new k x.remove x.add.items (map edit_of (e ∷ es))
      pick t true q r ih = rw r refl
      pick true false q r ih = absurd (let f : true ≡ false = rw q at h in cc)
      pick false false q r ih = rw (r, q) (ap (λ (ps : List EditAt). edit_of e ∷ ps) (ih (rw q at h)))

  one_kept : (q : ℕ) (old new : Edit A) → new.remove ≡ old.remove → new.add.items ≡ old.add.items
      → edit_at q new.remove new.add.items ≡ edit_at q old.remove old.add.items
  one_kept q old new h k = ap (λ (n : ℕ). edit_at q n new.add.items) h ∙ ap (λ (xs : List Event). edit_at q old.remove xs) k

  pub set_kept : (k : ℕ) (es : List (ℕ × Edit A)) (old new : Edit A) → lookup (is_at (nat_cmp k)) es ≡ Some old → new.remove ≡ old.remove
      → new.add.items ≡ old.add.items
      → map edit_of (set_value (is_at (nat_cmp k)) es new) ≡ map edit_of es
  set_kept k [] old new l h j = refl
  set_kept k (e ∷ es) old new l h j = pick (k == e.0) refl (set_kept k es old new)
    where
      pick : (t : Bool) → (k == e.0) ≡ t → (lookup (is_at (nat_cmp k)) es ≡ Some old → new.remove ≡ old.remove → new.add.items ≡ old.add.items
          → map edit_of (set_value (is_at (nat_cmp k)) es new) ≡ map edit_of es)
          → map edit_of (set_value (is_at (nat_cmp k)) (e ∷ es) new) ≡ map edit_of (e ∷ es)
      pick true q ih =
          let s = tied k e.0 true q in
          let f : Some e.1 ≡ Some old = rw s at l in
          let same : e.1 ≡ old = some_same f in
          rw s (ap (λ (p : EditAt). p ∷ map edit_of es) (one_kept e.0 e.1 new (h ∙ sym (ap (λ (x : Edit A). x.remove) same))
          (j ∙ sym (ap (λ (x : Edit A). x.add.items) same))))
      pick false q ih =
          let s = tied k e.0 false q in
          rw s (ap (λ (ps : List EditAt). edit_of e ∷ ps) (ih (rw s at l) h j))

pub on_err : {T E : Type 0} (r : Result T E) (P : Type 0) → P → OnErr r P
on_err (Ok x) P p = tt
on_err (Err e) P p = p
