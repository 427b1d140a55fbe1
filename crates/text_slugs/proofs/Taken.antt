-- The slugs that are taken, with one slug more, and with another number beside a slug.
use Rattle.std.proofs.Common.{◌≡◌, ◌+◌, ℕ, Bool, true, false, ◌||◌, cond, List, [], ◌∷◌, ◌++◌, length, Option, Some, String, string_bytes, inl, inr, refl, sym, ap, subst, ◌∙◌, add-zero, arith}
use Rattle.std.proofs.lemmas.Bool.{cases_Bool, cond-true, cond-false, or_left, or_right}
use Rattle.std.proofs.lemmas.Cmp.{nat_list_eq_equiv}
use Rattle.std.proofs.lemmas.List.{length-append}
use Rattle.std.proofs.lemmas.List.Folds.{list_any-append}
use Rattle.std.proofs.lemmas.Slice.Eq.{bytes_eq-Decides}
use Rattle.std.specs.BTreeMap.{BTreeMap, btree_map_len, get_by_text, is_at}
use Rattle.std.specs.Cmp.Lexicographic.{slice_cmp}
use Rattle.std.specs.Ordering.{nat_cmp}
use Rattle.std.specs.Map.{lookup, update}
use Rattle.std.specs.Option.{is_some}
use Rattle.std.specs.Str.{bytes_eq}
use Rattle.definition_page.specs.Slug.{is_taken, numbered}
use Rattle.text_slugs.specs.Slugs.{AreTaken, HasSlugs, IsFree}
use Rattle.text_slugs.proofs.Numbers.{taken_more}

or_false : (b : Bool) → (b || false) ≡ b
or_false true = refl
or_false false = refl

-- whether a slug is taken, with one slug more
more_taken : (taken : List (List ℕ)) (free q : List ℕ) → is_taken (taken ++ free ∷ []) q ≡ (is_taken taken q || bytes_eq free q)
more_taken taken free q =
    list_any-append (bytes_eq q) taken (free ∷ [])
    ∙ ap (λ b. is_taken taken q || b) (or_false (bytes_eq q free) ∙ nat_list_eq_equiv.symm q free)

taken_here : (taken : List (List ℕ)) (free q : List ℕ) → bytes_eq free q ≡ true → is_taken (taken ++ free ∷ []) q ≡ true
taken_here taken free q here = more_taken taken free q ∙ or_right (is_taken taken q) _ here

module _ (f g : List ℕ → Option ℕ) (taken : List (List ℕ)) (slug : List ℕ) (number : ℕ)
    (step : (q : List ℕ) → g q ≡ update bytes_eq f slug (Some number) q) where
  at_slug : (q : List ℕ) → bytes_eq slug q ≡ true → g q ≡ Some number
  at_slug q here = step q ∙ cond-true _ _ _ here

  elsewhere : (q : List ℕ) → bytes_eq slug q ≡ false → g q ≡ f q
  elsewhere q not_here = step q ∙ cond-false _ _ _ not_here

  number_is : (q : List ℕ) (last : ℕ) → bytes_eq slug q ≡ true → g q ≡ Some last → number ≡ last
  number_is q last here found = let same : Some number ≡ Some last = sym (at_slug q here) ∙ found in cc

  keys_added : ((q : List ℕ) → is_some (f q) ≡ is_taken taken q) → (q : List ℕ) → is_some (g q) ≡ is_taken (taken ++ slug ∷ []) q
  keys_added keys q = elim (cases_Bool (bytes_eq slug q)) [
    | inl here ↦ ap is_some (at_slug q here) ∙ sym (taken_here taken slug q here)
    | inr not_here ↦
        ap is_some (elsewhere q not_here) ∙ keys q
        ∙ sym (more_taken taken slug q ∙ ap (λ b. is_taken taken q || b) not_here ∙ or_false (is_taken taken q))
  ]

  numbers_added : number ≡ 0 → ((q : List ℕ) (last : ℕ) → f q ≡ Some last → AreTaken taken q (last + 1))
      → (q : List ℕ) (last : ℕ) → g q ≡ Some last → AreTaken (taken ++ slug ∷ []) q (last + 1)
  numbers_added none numbers q last found n below = elim (cases_Bool (bytes_eq slug q)) [
    | inl here ↦
        let same : number ≡ last = number_is q last here found in
        let first : 0 ≡ n = omega arith in
        subst (λ k. is_taken (taken ++ slug ∷ []) (numbered q k) ≡ true) first (taken_here taken slug q here)
    | inr not_here ↦
        more_taken taken slug (numbered q n)
        ∙ or_left _ (bytes_eq slug (numbered q n)) (numbers q last (sym (elsewhere q not_here) ∙ found) n below)
  ]

  keys_kept : is_taken taken slug ≡ true → ((q : List ℕ) → is_some (f q) ≡ is_taken taken q) → (q : List ℕ) → is_some (g q) ≡ is_taken taken q
  keys_kept is keys q = elim (cases_Bool (bytes_eq slug q)) [
    | inl here ↦
        ap is_some (at_slug q here) ∙ sym (subst (λ s. is_taken taken s ≡ true) ((bytes_eq-Decides slug q).0 here) is)
    | inr not_here ↦ ap is_some (elsewhere q not_here) ∙ keys q
  ]

  numbers_kept : AreTaken taken slug (number + 1) → ((q : List ℕ) (last : ℕ) → f q ≡ Some last → AreTaken taken q (last + 1))
      → (q : List ℕ) (last : ℕ) → g q ≡ Some last → AreTaken taken q (last + 1)
  numbers_kept all numbers q last found n below = elim (cases_Bool (bytes_eq slug q)) [
    | inl here ↦
        let same : number ≡ last = number_is q last here found in
        subst (λ s. is_taken taken (numbered s n) ≡ true) ((bytes_eq-Decides slug q).0 here) (all n (omega arith))
    | inr not_here ↦ numbers q last (sym (elsewhere q not_here) ∙ found) n below
  ]

count_added : (old new count : ℕ) (is_old : Bool) → is_old ≡ false → new ≡ old + cond is_old 0 1 → old ≡ count → new ≡ count + 1
count_added old new count is_old absent size same = size ∙ ap (λ n. old + n) (cond-false is_old 0 1 absent) ∙ ap (λ n. n + 1) same

count_kept : (old new count : ℕ) (is_old : Bool) → is_old ≡ true → new ≡ old + cond is_old 0 1 → old ≡ count → new ≡ count
count_kept old new count is_old there size same = size ∙ ap (λ n. old + n) (cond-true is_old 0 1 there) ∙ add-zero old ∙ same

-- a slug more
pub slugs_added : {A : Type 0} (old new : BTreeMap (String A) ℕ) (taken : List (List ℕ)) (free : List ℕ) → HasSlugs old taken → is_taken taken free ≡ false
    → ((q : List ℕ) → get_by_text new q ≡ update bytes_eq (get_by_text old) free (Some 0) q)
    → btree_map_len new ≡ btree_map_len old + cond (is_some (get_by_text old free)) 0 1
    → HasSlugs new (taken ++ free ∷ [])
slugs_added old new taken free held is_new step size = record {
  keys = keys_added (get_by_text old) (get_by_text new) taken free 0 step held.keys;
  numbers = numbers_added (get_by_text old) (get_by_text new) taken free 0 step refl held.numbers;
  count =
      count_added (btree_map_len old) (btree_map_len new) (length taken) (is_some (get_by_text old free))
      (held.keys free ∙ is_new) size held.count
      ∙ sym (length-append taken (free ∷ []));
}

-- a slug that is free is taken, and so is its slug with each number up to its own
pub all_taken : (taken : List (List ℕ)) (slug : List ℕ) (number : ℕ) (free : List ℕ) → IsFree taken slug number free
    → AreTaken (taken ++ free ∷ []) slug (number + 1)
all_taken taken slug number free found =
    taken_more (taken ++ free ∷ []) slug number
    (λ n below. more_taken taken free (numbered slug n) ∙ or_left _ (bytes_eq free (numbered slug n)) (found.before n below))
    (ap (is_taken (taken ++ free ∷ [])) (sym found.named) ∙ taken_here taken free free (nat_list_eq_equiv.refl free))

-- another number beside a slug that is taken with each number up to it
pub slugs_kept : {A : Type 0} (old new : BTreeMap (String A) ℕ) (taken wanted : List (List ℕ)) (slug : List ℕ) (number : ℕ) → HasSlugs old taken
    → AreTaken taken slug (number + 1)
    → ((q : List ℕ) → get_by_text new q ≡ update bytes_eq (get_by_text old) slug (Some number) q)
    → btree_map_len new ≡ btree_map_len old + cond (is_some (get_by_text old slug)) 0 1
    → taken ≡ wanted → HasSlugs new wanted
slugs_kept old new taken wanted slug number held all step size same =
    let is : is_taken taken slug ≡ true = all 0 (omega arith) in
    subst (HasSlugs new) same (record {
      keys = keys_kept (get_by_text old) (get_by_text new) taken slug number step is held.keys;
      numbers = numbers_kept (get_by_text old) (get_by_text new) taken slug number step all held.numbers;
      count =
          count_kept (btree_map_len old) (btree_map_len new) (length taken) (is_some (get_by_text old slug))
          (held.keys slug ∙ is) size held.count;
    })

-- the value at a key by its bytes, among entries
abbrev value_of : {A : Type 0} → List ℕ → List (String A × ℕ) → Option ℕ
value_of slug es = lookup (is_at (λ k. slice_cmp nat_cmp slug (string_bytes k))) es

-- a map with the same entries
pub slugs_same : {A : Type 0} (old new : BTreeMap (String A) ℕ) (taken : List (List ℕ)) → new.entries ≡ old.entries → HasSlugs old taken → HasSlugs new taken
slugs_same old new taken same held = record {
  keys = λ slug. ap (λ es. is_some (value_of slug es)) same ∙ held.keys slug;
  numbers = λ slug last found. held.numbers slug last (sym (ap (value_of slug) same) ∙ found);
  count = ap length same ∙ held.count;
}

-- a slug that is taken is free with the number that was looked for, if it is looked for after the last one
pub found_free : {A : Type 0} (table : BTreeMap (String A) ℕ) (taken : List (List ℕ)) (known asked slug : List ℕ) (last number : ℕ) (free : List ℕ)
    → HasSlugs table taken → known ≡ slug → asked ≡ slug → get_by_text table known ≡ Some last
    → (AreTaken taken asked (last + 1) → IsFree taken asked number free) → IsFree taken slug number free
found_free table taken known asked slug last number free held e f stored found =
    subst (λ s. IsFree taken s number free) f
    (found (subst (λ s. AreTaken taken s (last + 1)) (e ∙ sym f) (held.numbers known last stored)))
