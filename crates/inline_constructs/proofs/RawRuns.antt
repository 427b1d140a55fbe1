-- The last run of each size.
use Rattle.std.proofs.Common.{◌≡◌, ℕ, zero, suc, ◌+◌, ◌-◌, ◌<◌, ◌≤◌, List, [], ◌∷◌, ◌++◌, set, true, false, cond, eqb, nat_lt, refl, sym, ap, ◌∙◌, get_or}
use Rattle.std.proofs.Common.{length, drop, take, arith, inl, inr}
use Rattle.inline_constructs.proofs.Prelude.{cases_Bool, cond-false, cond-true, eq-eqb, IsRun, last_end, LastRun, ltb-false, ltb-true, ne_eqb, prefix_len}
use Rattle.inline_constructs.proofs.Prelude.{prefix_len-le-length, run, run_of}
use Rattle.std.proofs.lemmas.Bool.{cases_order, lt-ltb, le-ltb}
use Rattle.inline_constructs.proofs.RawTextLemmas.{past_here, run_there}

-- ---- a list of runs

less : (x : LastRun) (rs : List LastRun) (n : ℕ) → x.size < n → last_end (x ∷ rs) n ≡ last_end rs n
less x rs n lt = cond-true (nat_lt x.size n) _ _ (lt-ltb x.size n lt)

same : (x : LastRun) (rs : List LastRun) (n : ℕ) → x.size ≡ n → last_end (x ∷ rs) n ≡ x.end
same x rs n e = cond-false (nat_lt x.size n) _ _ (le-ltb x.size n (omega arith)) ∙ cond-true (eqb x.size n) _ _ (eq-eqb x.size n e)

more : (x : LastRun) (rs : List LastRun) (n : ℕ) → n < x.size → last_end (x ∷ rs) n ≡ 0
more x rs n lt = cond-false (nat_lt x.size n) _ _ (le-ltb x.size n (omega arith)) ∙ cond-false (eqb x.size n) _ _ (ne_eqb x.size n (λ e. omega arith))

-- how many runs at the front are smaller
abbrev pub place_of : List LastRun → ℕ → ℕ
place_of rs n = prefix_len (λ (r : LastRun). nat_lt r.size n) rs

pub place_within : (rs : List LastRun) (n : ℕ) → place_of rs n ≤ length rs
place_within rs n = prefix_len-le-length (λ (r : LastRun). nat_lt r.size n) rs

place_past : (x : LastRun) (rs : List LastRun) (n : ℕ) → nat_lt x.size n ≡ true → place_of (x ∷ rs) n ≡ suc (place_of rs n)
place_past x rs n h = cond-true (nat_lt x.size n) _ _ h ∙ omega arith

place_here : (x : LastRun) (rs : List LastRun) (n : ℕ) → nat_lt x.size n ≡ false → place_of (x ∷ rs) n ≡ 0
place_here x rs n h = cond-false (nat_lt x.size n) _ _ h

-- the run at that place tells
pub end_there : (rs : List LastRun) (n place : ℕ) (r : LastRun) → place ≡ place_of rs n → place < length rs → r ≡ get_or rs place r
    → last_end rs n ≡ cond (eqb r.size n) r.end 0
end_there [] n place r e lt there = absurd (omega arith)
end_there (x ∷ rs) n place r e lt there = elim (cases_Bool (nat_lt x.size n)) [
  | inl h ↦
      let f = place_past x rs n h in
      let k : place ≡ suc (place_of rs n) = e ∙ f in
      less x rs n (ltb-true x.size n h) ∙ end_there rs n (place_of rs n) r refl (omega arith) (there ∙ ap (λ k. get_or (x ∷ rs) k r) k)
  | inr h ↦
      let f : r ≡ x = there ∙ ap (λ k. get_or (x ∷ rs) k r) (e ∙ place_here x rs n h) in
      cond-false (nat_lt x.size n) _ _ h ∙ ap (λ (y : LastRun). cond (eqb y.size n) y.end 0) (sym f)
]

pub end_nowhere : (rs : List LastRun) (n : ℕ) → length rs ≤ place_of rs n → last_end rs n ≡ 0
end_nowhere [] n le = refl
end_nowhere (x ∷ rs) n le = elim (cases_Bool (nat_lt x.size n)) [
  | inl h ↦ let e = place_past x rs n h in less x rs n (ltb-true x.size n h) ∙ end_nowhere rs n (omega arith)
  | inr h ↦ let e = place_here x rs n h in absurd (omega arith)
]

-- ---- a run that is kept

-- what a list says after a run is kept
abbrev after_kept : List LastRun → LastRun → ℕ → ℕ
after_kept rs r n = cond (eqb r.size n) r.end (last_end rs n)

kept_same : (rs : List LastRun) (r : LastRun) (n : ℕ) → r.size ≡ n → after_kept rs r n ≡ r.end
kept_same rs r n e = cond-true (eqb r.size n) _ _ (eq-eqb r.size n e)

kept_other : (rs : List LastRun) (r : LastRun) (n : ℕ) → (r.size ≡ n → ⊥) → after_kept rs r n ≡ last_end rs n
kept_other rs r n other = cond-false (eqb r.size n) _ _ (ne_eqb r.size n other)

-- behind a smaller run
behind : (x : LastRun) (rs new : List LastRun) (r : LastRun) (n : ℕ) → x.size < r.size → last_end new n ≡ after_kept rs r n
    → last_end (x ∷ new) n ≡ after_kept (x ∷ rs) r n
behind x rs new r n lt e = elim (cases_Bool (nat_lt x.size n)) [
  | inl h ↦ less x new n (ltb-true x.size n h) ∙ e ∙ ap (λ k. cond (eqb r.size n) r.end k) (sym (less x rs n (ltb-true x.size n h)))
  | inr h ↦
      let le = ltb-false x.size n h in
      cond-false (nat_lt x.size n) _ _ h ∙ sym (cond-false (nat_lt x.size n) _ _ h) ∙ sym (kept_other (x ∷ rs) r n (λ f. omega arith))
]

-- first of all
in_front : (rs : List LastRun) (r : LastRun) (n : ℕ) → (n < r.size → last_end rs n ≡ 0) → last_end (r ∷ rs) n ≡ after_kept rs r n
in_front rs r n none = elim (cases_order r.size n) [
  | inl e ↦ same r rs n e ∙ sym (kept_same rs r n e)
  | inr (inl lt) ↦ less r rs n lt ∙ sym (kept_other rs r n (λ f. omega arith))
  | inr (inr lt) ↦ more r rs n lt ∙ sym (none lt) ∙ sym (kept_other rs r n (λ f. omega arith))
]

-- in place of a run of its size
pub end_set : (rs : List LastRun) (r d : LastRun) → place_of rs r.size < length rs → (get_or rs (place_of rs r.size) d).size ≡ r.size
    → (n : ℕ) → last_end (set rs (place_of rs r.size) r) n ≡ cond (eqb r.size n) r.end (last_end rs n)
end_set [] r d lt there n = absurd (omega arith)
end_set (x ∷ rs) r d lt there n = elim (cases_Bool (nat_lt x.size r.size)) [
  | inl h ↦
      let e = place_past x rs r.size h in
      let there' : (get_or rs (place_of rs r.size) d).size ≡ r.size = ap (λ k. (get_or (x ∷ rs) k d).size) (sym e) ∙ there in
      ap (λ k. last_end (set (x ∷ rs) k r) n) e ∙ behind x rs (set rs (place_of rs r.size) r) r n (ltb-true x.size r.size h)
      (end_set rs r d (omega arith) there' n)
  | inr h ↦
      let e = place_here x rs r.size h in
      let there' : x.size ≡ r.size = ap (λ k. (get_or (x ∷ rs) k d).size) (sym e) ∙ there in
      ap (λ k. last_end (set (x ∷ rs) k r) n) e ∙ over there'
]
  where
    over : x.size ≡ r.size → last_end (r ∷ rs) n ≡ after_kept (x ∷ rs) r n
    over e = elim (cases_order r.size n) [
      | inl f ↦ same r rs n f ∙ sym (kept_same (x ∷ rs) r n f)
      | inr (inl lt) ↦ less r rs n lt ∙ sym (less x rs n (omega arith)) ∙ sym (kept_other (x ∷ rs) r n (λ f. omega arith))
      | inr (inr lt) ↦ more r rs n lt ∙ sym (more x rs n (omega arith)) ∙ sym (kept_other (x ∷ rs) r n (λ f. omega arith))
    ]

-- before the first run that is greater
pub end_inserted : (rs : List LastRun) (r d : LastRun) → (place_of rs r.size < length rs → (get_or rs (place_of rs r.size) d).size ≡ r.size → ⊥)
    → (n : ℕ) → last_end (take (place_of rs r.size) rs ++ r ∷ drop (place_of rs r.size) rs) n ≡ cond (eqb r.size n) r.end (last_end rs n)
end_inserted [] r d other n = in_front [] r n (λ lt. refl)
end_inserted (x ∷ rs) r d other n = elim (cases_Bool (nat_lt x.size r.size)) [
  | inl h ↦
      let e = place_past x rs r.size h in
      let k = place_of rs r.size in
      ap (λ k. last_end (take k (x ∷ rs) ++ r ∷ drop k (x ∷ rs)) n) e
      ∙ behind x rs (take k rs ++ r ∷ drop k rs) r n (ltb-true x.size r.size h)
      (end_inserted rs r d (λ lt there. other (omega arith) (ap (λ k. (get_or (x ∷ rs) k d).size) e ∙ there)) n)
  | inr h ↦
      let e = place_here x rs r.size h in
      let apart : x.size ≡ r.size → ⊥ = λ f. other (omega arith) (ap (λ k. (get_or (x ∷ rs) k d).size) e ∙ f) in
      let le = ltb-false x.size r.size h in
      ap (λ k. last_end (take k (x ∷ rs) ++ r ∷ drop k (x ∷ rs)) n) e ∙ in_front (x ∷ rs) r n (λ lt. more x rs n (omega arith))
]

-- ---- the runs of a content

module _ (m : ℕ) where
  -- what the runs before a place say
  abbrev pub AreLastBefore : List ℕ → List LastRun → ℕ → Type 0
  AreLastBefore content runs to =
      (size at : ℕ) → 0 < size → at ≤ to → run m (drop at content) ≡ 0 → last_end runs size ≤ at
      → run_of m size false (drop at content) ≡ run_of m size false (drop to content)

  -- such a byte begins a run
  marker_begins : (xs : List ℕ) (at : ℕ) → at < length xs → get_or xs at 0 ≡ m → run m (drop at xs) ≡ 0 → ⊥
  marker_begins [] at lt tick none = absurd (omega arith)
  marker_begins (x ∷ xs) zero lt tick none =
      let size : run m (x ∷ xs) ≡ 1 + run m xs = cond-true (eqb x m) _ _ (eq-eqb x m tick) in
      omega arith
  marker_begins (x ∷ xs) (suc at) lt tick none = marker_begins xs at (omega arith) tick none

  -- past a byte of another kind
  pub past_byte : (xs : List ℕ) (rs : List LastRun) (at : ℕ) → 0 ≡ run m (drop at xs) → AreLastBefore xs rs at → AreLastBefore xs rs (at + 1)
  past_byte xs rs at none known size p some le outside last = elim (cases_order p (at + 1)) [
    | inl e ↦ ap (λ k. run_of m size false (drop k xs)) e
    | inr (inl lt) ↦ known size p some (omega arith) outside last ∙ past_here m xs size at 0 (at + 1) some none (λ e. omega arith) refl
    | inr (inr lt) ↦ absurd (omega arith)
  ]

  -- past a run that is kept
  pub past_kept : (xs : List ℕ) (old new : List LastRun) (at r : ℕ) → 0 < r → at ≤ length xs → r ≡ run m (drop at xs) → IsRun m (drop at xs) 0 r
      → ((size : ℕ) → last_end new size ≡ cond (eqb r size) (at + r) (last_end old size)) → AreLastBefore xs old at → AreLastBefore xs new (at + r)
  past_kept xs old new at r positive within count here kept known size p some le outside last = elim (cases_order p at) [
    | inl e ↦ before (omega arith)
    | inr (inl lt) ↦ before (omega arith)
    | inr (inr lt) ↦ elim (cases_order p (at + r)) [
      | inl e ↦ ap (λ k. run_of m size false (drop k xs)) e
      | inr (inl inside) ↦
          let there = run_there m xs at r within here in
          let place : at + (p - at) ≡ p = omega arith in
          absurd (marker_begins xs p (omega (arith, there.within)) (ap (λ k. get_or xs k 0) (sym place) ∙ there.markers (p - at) (omega arith)) outside)
      | inr (inr past) ↦ absurd (omega arith)
    ]
  ]
    where
      before : p ≤ at → run_of m size false (drop p xs) ≡ run_of m size false (drop (at + r) xs)
      before early =
          let other : r ≡ size → ⊥ = λ e. omega (arith, kept size, cond-true (eqb r size) (at + r) (last_end old size) (eq-eqb r size e)) in
          let earlier : last_end old size ≤ p = omega (arith, kept size, cond-false (eqb r size) (at + r) (last_end old size) (ne_eqb r size other)) in
          let next : at + r ≡ at + cond (eqb r 0) 1 r = ap (λ k. at + k) (sym (cond-false (eqb r 0) 1 r (ne_eqb r 0 (λ e. omega arith)))) in
          known size p some early outside earlier ∙ past_here m xs size at r (at + r) some count other next
