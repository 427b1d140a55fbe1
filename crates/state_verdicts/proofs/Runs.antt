-- Where a run of exactly so many of a code is found.
use Rattle.std.proofs.Common.{◌≡◌, ◌∙◌, ℕ, suc, ◌+◌, ◌<◌, ◌≤◌, Bool, true, false, not, ◌&&◌, ◌==◌, if◌then◌else◌, List, [], ◌∷◌, length, drop, Option, Some}
use Rattle.std.proofs.Common.{None, inl, inr, refl, sym, ap, arith}
use Rattle.state_verdicts.proofs.Prelude.{after_run, cases_Bool, ne_eqb, prefix_len, run_of}
use Rattle.definition_text.specs.Runs.{run}
use Rattle.state_verdicts.proofs.Stretches.{rest_more, rest_none}

module _ (m n : ℕ) (some : 0 < n) where
  none_wanted : (0 == n) ≡ false
  none_wanted = ne_eqb 0 n (λ e. let f : 0 ≡ n = e in absurd (omega (arith, f, some)))

  -- over another code
  pub past_other : (within : Bool) (c : ℕ) (cs : List ℕ) → (c == m) ≡ false → run_of m n within (c ∷ cs) ≡ run_of m n false cs
  past_other true c cs h = rw h refl
  past_other false c cs h = rw (h, none_wanted) refl

  -- within a run
  pub past_same : (c : ℕ) (cs : List ℕ) → (c == m) ≡ true → run_of m n true (c ∷ cs) ≡ run_of m n true cs
  past_same c cs h = rw h refl

  -- at the first of a run
  pub at_run : (c : ℕ) (cs : List ℕ) (is : Bool) → (c == m) ≡ true → (run m cs + 1 == n) ≡ is
      → run_of m n false (c ∷ cs) ≡ (if is then Some (c ∷ cs) else run_of m n true cs)
  at_run c cs is h k = rw (h, (let e : 1 + run m cs ≡ run m cs + 1 = omega arith in e), k) refl

  -- over codes of a sort, of which this is none
  pub past_others : (p : ℕ → Bool) → ((c : ℕ) → p c ≡ true → (c == m) ≡ false) → (cs : List ℕ)
      → run_of m n false (drop (prefix_len p cs) cs) ≡ run_of m n false cs
  past_others p apart [] = refl
  past_others p apart (c ∷ cs) = elim (cases_Bool (p c)) [
    | inl h ↦ ap (run_of m n false) (rest_more p c cs h) ∙ (past_others p apart cs ∙ sym (past_other false c cs (apart c h)))
    | inr h ↦ ap (run_of m n false) (rest_none p c cs h)
  ]

  -- over the rest of a run
  pub past_run : (cs : List ℕ) → run_of m n false (after_run m cs) ≡ run_of m n true cs
  past_run [] = refl
  past_run (c ∷ cs) = elim (cases_Bool (c == m)) [
    | inl h ↦ ap (run_of m n false) (rest_more (λ b. b == m) c cs h) ∙ (past_run cs ∙ sym (past_same c cs h))
    | inr h ↦ ap (run_of m n false) (rest_none (λ b. b == m) c cs h) ∙ (past_other false c cs h ∙ sym (past_other true c cs h))
  ]

-- a run is no longer than the codes
pub run_within : (m : ℕ) (cs : List ℕ) → run m cs ≤ length cs
run_within m [] = omega arith
run_within m (c ∷ cs) = elim (cases_Bool (c == m)) [
  | inl h ↦ let k = run_within m cs in rw h (omega (arith, k))
  | inr h ↦ rw h (omega arith)
]

-- what is found is a rest of the codes
pub record IsRest (cs found : List ℕ) : Type 0 where
  pub count : ℕ
  pub few : count ≤ length cs
  pub is : found ≡ drop count cs

pub one_further : (c : ℕ) (cs found : List ℕ) → IsRest cs found → IsRest (c ∷ cs) found
one_further c cs found r = record { count = suc r.count; few = (let f = r.few in omega (arith, f)); is = r.is }

found_by : (c : ℕ) (cs found : List ℕ) (is : Bool) (other : Option (List ℕ)) → (if is then Some (c ∷ cs) else other) ≡ Some found
    → (other ≡ Some found → IsRest cs found) → IsRest (c ∷ cs) found
found_by c cs found true other e more = let f : Some (c ∷ cs) ≡ Some found = e in let g : c ∷ cs ≡ found = cc in
    record { count = 0; few = omega arith; is = sym g }
found_by c cs found false other e more = one_further c cs found (more e)

pub is_rest : (m n : ℕ) (within : Bool) (cs found : List ℕ) → run_of m n within cs ≡ Some found → IsRest cs found
is_rest m n within [] found e = absurd (let f : None ≡ Some found = e in cc)
is_rest m n within (c ∷ cs) found e = found_by c cs found (not within && (run m (c ∷ cs) == n)) (run_of m n (c == m) cs) e (is_rest m n (c == m) cs found)
