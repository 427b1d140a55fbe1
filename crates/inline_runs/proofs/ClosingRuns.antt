-- What a run closes, pair by pair.
use Rattle.std.proofs.Common.{inl, inr, ◌≡◌, ℕ, zero, suc, ◌-◌, ◌<◌, ◌≤◌, true, false, refl, sym, ap, ◌∙◌, arith}
use Rattle.inline_runs.proofs.Prelude.{cases_lt, close, eq-eqb, ne_eqb, nearest, next_run, OpenRun, Pairing, taken_by, takes_left, takes_some, up_to_nearest}
use Rattle.inline_runs.proofs.Prelude.{with_pair, without, ◌==◌}
use Rattle.inline_runs.specs.FoundPairs.{with_opener, pair_or_open}
use Rattle.inline_runs.proofs.NearestOpener.{nearest_eligible}

-- something is left of a run that closes something
pub some_left : (s : Pairing) (c : OpenRun) → 0 < up_to_nearest s.openers c → c.run.left ≤ 0 → ⊥
some_left s c some none =
    let e = nearest_eligible s.openers c some in
    let a = takes_some (nearest s.openers c) c e in
    let b = takes_left (nearest s.openers c) c e in
    omega arith

-- a run that closes nothing
pub stops : (n : ℕ) (s : Pairing) (c : OpenRun) → up_to_nearest s.openers c ≤ 0 → close n s c ≡ with_opener s c
stops zero s c none = refl
stops (suc n) s c none =
    let e : (up_to_nearest s.openers c == 0) ≡ true = eq-eqb _ 0 (omega arith) in
    ap (λ b. pair_or_open b s (nearest s.openers c) c (close n)) e

-- a run that closes something
pub goes_on : (n : ℕ) (s : Pairing) (c : OpenRun) → 0 < up_to_nearest s.openers c
    → close (suc n) s c ≡ close n (with_pair s (nearest s.openers c) c) (without (taken_by (nearest s.openers c) c) c)
goes_on n s c some =
    let e : (up_to_nearest s.openers c == 0) ≡ false = ne_eqb _ 0 (λ z. omega arith) in
    ap (λ b. pair_or_open b s (nearest s.openers c) c (close n)) e

-- enough for a run is what is left of it
close_enough : (n m : ℕ) (s : Pairing) (c : OpenRun) → c.run.left ≤ n → c.run.left ≤ m → close n s c ≡ close m s c
close_enough zero m s c h k =
    elim (cases_lt 0 (up_to_nearest s.openers c)) [
      | inl some ↦ absurd (some_left s c some h)
      | inr none ↦ stops zero s c none ∙ sym (stops m s c none)
    ]
close_enough (suc n) zero s c h k =
    elim (cases_lt 0 (up_to_nearest s.openers c)) [
      | inl some ↦ absurd (some_left s c some k)
      | inr none ↦ stops (suc n) s c none ∙ sym (stops zero s c none)
    ]
close_enough (suc n) (suc m) s c h k =
    elim (cases_lt 0 (up_to_nearest s.openers c)) [
      | inl some ↦
          let o = nearest s.openers c in
          let yes = nearest_eligible s.openers c some in
          let some_taken = takes_some o c yes in
          let within = takes_left o c yes in
          goes_on n s c some ∙ close_enough n m (with_pair s o c) (without (taken_by o c) c) (omega arith) (omega arith) ∙ sym (goes_on m s c some)
      | inr none ↦ stops (suc n) s c none ∙ sym (stops (suc m) s c none)
    ]

step_on : (n : ℕ) (s : Pairing) (c : OpenRun) → c.run.left ≡ n → 0 < up_to_nearest s.openers c
    → next_run s c ≡ next_run (with_pair s (nearest s.openers c) c) (without (taken_by (nearest s.openers c) c) c)
step_on zero s c left some =
    let yes = nearest_eligible s.openers c some in
    let some_taken = takes_some (nearest s.openers c) c yes in
    let within = takes_left (nearest s.openers c) c yes in
    absurd (omega arith)
step_on (suc n) s c left some =
    let o = nearest s.openers c in
    let yes = nearest_eligible s.openers c some in
    let some_taken = takes_some o c yes in
    let within = takes_left o c yes in
    ap (λ k. close k s c) left ∙ goes_on n s c some ∙ close_enough n (c.run.left - taken_by o c) (with_pair s o c) (without (taken_by o c) c) (omega arith)
    (omega arith)

-- a run that closes something, pair by pair
pub next_run_pairs : (s : Pairing) (c : OpenRun) → 0 < up_to_nearest s.openers c
    → next_run s c ≡ next_run (with_pair s (nearest s.openers c) c) (without (taken_by (nearest s.openers c) c) c)
next_run_pairs s c some = step_on c.run.left s c refl some

-- a run that closes nothing more
pub next_run_opens : (s : Pairing) (c : OpenRun) → up_to_nearest s.openers c ≡ 0 → next_run s c ≡ with_opener s c
next_run_opens s c none = stops c.run.left s c (omega arith)
