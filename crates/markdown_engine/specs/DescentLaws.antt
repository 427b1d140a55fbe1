-- Where calls descend, the rank falls.
use Rattle.std.proofs.Common.{◌≡◌, ℕ, ◌+◌, ◌*◌, ◌^◌, ◌-◌, ◌<◌, ◌≤◌, true, false, List, [], ◌∷◌, ◌++◌, map, length, arith, add-one}
use Rattle.std.proofs.lemmas.List.{length-map}
use Rattle.std.proofs.Math.Nat.{mul-add, mul-le-mul_left, one-le-pow, pow-le-pow_right, pow-suc}
use Rattle.engine_states.specs.declared.state.State.TheVariants as states
use Rattle.markdown_engine.specs.declared.attempt.Attempt.{Attempt}
use Rattle.markdown_engine.specs.Descent.{AllBelow, DescendsAt, Weighs, all_wait, descent}
use Rattle.markdown_engine.specs.Laws.{FallsAt, HoldsAt}
use Rattle.markdown_engine.specs.Reading.{Steps, with_byte, mark, continuation}

power_more : (n w : ℕ) → n ^ (w + 1) ≡ n ^ w * n
power_more n w = rw add-one (pow-suc n w)

module _ (most : ℕ) (waits : Attempt → ℕ) where
  base : ℕ
  base = most + 1

  some : (w : ℕ) → 1 ≤ base ^ w
  unfolding base
  some w = one-le-pow w (most + 1) (omega arith)

  rises : (v w : ℕ) → v ≤ w → base ^ v ≤ base ^ w
  unfolding base
  rises v w h = pow-le-pow_right (omega arith) h

  waits_more : (a b : List Attempt) → all_wait base waits (a ++ b) ≡ all_wait base waits a + all_wait base waits b
  waits_more [] b = omega arith
  waits_more (x ∷ a) b = let h = waits_more a b in omega arith

  below_all : (w : ℕ) (attempts : List Attempt) → AllBelow waits (w + 1) attempts → all_wait base waits attempts ≤ base ^ w * length attempts
  below_all w [] h = omega arith
  below_all w (a ∷ more) h =
      let low = h.0 in
      let one = rises (waits a) w (omega arith) in
      let rest = below_all w more h.1 in
      let whole = mul-add (base ^ w) (length more) 1 in
      omega arith

  -- a call of weight `w + 1` leads to `v` and makes these attempts
  call_falls : (v w : ℕ) (stack attempts : List Attempt) → v < w + 1 → length attempts < most → AllBelow waits (w + 1) attempts
      → base ^ v + all_wait base waits (stack ++ attempts) < base ^ (w + 1) + all_wait base waits stack
  unfolding base
  call_falls v w stack attempts h l b =
      let q = base ^ w in
      let now = rises v w (omega arith) in
      let least = some w in
      let wait = below_all w attempts b in
      let joined = waits_more stack attempts in
      let power : base ^ (w + 1) ≡ q * base = power_more base w in
      let two = mul-add q (length attempts) 2 in
      let room = mul-le-mul_left q (let k : length attempts + 2 ≤ most + 1 = omega arith in k) in
      omega arith

  -- an attempt ends, and what goes on weighs no more than it said
  pop_falls : (v w : ℕ) (stack : List Attempt) (a : Attempt) → v ≤ waits a
      → base ^ v + all_wait base waits stack < base ^ w + all_wait base waits (stack ++ a ∷ [])
  pop_falls v w stack a h =
      let on = rises v (waits a) h in
      let least = some w in
      let joined = waits_more stack (a ∷ []) in
      omega arith

weight_before : (v w : ℕ) → v < w → (w - 1) + 1 ≡ w
weight_before v w h = omega arith

-- whatever descends has a rank that falls
pub descends : {M : Type 0} (size : ℕ) (valid : HoldsAt M) (step : Steps M) (most : ℕ) (weight : Weighs M) (waits : Attempt → ℕ)
    → DescendsAt size valid step most weight waits → FallsAt size valid step (descent most weight waits)
unfolding base
descends size valid step most weight waits d = record {
  fed = λ c stack n p v h fed. let low = rises most waits (weight (with_byte c p v) (states.Retry n)) (weight c (states.Next n)) (d.fed c stack n p v h fed) in
      omega arith;
  called = λ c stack n h.
      let e = step c n in
      let w = weight c (states.Retry n) in
      let same = weight_before (weight e.config e.state) w (d.called c stack n h) in
      let fewer : length (map mark e.pushed) < most = rw (length-map e.pushed mark) (d.fewer c stack n h) in
      let lower = call_falls most waits (weight e.config e.state) (w - 1) stack (map mark e.pushed) (rw same (d.called c stack n h)) fewer
      (rw same (d.pushed c stack n h)) in
      rw same at lower;
  ok = λ c stack a h. pop_falls most waits (weight (continuation a c true) a.ok) (weight c states.Ok) stack a (d.ok c stack a h);
  nok = λ c stack a h. pop_falls most waits (weight (continuation a c false) a.nok) (weight c states.Nok) stack a (d.nok c stack a h);
}
