-- Each byte of the virtual text that is read leaves less.
use Rattle.std.proofs.Common.{◌≡◌, ℕ, ◌+◌, ◌<◌, ◌≤◌, ◌∙◌, Bool, true, false, if◌then◌else◌, ◌==◌, nat_lt, nat_le, ◌||◌, List, length, slice_index, refl, sym}
use Rattle.std.proofs.Common.{subst, arith, Option, Some, None, ◌⊎◌, inl, inr}
use Rattle.markdown_engine.proofs.Prelude.{byte_before, cases_lt, eqb-true, is_before, IsFed, ltb-true, nat_tests, place_in, Point, Reaches, remaining, Skips}
use Rattle.markdown_engine.proofs.Prelude.{VirtualByte}
use Rattle.engine_events.specs.Columns.{tab_size}
use Rattle.markdown_engine.specs.VirtualText.{virtual_byte, after_byte, byte_given, tab_column, in_line, in_tab, next_line}
use Rattle.markdown_engine.specs.VirtualText.{as_byte}
use Rattle.markdown_engine.specs.VirtualText.{feeds}
use Rattle.markdown_engine.specs.Laws.{IsRead}
use Rattle.markdown_engine.proofs.Starts.{start_less, start_reaches}
use Rattle.markdown_engine.proofs.Tests.{by_tests}

module _ (size : ℕ) (p : Point) (low : p.index < size) where
  Less : VirtualByte → Type 0
  Less v = remaining size v.next < remaining size p

  by_test : (t : Bool) (v w : VirtualByte) → (t ≡ true → Less v) → (t ≡ false → Less w) → Less (if t then v else w)
  by_test true v w h k = h refl
  by_test false v w h k = k refl

  tab_less : (b : ℕ) (t : Bool) → (t ≡ false → p.vs < 3) → Less (as_byte b (if t then in_line p else in_tab p))
  unfolding Less
  tab_less b true h = omega arith
  tab_less b false h = let l = h refl in omega arith

  feed_less : (t : Bool) → Less (as_byte 10 (next_line (if t then 2 else 1) p))
  unfolding Less
  feed_less true = omega arith
  feed_less false = omega arith

  line_less : (bytes : List ℕ) (b : ℕ) → Less (as_byte b (after_byte bytes p))
  unfolding Less
  line_less bytes b = omega arith

  in_reach : (t u : Bool) → t || u ≡ false → u ≡ false
  in_reach true u e = absurd (let f : true ≡ false = e in cc)
  in_reach false u e = e

  below_three : nat_le 3 p.vs ≡ false → p.vs < 3
  below_three e = grind (arith, nat_tests, e)

  given_less : (bytes : List ℕ) (b : ℕ) → Less (byte_given bytes p b)
  given_less bytes b =
      by_test (b == 9) (tab_column p) (if b == 10 then as_byte 10 (next_line 1 p) else if b == 13
      then as_byte 10 (next_line (if feeds bytes (p.index + 1) then 2 else 1) p) else as_byte b (after_byte bytes p))
      (λ _. tab_less (if p.vs == 0 then 9 else 32) ((tab_size p.column == 1) || nat_le 3 p.vs)
      (λ e. below_three (in_reach (tab_size p.column == 1) (nat_le 3 p.vs) e)))
      (λ _. by_test (b == 10) (as_byte 10 (next_line 1 p)) (if b == 13 then as_byte 10 (next_line (if feeds bytes (p.index + 1) then 2 else 1) p)
      else as_byte b (after_byte bytes p))
      (λ _. feed_less false)
      (λ _. by_test (b == 13) (as_byte 10 (next_line (if feeds bytes (p.index + 1) then 2 else 1) p)) (as_byte b (after_byte bytes p))
      (λ _. feed_less (feeds bytes (p.index + 1))) (λ _. line_less bytes b)))

  pub given_falls : (bytes : List ℕ) (b : ℕ) → remaining size (byte_given bytes p b).next < remaining size p
  unfolding Less
  given_falls bytes b = given_less bytes b

module _ (p : Point) where
  Later : VirtualByte → Type 0
  Later v = Reaches p v.next

  later_test : (t : Bool) (v w : VirtualByte) → Later v → Later w → Later (if t then v else w)
  later_test true v w h k = h
  later_test false v w h k = k

  tab_later : (b : ℕ) (t : Bool) → Later (as_byte b (if t then in_line p else in_tab p))
  unfolding Later
  tab_later b true = record { index = omega arith; column = λ e. omega arith }
  tab_later b false = record { index = omega arith; column = λ e. omega arith }

  feed_later : (t : Bool) → Later (as_byte 10 (next_line (if t then 2 else 1) p))
  unfolding Later
  feed_later true = record { index = omega arith; column = λ e. omega arith }
  feed_later false = record { index = omega arith; column = λ e. omega arith }

  line_later : (bytes : List ℕ) (b : ℕ) → Later (as_byte b (after_byte bytes p))
  unfolding Later
  line_later bytes b = record { index = omega arith; column = λ e. omega arith }

  given_later : (bytes : List ℕ) (b : ℕ) → Later (byte_given bytes p b)
  given_later bytes b =
      let line = as_byte b (after_byte bytes p) in
      let return = as_byte 10 (next_line (if feeds bytes (p.index + 1) then 2 else 1) p) in
      later_test (b == 9) (tab_column p) (if b == 10 then as_byte 10 (next_line 1 p) else if b == 13 then return else line)
      (tab_later (if p.vs == 0 then 9 else 32) ((tab_size p.column == 1) || nat_le 3 p.vs))
      (later_test (b == 10) (as_byte 10 (next_line 1 p)) (if b == 13 then return else line) (feed_later false)
      (later_test (b == 13) return line (feed_later (feeds bytes (p.index + 1))) (line_later bytes b)))

  -- the place after a byte is after it
  pub step_reaches : (bytes : List ℕ) → Reaches p (virtual_byte bytes p).next
  unfolding Later
  step_reaches bytes = given_later bytes (slice_index bytes p.index)

reach : (i n vs : ℕ) (to : ℕ × ℕ) → to.0 ≤ n → (to.0 ≡ n → to.1 ≡ 0) → i ≡ to.0 → vs < to.1 → i < n
reach i n vs to h k e l = pick (cases_lt i n)
  where
    pick : (i < n) ⊎ (n ≤ i) → i < n
    pick (inl x) = x
    pick (inr x) = let z : to.1 ≡ 0 = k (omega arith) in absurd (omega arith)

-- a place before the end of a range in the text
pub within : (n : ℕ) (to : ℕ × ℕ) (p : Point) → to.0 ≤ n → (to.0 ≡ n → to.1 ≡ 0) → is_before to p ≡ true → p.index < n
within n to p h k e =
    elim (by_tests (nat_lt p.index to.0) (p.index == to.0) (nat_lt p.vs to.1) e) [
      | inl x ↦ (let i = ltb-true p.index to.0 x in omega arith)
      | inr x ↦ reach p.index n p.vs to h k (eqb-true p.index to.0 x.0) (ltb-true p.vs to.1 x.1)
    ]

some_same : {x y : VirtualByte} → Some x ≡ Some y → x ≡ y
some_same h = cc

-- a byte that was read
pub is_read : (bytes : List ℕ) (to : ℕ × ℕ) (p : Point) (v : Option VirtualByte) (w : VirtualByte) → to.0 ≤ length bytes → (to.0 ≡ length bytes → to.1 ≡ 0)
    → v ≡ byte_before bytes to p → v ≡ Some w → IsRead (length bytes) p w
is_read bytes to p v w h k e s = pick (is_before to p) refl
  where
    pick : (t : Bool) → is_before to p ≡ t → IsRead (length bytes) p w
    pick true q =
        let low = within (length bytes) to p h k q in
        let f : Some (virtual_byte bytes p) ≡ Some w = sym (rw q at e) ∙ s in
        let same = some_same f in
        record {
          within = low;
          falls = subst (λ (z : VirtualByte). remaining (length bytes) z.next < remaining (length bytes) p) same
              (given_falls (length bytes) p low bytes (slice_index bytes p.index));
          order =
              subst (λ (z : VirtualByte). Reaches p z.next) same (step_reaches p bytes);
        }
    pick false q = absurd (let f : None ≡ Some w = sym (rw q at e) ∙ s in cc)

-- what is handed in was read
pub is_fed : (bytes : List ℕ) (skips : Skips) (to : ℕ × ℕ) (c p : Point) (v : Option VirtualByte) → to.0 ≤ length bytes → (to.0 ≡ length bytes → to.1 ≡ 0)
    → p ≡ place_in skips c → v ≡ byte_before bytes to p → IsFed (length bytes) c p v
is_fed bytes skips to c p v h k ep ev = record {
  forward = subst (λ (z : Point). remaining (length bytes) z ≤ remaining (length bytes) c) (sym ep) (start_less (length bytes) skips c);
  order = subst (λ (z : Point). Reaches c z) (sym ep) (start_reaches skips c);
  read = λ w s. is_read bytes to p v w h k ev s;
}

-- over a byte
pub step_less : (bytes : List ℕ) (to : ℕ × ℕ) (p : Point) → to.0 ≤ length bytes → (to.0 ≡ length bytes → to.1 ≡ 0) → is_before to p ≡ true
    → remaining (length bytes) (virtual_byte bytes p).next < remaining (length bytes) p
step_less bytes to p h k e = given_falls (length bytes) p (within (length bytes) to p h k e) bytes (slice_index bytes p.index)
