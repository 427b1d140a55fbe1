-- What is ahead on a line of a content, step by step.
use Rattle.parse_lines.proofs.Prelude.{AreNext, End, end_after, end_at, Follows, if◌then◌else◌, index_spot, length-drop, nat_tests, OwesIn, Spot, tab_size}
use Rattle.parse_lines.proofs.Prelude.{◌==◌}
use Rattle.std.proofs.Common.{◌≡◌, ℕ, zero, suc, ◌+◌, ◌-◌, ◌≤◌, ◌<◌, false, List, [], ◌∷◌, ◌++◌, inl, inr, refl, sym, ap, ◌∙◌, drop, length, arith}
use Rattle.parse_output.specs.Ends.{columns_before}
use Rattle.parse_output.proofs.Ends.{follows_both}
use Rattle.parse_lines.specs.Content.{IsNext, next_end, next_from}

not_none : (n : ℕ) → (suc n == 0) ≡ false
not_none n = grind (arith, nat_tests)

-- where columns are owed, the others of the tab are before
pub columns_some : (s : Spot) (owed : ℕ) → columns_before s (suc owed) ≡ tab_size s.column - suc owed
columns_some s owed = ap (λ none. if none then 0 else tab_size s.column - suc owed) (not_none owed)

module _ (text : List ℕ) where
  byte_within : (index b : ℕ) → drop index text ≡ b ∷ drop (index + 1) text → index + 1 ≤ length text
  byte_within index b is =
      let some : length (drop index text) ≡ suc (length (drop (index + 1) text)) = ap length is in
      omega (arith, some, length-drop index text)

  next_owes : (index owed b : ℕ) → IsNext text index owed b → (index ≤ length text) × OwesIn text (index_spot text index) owed
  next_owes index zero b is = (omega (arith, byte_within index b is), inl refl)
  next_owes index (suc owed) b is = (omega (arith, is.1), inr is.2)

  pub owes : (end : End) (line : List ℕ) → AreNext text end line → (end.index ≤ length text) × OwesIn text (index_spot text end.index) end.owed
  owes end [] are = are
  owes end (b ∷ bs) are = next_owes end.index end.owed b are.0

  follows_step : (index owed b : ℕ) → IsNext text index owed b → Follows text (end_at index owed) (next_from index owed)
  follows_step index zero b is = record {
    forward = omega arith;
    within = byte_within index b is;
    columns = λ same. absurd (omega (arith, same));
    whole = inl refl;
  }
  follows_step index (suc zero) b is = record {
    forward = omega arith;
    within = omega (arith, is.1);
    columns = λ same. absurd (omega (arith, same));
    whole = inl refl;
  }
  follows_step index (suc (suc owed)) b is =
      let s = index_spot text index in
      let tab = is.2 in
      record {
        forward = omega arith;
        within = omega (arith, is.1);
        columns = λ same. omega (arith, columns_some s (suc owed), columns_some s owed);
        whole = inr (record { within = tab.within; tab = tab.tab; fewer = omega (arith, tab.fewer) });
      }

  follows_self : (end : End) → (end.index ≤ length text) × OwesIn text (index_spot text end.index) end.owed → Follows text end end
  follows_self end is = record { forward = omega arith; within = is.0; columns = λ same. omega arith; whole = is.1 }

  -- the place after the next bytes
  pub follows_after : (front line : List ℕ) (end : End) → AreNext text end (front ++ line) → Follows text end (end_after end (length front))
  follows_after [] line end are = follows_self end (owes end line are)
  follows_after (b ∷ bs) line end are =
      follows_both text end (next_end end) (end_after (next_end end) (length bs)) (follows_step end.index end.owed b are.0)
      (follows_after bs line (next_end end) are.1)

  -- what is next there
  pub next_after : (front line : List ℕ) (end : End) → AreNext text end (front ++ line) → AreNext text (end_after end (length front)) line
  next_after [] line end are = are
  next_after (b ∷ bs) line end are = next_after bs line (next_end end) are.1

-- ---- places after places

pub after_both : (end : End) (m n : ℕ) → end_after (end_after end m) n ≡ end_after end (m + n)
after_both end zero n =
    let all : n ≡ 0 + n = omega arith in
    ap (end_after end) all
after_both end (suc m) n =
    let all : suc (m + n) ≡ suc m + n = omega arith in
    after_both (next_end end) m n ∙ ap (end_after end) all

-- so many more of a content
pub after_more : (start : End) (line_place place size more : ℕ) → line_place ≤ place → more ≡ place + size
    → end_after start (more - line_place) ≡ end_after (end_after start (place - line_place)) size
after_more start line_place place size more before is =
    let all : more - line_place ≡ (place - line_place) + size = omega (arith, before, is) in
    ap (end_after start) all ∙ sym (after_both start (place - line_place) size)

-- the place after so many, at once
pub after_bytes : (index count : ℕ) → end_after (end_at index 0) count ≡ end_at (index + count) 0
after_bytes index zero =
    let here : index ≡ index + 0 = omega arith in
    ap (λ i. end_at i 0) here
after_bytes index (suc count) =
    let there : index + 1 + count ≡ index + suc count = omega arith in
    after_bytes (index + 1) count ∙ ap (λ i. end_at i 0) there

pub after_columns : (index owed count : ℕ) → count < owed → end_after (end_at index owed) count ≡ end_at index (owed - count)
after_columns index owed zero fewer =
    let all : owed ≡ owed - 0 = omega arith in
    ap (end_at index) all
after_columns index zero (suc count) fewer = absurd (omega (arith, fewer))
after_columns index (suc zero) (suc count) fewer = absurd (omega (arith, fewer))
after_columns index (suc (suc owed)) (suc count) fewer =
    let there : suc owed - count ≡ suc (suc owed) - suc count = omega arith in
    after_columns index (suc owed) count (omega (arith, fewer)) ∙ ap (end_at index) there

pub after_tab : (index owed count : ℕ) → 0 < owed → owed ≤ count → end_after (end_at index owed) count ≡ end_at (index + 1 + (count - owed)) 0
after_tab index zero count some all = absurd (omega (arith, some))
after_tab index (suc owed) zero some all = absurd (omega (arith, all))
after_tab index (suc zero) (suc count) some all =
    let there : index + 1 + count ≡ index + 1 + (suc count - suc zero) = omega arith in
    after_bytes (index + 1) count ∙ ap (λ i. end_at i 0) there
after_tab index (suc (suc owed)) (suc count) some all =
    let there : index + 1 + (count - suc owed) ≡ index + 1 + (suc count - suc (suc owed)) = omega arith in
    after_tab index (suc owed) count (omega arith) (omega (arith, all)) ∙ ap (λ i. end_at i 0) there

-- how many columns a tab owes after so many
pub owed_after : (index owed count : ℕ) → (end_after (end_at index owed) count).owed ≡ owed - count
owed_after index owed zero = omega arith
owed_after index zero (suc count) = owed_after (index + 1) zero count ∙ omega arith
owed_after index (suc zero) (suc count) = owed_after (index + 1) zero count ∙ omega arith
owed_after index (suc (suc owed)) (suc count) = owed_after index (suc owed) count ∙ omega arith
