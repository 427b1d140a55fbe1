-- Columns up to tab stops, from one place to a later one.
use Rattle.std.proofs.Common.{◌≡◌, ◌<◌, ◌≤◌, ℕ, ◌+◌, ◌-◌, ◌%◌, Bool, true, false, not, ◌==◌}
use Rattle.std.proofs.Common.{◌||◌, if◌then◌else◌, List, [], ◌∷◌, ◌++◌, length, take, drop, refl, sym, ap, ◌∙◌}
use Rattle.std.proofs.Common.{arith, ◌⊎◌, inl, inr, min, max}
use Rattle.std.proofs.Math.Seq.{take-add}
use Rattle.std.proofs.Common.{leb}
use Rattle.std.proofs.lemmas.Bool.{leb-true, leb-false}
use Rattle.event_grammar.proofs.Prelude.{column_on, drop_all, fold, mark_size, phase}
use Rattle.event_grammar.proofs.Prelude.{phase_at, phase_on}
use Rattle.std.proofs.lemmas.List.{drop-append-le, length-take, length-take-le, drop-take}
use Rattle.std.proofs.lemmas.List.Sums.{fold-append}
use Rattle.engine_events.specs.Columns.{tab_size}
use Rattle.event_grammar.specs.Points.{column_at}

step_by : (tab feed return : Bool) (c : ℕ)
    → phase (if not (feed || return) then (if tab then c + tab_size c else c + 1) else 1) ≡ (if tab || feed || return then 0 else (phase c + 1) % 4)
step_by true true r c = refl
step_by true false true c = refl
step_by true false false c = omega arith
step_by false true r c = refl
step_by false false true c = refl
step_by false false false c = omega arith

pub phase_step : (c b : ℕ) → phase (column_on c b) ≡ phase_on (phase c) b
phase_step c b = step_by (b == 9) (b == 10) (b == 13) c

pub phase_fold : (bs : List ℕ) (c : ℕ) → phase (fold column_on c bs) ≡ fold phase_on (phase c) bs
phase_fold [] c = refl
phase_fold (b ∷ bs) c = phase_fold bs (column_on c b) ∙ ap (λ p. fold phase_on p bs) (phase_step c b)

-- what is dropped of a longer front, by what is dropped of a shorter one
cut : (i j : ℕ) (bs : List ℕ) → i ≤ j → take j bs ≡ take i bs ++ take (j - i) (drop i bs)
cut i j bs h =
    let e : i + (j - i) ≡ j = omega arith in
    ap (λ (z : ℕ). take z bs) (sym e) ∙ take-add i (j - i) bs

drop_short : (m : ℕ) (bs : List ℕ) (i j : ℕ) → m ≤ i → i ≤ j → j ≤ length bs
    → drop m (take j bs) ≡ drop m (take i bs) ++ take (j - i) (drop i bs)
drop_short m bs i j h k l =
    let size : length (take i bs) ≡ i = length-take-le i bs (omega arith) in
    ap (drop m) (cut i j bs k) ∙ drop-append-le m (take i bs) (take (j - i) (drop i bs)) (omega (arith, size))

drop_all_of : (m i : ℕ) (bs : List ℕ) → i ≤ m → drop m (take i bs) ≡ []
drop_all_of m i bs h = drop_all m (take i bs) (omega (arith, length-take i bs))

drop_long : (m : ℕ) (bs : List ℕ) (i j : ℕ) → i ≤ m → m ≤ j → drop m (take j bs) ≡ drop m (take i bs) ++ take (j - m) (drop m bs)
drop_long m bs i j h k =
    let e : m + (j - m) ≡ j = omega arith in
    ap (λ (z : ℕ). drop m (take z bs)) (sym e) ∙ drop-take m (j - m) bs ∙ ap (λ (z : List ℕ). z ++ take (j - m) (drop m bs)) (sym (drop_all_of m i bs h))

drop_none : (m : ℕ) (bs : List ℕ) (i j : ℕ) → i ≤ j → j ≤ m → drop m (take j bs) ≡ drop m (take i bs) ++ take (j - j) (drop j bs)
drop_none m bs i j h k =
    let e : j - j ≡ 0 = omega arith in
    drop_all_of m j bs k
    ∙ sym (ap (λ (z : List ℕ). z ++ take (j - j) (drop j bs)) (drop_all_of m i bs (omega arith)) ∙ ap (λ (z : ℕ). take z (drop j bs)) e)

-- the one is at most the other, or more
by_test : (a b : ℕ) (t : Bool) → leb a b ≡ t → (a ≤ b) ⊎ (b < a)
by_test a b true e = inl (leb-true a b e)
by_test a b false e = inr (leb-false a b e)

pub le_or_lt : (a b : ℕ) → (a ≤ b) ⊎ (b < a)
le_or_lt a b = by_test a b (leb a b) refl

-- whichever is first
abbrev on_from : ℕ → ℕ → ℕ → ℕ
on_from m i j = min (max i m) j

pub drop_more : (m : ℕ) (bs : List ℕ) (i j : ℕ) → i ≤ j → j ≤ length bs
    → drop m (take j bs) ≡ drop m (take i bs) ++ take (j - on_from m i j) (drop (on_from m i j) bs)
drop_more m bs i j k l =
    elim (le_or_lt m i) [
      | inl h ↦ (let e : on_from m i j ≡ i = omega arith in
          drop_short m bs i j h k l ∙ ap (λ (z : ℕ). drop m (take i bs) ++ take (j - z) (drop z bs)) (sym e))
      | inr h ↦ elim (le_or_lt m j) [
        | inl r ↦ (let e : on_from m i j ≡ m = omega arith in
            drop_long m bs i j (omega arith) r ∙ ap (λ (z : ℕ). drop m (take i bs) ++ take (j - z) (drop z bs)) (sym e))
        | inr r ↦ (let e : on_from m i j ≡ j = omega arith in
            drop_none m bs i j k (omega arith) ∙ ap (λ (z : ℕ). drop m (take i bs) ++ take (j - z) (drop z bs)) (sym e))
      ]
    ]

-- the phase of a later place
pub phase_more : (bs : List ℕ) (i j : ℕ) → i ≤ j → j ≤ length bs
    → phase_at bs j ≡ fold phase_on (phase_at bs i) (take (j - on_from (mark_size bs) i j) (drop (on_from (mark_size bs) i j) bs))
phase_more bs i j k l =
    let m = mark_size bs in
    let more = take (j - on_from m i j) (drop (on_from m i j) bs) in
    ap (λ (z : List ℕ). phase (fold column_on 1 z)) (drop_more m bs i j k l)
    ∙ ap phase (fold-append column_on 1 (drop m (take i bs)) more)
    ∙ phase_fold more (column_at bs i)
