-- The column of a spot.
use Rattle.std.proofs.Common.{⊎_elim, ◌≡◌, ℕ, suc, zero, ◌+◌, ◌-◌, Bool, true, false, List, [], ◌∷◌, refl, sym, ap, ap₂, ◌∙◌, drop, take, arith}
use Rattle.parse_inline.proofs.Prelude.{cases_lt, column_at, fold, if◌then◌else◌, index_spot, nat_tests, ◌==◌, ◌||◌}
use Rattle.std.specs.Prelude.{not, nat_lt}
use Rattle.engine_events.specs.Columns.{column_after, mark_size}
use Rattle.event_grammar.specs.Points.{column_on}
use Rattle.parse_output.specs.declared.spot.Spot.{Spot}
use Rattle.parse_output.specs.Spots.{next_spot, spot, start}

passed_of : (t : Bool) (a b : Spot) → t ≡ true → (if t then a else b).column ≡ a.column
passed_of true a b is = refl
passed_of false a b is = absurd cc

one_of : (t u v : Bool) (a b c d : Spot) (i : ℕ) → a.index ≡ i → b.index ≡ i → c.index ≡ i → d.index ≡ i
    → (if t then a else (if u then b else (if v then c else d))).index ≡ i
one_of true u v a b c d i at-a at-b at-c at-d = at-a
one_of false true v a b c d i at-a at-b at-c at-d = at-b
one_of false false true a b c d i at-a at-b at-c at-d = at-c
one_of false false false a b c d i at-a at-b at-c at-d = at-d

none_left : (k : ℕ) → [] ≡ drop {A = ℕ} k []
none_left zero = refl
none_left (suc k) = refl

column_of : (t u v : Bool) (a c d e : Spot) (b column : ℕ) → t ≡ false → c.column ≡ 1 → d.column ≡ 1 → e.column ≡ column_after b column
    → (if t then a else (if u then c else (if v then d else e))).column ≡ (if not (u || v) then column_after b column else 1)
column_of true u v a c d e b column is one other after = absurd cc
column_of false true v a c d e b column is one other after = one
column_of false false true a c d e b column is one other after = other
column_of false false false a c d e b column is one other after = after

-- the column after bytes: those of a byte order mark have none
columns_past : (mark : ℕ) (bs : List ℕ) (s : Spot) → (fold (next_spot mark) s bs).column ≡ fold column_on s.column (drop (mark - s.index) bs)
columns_past mark [] s = ap (fold column_on s.column) (none_left (mark - s.index))
columns_past mark (b ∷ bs) s =
    let next = next_spot mark s b in
    let index : next.index ≡ s.index + 1 =
    one_of (nat_lt s.index mark) (b == 10) (b == 13) (spot s.line s.column (s.index + 1) false)
    (spot (if s.returned then s.line else s.line + 1) 1 (s.index + 1) false)
    (spot (s.line + 1) 1 (s.index + 1) true) (spot s.line (column_after b s.column) (s.index + 1) false) (s.index + 1) refl refl refl refl in
    ⊎_elim
    (λ before.
    let within : nat_lt s.index mark ≡ true = grind (arith, nat_tests) in
    let column : next.column ≡ s.column = passed_of (nat_lt s.index mark) (spot s.line s.column (s.index + 1) false) _ within in
    let left : mark - s.index ≡ suc (mark - next.index) = omega arith in
    columns_past mark bs next
    ∙ ap (λ k. fold column_on k (drop (mark - next.index) bs)) column
    ∙ ap (λ k. fold column_on s.column (drop k (b ∷ bs))) (sym left))
    (λ behind.
    let beyond : nat_lt s.index mark ≡ false = grind (arith, nat_tests) in
    let column : next.column ≡ column_on s.column b =
    column_of (nat_lt s.index mark) (b == 10) (b == 13) (spot s.line s.column (s.index + 1) false)
    (spot (if s.returned then s.line else s.line + 1) 1 (s.index + 1) false)
    (spot (s.line + 1) 1 (s.index + 1) true) (spot s.line (column_after b s.column) (s.index + 1) false) b s.column beyond refl refl refl in
    let left : mark - next.index ≡ 0 = omega arith in
    let here : mark - s.index ≡ 0 = omega arith in
    columns_past mark bs next
    ∙ ap₂ (λ k m. fold column_on k (drop m bs)) column left
    ∙ ap (λ k. fold column_on s.column (drop k (b ∷ bs))) (sym here))
    (cases_lt s.index mark)

pub column_is : (text : List ℕ) (index : ℕ) → (index_spot text index).column ≡ column_at text index
column_is text index =
    let all : index - 0 ≡ index = omega arith in
    let mark : mark_size text - 0 ≡ mark_size text = omega arith in
    ap (λ n. (fold (next_spot (mark_size text)) start (take n text)).column) all
    ∙ columns_past (mark_size text) (take index text) start
    ∙ ap (λ n. fold column_on 1 (drop n (take index text))) mark
