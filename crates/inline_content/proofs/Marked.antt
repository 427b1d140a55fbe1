-- Marks in order, and the one at a place.
use Rattle.std.proofs.Common.{◌≡◌, ℕ, zero, suc, ◌<◌, true, false, eqb, ltb, List, [], ◌∷◌, refl, sym, ◌∙◌, get_or, length, arith, inl, inr}
use Rattle.inline_content.proofs.Prelude.{cases_lt, cond-false, cond-true, eq-eqb, IsNonDecreasingBy, kind_at, lt-ltb, ltb-true, Mark, mark_place, ne_eqb}
use Rattle.std.proofs.lemmas.Bool.{ltb-false}
use Rattle.std.specs.List.Sorted.{IsPartitionedBy, IsPartitionPoint}
use Rattle.markdown_options.specs.declared.beside.Kind.TheVariants.{Whitespace}

-- marks in order are parted by any place
pub parted : (marks : List Mark) (place : ℕ) → IsNonDecreasingBy mark_place marks → IsPartitionedBy (λ m. ltb m.place place) marks
parted marks place ordered i j d le lt below =
    let up = ltb-true (get_or marks j d).place place below in
    let rise = ordered i j d le lt in
    lt-ltb (get_or marks i d).place place (omega (arith, up, rise))

-- the first mark that isn't before a place
pub kind_found : (marks : List Mark) (place n : ℕ) (d : Mark) → ((k : ℕ) → k < n → ltb (get_or marks k d).place place ≡ true) → n < length marks
    → (get_or marks n d).place ≡ place → (get_or marks n d).kind ≡ kind_at marks place
kind_found [] place n d before lt is = absurd (omega (arith, lt))
kind_found (m ∷ ms) place zero d before lt is = sym (cond-true (eqb m.place place) _ _ (eq-eqb m.place place is))
kind_found (m ∷ ms) place (suc n) d before lt is =
    let less = ltb-true m.place place (before 0 (omega arith)) in
    kind_found ms place n d (λ k l. before (suc k) (omega (arith, l))) (omega (arith, lt)) is
    ∙ sym (cond-false (eqb m.place place) _ _ (ne_eqb m.place place (λ e. omega (arith, e, less))))

pub kind_none : (marks : List Mark) (place : ℕ) (d : Mark) → ((k : ℕ) → k < length marks → (get_or marks k d).place ≡ place → ⊥)
    → Whitespace ≡ kind_at marks place
kind_none [] place d apart = refl
kind_none (m ∷ ms) place d apart =
    kind_none ms place d (λ k lt. apart (suc k) (omega (arith, lt))) ∙ sym (cond-false (eqb m.place place) _ _ (ne_eqb m.place place (apart 0 (omega arith))))

-- none is at the place
pub kind_missing : (marks : List Mark) (place n : ℕ) (d : Mark) → IsNonDecreasingBy mark_place marks
    → IsPartitionPoint (λ (m : Mark). ltb m.place place ≡ true) (λ (m : Mark). ltb m.place place ≡ false) marks n
    → (n < length marks → (get_or marks n d).place ≡ place → ⊥) → Whitespace ≡ kind_at marks place
kind_missing marks place n d ordered point apart =
    kind_none marks place d
    (λ k lt is.
    elim (cases_lt k n) [
      | inl less ↦ let l = ltb-true (get_or marks k d).place place (point.0 k d (omega arith) less) in omega (arith, l, is)
      | inr ge ↦
          let within : n < length marks = omega (arith, ge, lt) in
          let from = ltb-false (get_or marks n d).place place (point.1 n d (omega arith) within) in
          let rise = ordered n k d ge lt in
          apart within (omega (arith, from, rise, is))
    ])
