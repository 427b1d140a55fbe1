-- Both runs of a pair have one byte, and a pair of `~` or `=` takes all of both.
use Rattle.std.proofs.Common.{inl, inr, ◌≡◌, ℕ, ◌+◌, ◌<◌, List, [], ◌∷◌, true, ◌||◌, sym, ap, ◌∙◌, arith, subst}
use Rattle.parse_written.proofs.Prelude.{cases_Bool, common_steps, cond-false, cond-true, Each, eqb-true, has_span_size, is_marker, is_whole, or_cases, Pair}
use Rattle.parse_written.proofs.Prelude.{pairs, ParseOptions, Run, run_by_place, ◌==◌}
use Rattle.std.specs.Prelude.{◌⊎◌}
use Rattle.definition_inline.specs.Pairing.{OpenRun, is_eligible, taken_by}
use Rattle.definition_inline.specs.NextPair.{taken_at, total_taken, left_at, IsNextPair, AreNext, NoMore, NextIs}
use Rattle.definition_inline.proofs.NextPair.{are_next}

-- ---- two runs that may go together

one_marker : (o c : OpenRun) → is_eligible o c ≡ true → o.run.marker ≡ c.run.marker
one_marker o c h = grind (arith, common_steps)

opener_opens : (o c : OpenRun) → is_eligible o c ≡ true → o.run.may_open ≡ true
opener_opens o c h = grind (arith, common_steps)

opener_left : (o c : OpenRun) → is_eligible o c ≡ true → 0 < o.run.left
opener_left o c h = grind (arith, common_steps)

closer_left : (o c : OpenRun) → is_eligible o c ≡ true → 0 < c.run.left
closer_left o c h = grind (arith, common_steps)

both_sizes : (o c : OpenRun) → is_eligible o c ≡ true → is_whole o.run.marker ≡ true → o.run.left ≡ c.run.left
both_sizes o c h whole = grind (arith, common_steps)

-- a run of `~` or `=` that may form a span has one byte or two
one_or_two : (options : ParseOptions) (marker n : ℕ) → is_whole marker ≡ true → has_span_size options marker n ≡ true → (n ≡ 1) ⊎ (n ≡ 2)
one_or_two options marker n whole sized = grind (arith, common_steps)

all_taken : (o c : OpenRun) → o.run.left ≡ c.run.left → (o.run.left ≡ 1) ⊎ (o.run.left ≡ 2) → taken_by o c ≡ o.run.left
all_taken o c same size = grind (arith, common_steps)

-- ---- the pairs of runs

module _ (options : ParseOptions) (runs : List Run) where
  abbrev pub run_at_place : ℕ → Run
  run_at_place place = run_by_place runs place

  -- what a pair takes of `~` or `=`
  pub record TakesAll (p : Pair) : Type 0 where
    pub opener : p.taken ≡ (run_at_place p.opener).left
    pub closer : p.taken ≡ (run_at_place p.closer).left
    pub sized : has_span_size options (run_at_place p.opener).marker p.taken ≡ true

  pub record HasSides (p : Pair) : Type 0 where
    pub marks : is_marker options (run_at_place p.opener).marker ≡ true
    pub marker : (run_at_place p.opener).marker ≡ (run_at_place p.closer).marker
    pub whole : is_whole (run_at_place p.opener).marker ≡ true → TakesAll p

  -- a run may open only if its byte and its size are those of a span
  abbrev pub RunFits : Run → Type 0
  RunFits run = run.may_open ≡ true → (is_marker options run.marker ≡ true) × (has_span_size options run.marker run.left ≡ true)

  -- a run of `~` or `=` of which something is left is left whole
  untaken : (place : ℕ) (so_far : List Pair) → Each HasSides so_far → is_whole (run_at_place place).marker ≡ true
      → total_taken so_far place < (run_at_place place).left → total_taken so_far place ≡ 0
  untaken place [] sides whole some = omega arith
  untaken place (q ∷ qs) sides whole some =
      let others = untaken place qs sides.1 whole in
      elim (cases_Bool ((q.opener == place) || (q.closer == place))) [
        | inl touches ↦
            let here : taken_at place q ≡ q.taken = cond-true ((q.opener == place) || (q.closer == place)) q.taken 0 touches in
            let all : q.taken ≡ (run_at_place place).left = elim (or_cases (q.opener == place) (q.closer == place) touches) [
              | inl opens ↦
                  let is = eqb-true q.opener place opens in
                  (sides.0.whole (subst (λ k. is_whole (run_at_place k).marker ≡ true) (sym is) whole)).opener ∙ ap (λ k. (run_at_place k).left) is
              | inr closes ↦
                  let is = eqb-true q.closer place closes in
                  let there = subst (λ k. is_whole (run_at_place k).marker ≡ true) (sym is) whole in
                  (sides.0.whole (subst (λ m. is_whole m ≡ true) (sym sides.0.marker) there)).closer ∙ ap (λ k. (run_at_place k).left) is
            ] in
            absurd (omega arith)
        | inr not_here ↦
            let none : taken_at place q ≡ 0 = cond-false ((q.opener == place) || (q.closer == place)) q.taken 0 not_here in
            none_and_none (taken_at place q) (total_taken qs place) none (others (omega arith))
      ]
    where
      none_and_none : (a b : ℕ) → a ≡ 0 → b ≡ 0 → a + b ≡ 0
      none_and_none a b p q = omega arith

  module _ (fits : (place : ℕ) → RunFits (run_at_place place)) where
    next_sides : (so_far : List Pair) (p : Pair) → Each HasSides so_far → IsNextPair runs so_far p → HasSides p
    next_sides so_far p sides next =
        let o = left_at runs so_far p.opener in
        let c = left_at runs so_far p.closer in
        let eligible = next.eligible.eligible in
        let marker : (run_at_place p.opener).marker ≡ (run_at_place p.closer).marker = one_marker o c eligible in
        let opens = fits p.opener (opener_opens o c eligible) in
        record {
          marks = opens.0;
          marker = marker;
          whole = λ whole.
              let o_none = untaken p.opener so_far sides whole (let some = opener_left o c eligible in omega arith) in
              let c_none = untaken p.closer so_far sides (subst (λ m. is_whole m ≡ true) marker whole) (let some = closer_left o c eligible in omega arith) in
              let o_all : o.run.left ≡ (run_at_place p.opener).left = omega arith in
              let c_all : c.run.left ≡ (run_at_place p.closer).left = omega arith in
              let same = both_sizes o c eligible whole in
              let sized = opens.1 in
              let size = one_or_two options (run_at_place p.opener).marker (run_at_place p.opener).left whole sized in
              let taken : p.taken ≡ o.run.left = next.taken ∙ all_taken o c same (subst (λ n. (n ≡ 1) ⊎ (n ≡ 2)) (sym o_all) size) in
              record {
                opener = taken ∙ o_all;
                closer = taken ∙ same ∙ c_all;
                sized = subst (λ n. has_span_size options (run_at_place p.opener).marker n ≡ true) (sym (taken ∙ o_all)) sized;
              };
        }

    sided : (so_far ps : List Pair) → Each HasSides so_far → AreNext runs so_far ps → Each HasSides ps
    sided _ _ sides (NoMore so_far none) = tt
    sided _ _ sides (NextIs so_far p others next rest) =
        let here = next_sides so_far p sides next in (here, sided (p ∷ so_far) others (here, sides) rest)

    pub pairs_sided : Each HasSides (pairs runs)
    pairs_sided = sided [] (pairs runs) tt (are_next runs)
