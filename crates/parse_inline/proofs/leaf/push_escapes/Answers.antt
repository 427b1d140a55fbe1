use Rattle.std.proofs.Common.{◌≡◌, ◌++◌, ◌∙◌, refl, subst, length, map, take, drop, arith}
use Rattle.std.proofs.Math.Seq.{drop-length, take-length}
use Rattle.parse_inline.proofs.Prelude.{Anywhere, Escape, escaped, WritesFront}
use Rattle.parse_inline.proofs.Escapes.{escapes_more, no_escapes}
use Rattle.parse_inline.proofs.leaf.push_escapes.Goals as goal

pub loop-done-init : goal.loop-done-init
loop-done-init g c = record {
  opened = refl;
  written = λ on names text front content stop size is_on marks st whole. no_escapes names text on stop c.args.walk.now front content st whole;
}

pub loop-done-preserved : goal.loop-done-preserved
loop-done-preserved g c = record {
  opened = c.in_ok-push_escape.ensures.open ∙ c.loop-done.invariant.opened;
  written = λ on names text front content stop size is_on marks st whole.
      escapes_more names text on stop _ _ _ front content c.loop-done._done _ is_on (omega (arith, c.loop-done-test.true, size)) (omega arith) marks
      (c.loop-done.invariant.written on names text front content stop size is_on marks st whole)
      (λ after byte made mark here outside. c.in_ok-push_escape.ensures.written on names text after byte stop made mark here outside);
}

pub returns-clause-written : goal.returns-clause-written
returns-clause-written g c = λ on names text front content stop size is_on marks st whole.
    let all : c.loop-done._done ≡ length front = omega (arith, size) in
    let w =
    subst (λ k. WritesFront on names text (escaped (take k front)) (escaped (drop k front) ++ content) Anywhere
    (map Escape (take k front)) stop c.args.walk.now c.loop-done.walk) all
    (c.loop-done.invariant.written on names text front content stop size is_on marks st whole) in
    let taken =
    subst (λ xs. WritesFront on names text (escaped xs) (escaped (drop (length front) front) ++ content) Anywhere
    (map Escape xs) stop c.args.walk.now c.loop-done.walk)
    (take-length front) w in
    subst (λ xs. WritesFront on names text (escaped front) (escaped xs ++ content) Anywhere (map Escape front) stop c.args.walk.now c.loop-done.walk)
    (drop-length front) taken
