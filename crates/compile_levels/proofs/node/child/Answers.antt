use Rattle.std.proofs.Common.{refl, arith, sym, ◌∙◌}
use Rattle.compile_levels.proofs.ChildLaw.{one_passed, found_law}
use Rattle.compile_levels.proofs.node.child.Goals as goal

pub returns-then-eq-clause-nodes : goal.returns-then-eq-clause-nodes
returns-then-eq-clause-nodes c = λ ns k e.
    let p = c.loop-node.invariant.passes ns k e in
    found_law c.args.name c.args.events.now ns c.loop-node.rest.now c.in-Some.node c.in-Some.after.now p
    (c.in-Some.ensures.nodes p.nodes p.are p.left)
    (sym c.eq.ensures ∙ c.if-eq.true) _ refl refl refl

pub loop-node-preserved : goal.loop-node-preserved
loop-node-preserved c = record {
  shorter = omega (arith, c.in-Some.ensures.shorter);
  passes = λ ns k e.
      let p = c.loop-node.invariant.passes ns k e in
      one_passed c.args.name c.args.events.now ns c.loop-node.rest.now c.in-Some.node c.in-Some.after.now p
      (c.in-Some.ensures.nodes p.nodes p.are p.left)
      (sym c.eq.ensures ∙ c.if-eq.false);
}
