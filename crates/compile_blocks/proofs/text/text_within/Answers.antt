use Rattle.std.proofs.Common.{refl, sym, ◌∙◌}
use Rattle.compile_blocks.proofs.TextKids.{text_found, text_in_label, text_after, no_text}
use Rattle.compile_blocks.proofs.text.text_within.Goals as goal

pub loop-node-init : goal.loop-node-init
loop-node-init c = record { left = λ kids k e. record { left = kids; are = k; events = e; same = refl } }

pub loop-node-preserved : goal.loop-node-preserved
loop-node-preserved c = record {
  left = λ kids k e.
      let t = c.loop-node.invariant.left kids k e in
      text_after kids c.loop-node.rest.now t c.in-Some.node c.in-Some.after.now (c.in-Some.ensures.nodes t.left t.are t.events)
      (sym c.holds_text.ensures ∙ c.if-holds_text.false) (sym c.eq.ensures ∙ c.if-eq.false);
}

pub loop-node-preserved-then-eq : goal.loop-node-preserved-then-eq
loop-node-preserved-then-eq c = record {
  left = λ kids k e.
      let t = c.loop-node.invariant.left kids k e in
      text_in_label kids c.loop-node.rest.now t c.in-Some.node c.in-Some.after.now (c.in-Some.ensures.nodes t.left t.are t.events)
      (sym c.holds_text.ensures ∙ c.if-holds_text.false) (sym c.eq.ensures ∙ c.if-eq.true);
}

pub returns-then-holds_text : goal.returns-then-holds_text
returns-then-holds_text c = λ kids k e.
    let t = c.loop-node.invariant.left kids k e in
    text_found kids c.loop-node.rest.now t c.in-Some.node c.in-Some.after.now (c.in-Some.ensures.nodes t.left t.are t.events)
    (sym c.holds_text.ensures ∙ c.if-holds_text.true)

pub returns : goal.returns
returns c = λ kids k e. let t = c.loop-node.invariant.left kids k e in no_text kids c.loop-node.rest.now t (c.in_default.ensures.nodes t.left t.are t.events)
