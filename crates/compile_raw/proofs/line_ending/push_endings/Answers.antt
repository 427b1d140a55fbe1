use Rattle.std.proofs.Common.{ℕ, List, refl, sym, ◌∙◌}
use Rattle.compile_raw.proofs.Prelude.{AreNodes, Cons, ending_bytes, endings_bytes, endings_in, Nil, Nodes, page_view}
use Rattle.compile_raw.proofs.Endings.{endings_laid, first_endings}
use Rattle.compile_raw.proofs.RawWalk.{one_printed, none_left, first_are}
use Rattle.compile_raw.proofs.line_ending.push_endings.Goals as goal

pub loop-node-preserved : goal.loop-node-preserved
loop-node-preserved g c = record {
  default = c.in_ok-push_if_ending.ensures.default ∙ c.loop-node.invariant.default;
  walked = λ names ns k e.
      let start = page_view c.args.page.now in
      let now = page_view c.loop-node.page in
      let bytes = c.args.bytes.now in
      let prints : Nodes → List ℕ = λ x. endings_bytes (endings_in names bytes x) in
      let w = c.loop-node.invariant.walked names ns k e in
      let f = c.in-Some.ensures.nodes w.nodes w.are w.left in
      one_printed AreNodes prints (prints ns) start now c.loop-node.rest.now w
      (page_view c.push_if_ending.new.page) c.in-Some.node c.in-Some.after.now f (prints (Cons f.first Nil))
      (first_are AreNodes prints (prints ns) start now c.loop-node.rest.now w c.in-Some.node c.in-Some.after.now f).1
      (first_endings names bytes f.first f.others) (c.in_ok-push_if_ending.ensures.printed names f.first f.reads);
}

pub returns-clause-printed : goal.returns-clause-printed
returns-clause-printed g c = λ names options ns k e.
    let start = c.args.page.now in
    let bytes = c.args.bytes.now in
    let prints : Nodes → List ℕ = λ x. endings_bytes (endings_in names bytes x) in
    let w = c.loop-node.invariant.walked names ns k e in
    none_left AreNodes prints (prints ns) (page_view start) (page_view c.loop-node.page) c.loop-node.rest.now w
    (c.in_default.ensures.nodes w.nodes w.are w.left) refl
    ∙ sym (endings_laid options (ending_bytes start.default_ending) (endings_in names bytes ns) (page_view start))
