use Rattle.std.proofs.Common.{◌∙◌, sym, subst}
use Rattle.compile_raw.proofs.Prelude.{page_view, Passed}
use Rattle.compile_raw.proofs.RawWalk.{CodeWalked, one_code, code_first}
use Rattle.compile_raw.proofs.raw.push_code.Goals as goal

pub loop-node-preserved : goal.loop-node-preserved
loop-node-preserved g c = record {
  default = c.in_ok-push_part.ensures.default ∙ c.loop-node.invariant.default;
  counted = c.read-part.ensures.counted;
  walked = λ ns are e.
      let bytes = c.args.bytes.now in
      let start = page_view c.args.page.now in
      let now = page_view c.loop-node.page in
      let w = c.loop-node.invariant.walked ns are e in
      let f = c.in-Some.ensures.nodes w.nodes w.are.nodes w.left in
      let sound = (code_first bytes c.args.after_fence ns start c.loop-node.passed now c.loop-node.rest.now w c.in-Some.node c.in-Some.after.now f).0 in
      let P : Passed → Type 0 = λ p. CodeWalked bytes c.args.after_fence ns start p (page_view c.push_part.new.page) c.in-Some.after.now in
      subst P (sym c.with-passed.ensures)
      (one_code bytes c.args.after_fence ns start c.loop-node.passed now c.loop-node.rest.now w
      (page_view c.push_part.new.page) c.in-Some.node c.in-Some.after.now f c.read-part.result
      (c.read-part.ensures.part f.first f.reads sound.texts) c.in_ok-push_part.ensures.printed);
}
