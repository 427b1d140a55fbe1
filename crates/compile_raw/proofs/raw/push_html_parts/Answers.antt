use Rattle.std.proofs.Common.{ℕ, List, ◌∙◌}
use Rattle.compile_raw.proofs.Prelude.{AreSound, HaveNoChunk, html_of, node_name, Nodes, page_view, raw_lines, raw_part, raw_parts}
use Rattle.compile_raw.proofs.RawLaid.{html_both}
use Rattle.compile_raw.proofs.RawWalk.{one_printed, first_are}
use Rattle.compile_raw.proofs.Sound.{first_sound}
use Rattle.compile_raw.proofs.raw.push_html_parts.Goals as goal

pub loop-node-preserved : goal.loop-node-preserved
loop-node-preserved g c = record {
  default = c.in_ok-push_html_part.ensures.default ∙ c.loop-node.invariant.default;
  walked = λ ns are plain e.
      let bytes = c.args.bytes.now in
      let options = c.args.options.now in
      let Are : Nodes → Type 0 = λ x. AreSound bytes x × HaveNoChunk x in
      let prints : Nodes → List ℕ = λ x. html_of options (raw_lines (raw_parts bytes x)) in
      let w = c.loop-node.invariant.walked ns are plain e in
      let f = c.in-Some.ensures.nodes w.nodes w.are.0.nodes w.left in
      let now = first_are Are prints (prints ns) (page_view c.args.page.now) (page_view c.loop-node.page) c.loop-node.rest.now w c.in-Some.node c.in-Some.after.now f in
      let sound = first_sound bytes f.first f.others now.0 in
      one_printed Are prints (prints ns) (page_view c.args.page.now) (page_view c.loop-node.page) c.loop-node.rest.now w
      (page_view c.push_html_part.new.page) c.in-Some.node c.in-Some.after.now f (html_of options (raw_lines (raw_part bytes (node_name f.first) f.first)))
      (sound.1, now.1.1)
      (html_both options (raw_part bytes (node_name f.first) f.first) (raw_parts bytes f.others))
      (c.in_ok-push_html_part.ensures.printed f.first f.reads sound.0.texts now.1.0);
}
