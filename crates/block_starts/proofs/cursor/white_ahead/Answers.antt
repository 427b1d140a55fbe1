use Rattle.std.proofs.Common.{sym, ◌∙◌, arith}
use Rattle.std.proofs.lemmas.List.Sums.{prefix_len-drop_yes}
use Rattle.definition_text.specs.Columns.{is_white}
use Rattle.block_starts.proofs.White.{indent_at}
use Rattle.block_starts.proofs.cursor.white_ahead.Goals as goal

pub loop-i-preserved : goal.loop-i-preserved
loop-i-preserved c =
    let t = c.args.bytes.now in
    let v = c.loop-i.invariant in
    let white = sym c.is_space_or_tab.ensures ∙ c.if-not-is_space_or_tab.false in
    let more = prefix_len-drop_yes is_white t c.loop-i.i 0 c.loop-i-test.true white in
    let wider = indent_at c.loop-i.at t c.loop-i.i c.width-at.result c.loop-i-test.true white c.width-at.ensures.same in
    record {
      white = omega (arith, more, v.white);
      columns = omega (arith, wider, v.columns);
      after = omega (arith, v.after);
      few = omega (arith, v.few, c.width-at.ensures.few);
    }
