use Rattle.std.proofs.Common.{◌++◌, arith, rules, length, ap}
use Rattle.std.specs.Prelude.{option_to_list}
use Rattle.definition_text.specs.Lines.{text_line}
use Rattle.definition_inline.specs.ReferenceRows.{row_of}
use Rattle.markdown_tables.proofs.Reading.{after-line, lines-count}
use Rattle.markdown_tables.proofs.rows.Rows.read.Goals as goal

pub overflow_add-number : goal.overflow_add-number
overflow_add-number g c =
    let so_far = c.loop-rest.invariant.1.1 in
    let fewer = lines-count c.args.text.now in
    let more = ap length (c.next_line.ensures.rest (search rules)) in
    omega (arith, so_far.counted, fewer, more)

pub loop-rest-preserved : goal.loop-rest-preserved
loop-rest-preserved g c =
    let earlier = c.loop-rest.invariant.1.0 in
    let so_far = c.loop-rest.invariant.1.1 in
    let line = text_line c.next_line.result.0.now c.next_line.result.1 in
    let added = c.in_ok-add_line.ensures earlier c.loop-rest.invariant.1.2 in (
      search rules,
      (
        earlier ++ option_to_list (row_of c.next_line.result.0.now),
        after-line c.args.text.now c.loop-rest.number earlier c.loop-rest.rest.now line c.next_line.result.2.now so_far
            (c.next_line.ensures.rest (search rules)) added.0,
        added.1,
      ),
    )
