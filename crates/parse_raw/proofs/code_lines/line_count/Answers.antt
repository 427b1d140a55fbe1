use Rattle.std.proofs.Common.{arith, ap, length, rules}
use Rattle.parse_raw.proofs.NextLines.{lines_count, no_lines, some_length}
use Rattle.parse_raw.proofs.code_lines.line_count.Goals as goal

pub loop-rest-preserved : goal.loop-rest-preserved
loop-rest-preserved c = record {
  utf8 = search rules;
  counted =
      let some = some_length c.loop-rest.rest.now (c.loop-rest-test.ensures) in
      let first = c.next_line.ensures.rest some in
      omega (arith, ap length first, lines_count c.args.text.now);
}

pub returns : goal.returns
returns c = let none = no_lines c.loop-rest.rest.now c.loop-rest-test.ensures in omega (arith, none)
