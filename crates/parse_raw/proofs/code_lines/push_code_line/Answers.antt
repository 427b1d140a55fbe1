use Rattle.parse_raw.proofs.NextLines.{all_ok}
use Rattle.parse_raw.proofs.RawLines.{cut_written}
use Rattle.parse_raw.proofs.code_lines.push_code_line.Goals as goal

pub returns-clause-written : goal.returns-clause-written
returns-clause-written g c =
    let space = c.in_ok-push_indent.ensures in
    all_ok c.all.result
    (λ stays end written. λ text here left is st at order.
    cut_written text c.args.chunk c.args.walk.now c.push_indent.new.walk c.all.new.self c.args.indent here left is st at order space.stays space.end
    space.written stays end written)
    c.all.ensures.stays c.all.ensures.end c.all.ensures.written
