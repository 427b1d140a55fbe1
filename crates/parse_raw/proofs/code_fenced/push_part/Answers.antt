use Rattle.parse_raw.proofs.FenceStrings.{part_none, part_written}
use Rattle.parse_raw.proofs.NextLines.{all_ok}
use Rattle.parse_raw.proofs.code_fenced.push_part.Goals as goal

pub returns-then-is_empty-clause-written : goal.returns-then-is_empty-clause-written
returns-then-is_empty-clause-written g c text rest ending left raw before =
    part_none c.args.texts.now.options.now.constructs (g.T.Tables.reference_of c.args.texts.now.tables.now) text rest ending left c.args.name c.args.string.now
    c.args.walk.now c.if-is_empty.ensures before

pub returns-clause-written : goal.returns-clause-written
returns-clause-written g c =
    let begin = c.begin_here.ensures in
    let enter = c.in_ok-enter.ensures in
    let string = c.in_ok-push_string.ensures in
    all_ok c.exit.result
    (λ exits end stays. λ text rest ending left raw before.
    part_written c.args.texts.now.options.now.constructs (g.T.Tables.reference_of c.args.texts.now.tables.now) text rest ending left c.args.name c.args.string.now
    c.args.walk.now c.begin_here.new.self c.enter.new.self c.push_string.new.walk c.exit.new.self c.if-is_empty.ensures raw before begin.begun begin.stays
    begin.begins.1 (enter.written text) enter.stays (string.written text) (exits text) stays end)
    c.exit.ensures.exits c.exit.ensures.end c.exit.ensures.stays
