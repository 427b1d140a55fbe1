use Rattle.std.proofs.Common.{sym, subst}
use Rattle.parse_raw.proofs.Prelude.{Constructs, Names, WritesOpening}
use Rattle.parse_raw.proofs.ClosedCode.{closed_written}
use Rattle.parse_raw.proofs.NextLines.{all_ok}
use Rattle.parse_raw.proofs.code_fenced.push_fenced_code.Goals as goal

pub returns-clause-written : goal.returns-clause-written
returns-clause-written g c =
    let old = c.args.walk.now in
    let names = c.in_ok-names.names in
    let next = c.in_ok-next_line.ensures in
    all_ok c.exit.result
    (λ exits end stays. λ r first info ls read text top here left to st at order by laid.
    let opens = subst (λ (on : Constructs). WritesOpening on r.tables.names c.args.count names old c.push_open.new.walk) (sym read.constructs) (
    subst (λ (own : Names). WritesOpening c.args.texts.now.options.now.constructs own c.args.count names old c.push_open.new.walk) (sym read.same_names)
    c.in_ok-names.ensures.written) in
    closed_written r first text top names info ls here left to c.args.count old c.push_open.new.walk c.next_line.new.self c.push_closing_fence.new.walk c.exit.new.self
    read.lines st at order by laid opens next.passes next.written next.around c.in_ok-push_closing_fence.ensures.written (exits text) stays end)
    c.exit.ensures.exits c.exit.ensures.end c.exit.ensures.stays
