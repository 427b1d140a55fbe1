use Rattle.std.proofs.Common.{sym, subst}
use Rattle.parse_raw.proofs.Prelude.{Constructs, Names, WritesOpening}
use Rattle.parse_raw.proofs.NextLines.{all_ok}
use Rattle.parse_raw.proofs.TopCode.{inside_read, outside_read}
use Rattle.parse_raw.proofs.code_fenced.push_unclosed_code.Goals as goal

pub returns-then-is_outside-clause-written : goal.returns-then-is_outside-clause-written
returns-then-is_outside-clause-written g c =
    let old = c.args.walk.now in
    let names = c.in_ok-names.names in
    let end = c.in_ok-ending.ensures in
    all_ok c.exit.result
    (λ exits at stays. λ r first info ls read.
    let opens = subst (λ (on : Constructs). WritesOpening on r.tables.names c.args.count names old c.push_open.new.walk) (sym read.constructs) (
    subst (λ (own : Names). WritesOpening c.args.texts.now.options.now.constructs own c.args.count names old c.push_open.new.walk) (sym read.same_names)
    c.in_ok-names.ensures.written) in
    outside_read r first info ls names c.args.count old c.push_open.new.walk read.lines opens c.ending.new.self c.exit.new.self
    (c.is_outside.ensures.outside c.if-is_outside.true) end.ends end.written end.around exits stays at)
    c.exit.ensures.exits c.exit.ensures.end c.exit.ensures.stays

pub returns-clause-written : goal.returns-clause-written
returns-clause-written g c =
    let old = c.args.walk.now in
    let names = c.in_ok-names.names in
    all_ok c.exit-2.result
    (λ exits at stays. λ r first info ls read.
    let opens = subst (λ (on : Constructs). WritesOpening on r.tables.names c.args.count names old c.push_open.new.walk) (sym read.constructs) (
    subst (λ (own : Names). WritesOpening c.args.texts.now.options.now.constructs own c.args.count names old c.push_open.new.walk) (sym read.same_names)
    c.in_ok-names.ensures.written) in
    inside_read r first info ls names c.args.count old c.push_open.new.walk read.lines opens c.exit-2.new.self
    (c.is_outside.ensures.inside c.if-is_outside.false) exits stays at)
    c.exit-2.ensures.exits c.exit-2.ensures.end c.exit-2.ensures.stays
