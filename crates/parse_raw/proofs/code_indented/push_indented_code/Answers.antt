use Rattle.std.proofs.Common.{ℕ, false, ap₂, subst}
use Rattle.event_definition.specs.CodeIndented.{indented_written}
use Rattle.event_definition.specs.Written.{Written}
use Rattle.parse_lines.specs.Pieces.{left_in_line}
use Rattle.parse_raw.proofs.Prelude.{Constructs, standing}
use Rattle.parse_raw.specs.Pieces.{WritesToEnding}
use Rattle.parse_raw.proofs.CodeIndented.{code_written, indent_written}
use Rattle.parse_raw.proofs.NextLines.{all_ok}
use Rattle.parse_raw.proofs.code_indented.push_indented_code.Goals as goal

pub returns-clause-written : goal.returns-clause-written
returns-clause-written g c =
    let space = c.in_ok-push_indent.ensures in
    let enter = c.in_ok-enter.ensures in
    let all = c.in_ok-all.ensures in
    all_ok c.exit.result
    (λ exits end stays. λ r first ls size text top here left to st at order by laid.
    let indent = indent_written text 4 here left c.args.walk.now c.push_indent.new.walk st at order space.stays space.end space.written in
    (code_written text r.parse.constructs r.tables.names top ls c.args.count c.saturating_sub.result here left to c.args.walk.now c.push_indent.new.walk
    c.enter.new.self c.all.new.self c.push_code_lines.new.walk c.exit.new.self size c.saturating_sub.ensures st laid indent
    (enter.enters text indent.quiet.writes.order) enter.stays enter.end all.stays all.end all.written
    c.in_ok-push_code_lines.ensures.written c.in_ok-push_code_lines.ensures.exact (exits text) stays end).0)
    c.exit.ensures.exits c.exit.ensures.end c.exit.ensures.stays

pub returns-clause-exact : goal.returns-clause-exact
returns-clause-exact g c =
    let old = c.args.walk.now in
    let space = c.in_ok-push_indent.ensures in
    let enter = c.in_ok-enter.ensures in
    let all = c.in_ok-all.ensures in
    all_ok c.exit.result
    (λ exits end stays. λ r first ls size text here left to st at order by laid.
    let indent = indent_written text 4 here left old c.push_indent.new.walk st at order space.stays space.end space.written in
    subst (λ (w : Written). WritesToEnding text w old c.exit.new.self)
    (ap₂ (λ (on : Constructs) (k : ℕ). indented_written on (standing old).outermost k (left_in_line (standing old))) by size)
    (code_written text r.parse.constructs r.tables.names false ls c.args.count c.saturating_sub.result here left to old c.push_indent.new.walk
    c.enter.new.self c.all.new.self c.push_code_lines.new.walk c.exit.new.self size c.saturating_sub.ensures st laid indent
    (enter.enters text indent.quiet.writes.order) enter.stays enter.end all.stays all.end all.written
    c.in_ok-push_code_lines.ensures.written c.in_ok-push_code_lines.ensures.exact (exits text) stays end).1)
    c.exit.ensures.exits c.exit.ensures.end c.exit.ensures.stays
