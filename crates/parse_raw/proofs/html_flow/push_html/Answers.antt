use Rattle.std.proofs.Common.{ℕ, false, ap₂, subst}
use Rattle.event_definition.specs.HtmlFlow.{html_written as html_pieces}
use Rattle.event_definition.specs.Written.{Written}
use Rattle.parse_lines.specs.Pieces.{left_in_line}
use Rattle.parse_raw.proofs.Prelude.{Constructs, standing}
use Rattle.parse_raw.specs.Pieces.{WritesToEnding}
use Rattle.parse_raw.proofs.HtmlFlow.{html_written}
use Rattle.parse_raw.proofs.NextLines.{all_ok}
use Rattle.parse_raw.proofs.html_flow.push_html.Goals as goal

pub returns-clause-written : goal.returns-clause-written
returns-clause-written g c =
    let enter = c.in_ok-enter.ensures in
    let all = c.in_ok-all.ensures in
    all_ok c.exit.result
    (λ exits end stays. λ r first ls size text top here left to st at order by laid.
    (html_written text r.parse.constructs r.tables.names top ls c.args.count c.saturating_sub.result here left to c.args.walk.now c.enter.new.self c.all.new.self
    c.push_lines.new.walk c.exit.new.self size c.saturating_sub.ensures st at order laid (enter.enters text order) enter.stays enter.end all.stays all.end
    all.written c.in_ok-push_lines.ensures.written c.in_ok-push_lines.ensures.exact (exits text) stays end).0)
    c.exit.ensures.exits c.exit.ensures.end c.exit.ensures.stays

pub returns-clause-exact : goal.returns-clause-exact
returns-clause-exact g c =
    let old = c.args.walk.now in
    let enter = c.in_ok-enter.ensures in
    let all = c.in_ok-all.ensures in
    all_ok c.exit.result
    (λ exits end stays. λ r first ls size text here left to st at order by laid.
    subst (λ (w : Written). WritesToEnding text w old c.exit.new.self)
    (ap₂ (λ (on : Constructs) (k : ℕ). html_pieces on (standing old).outermost k (left_in_line (standing old))) by size)
    (html_written text r.parse.constructs r.tables.names false ls c.args.count c.saturating_sub.result here left to old c.enter.new.self c.all.new.self
    c.push_lines.new.walk c.exit.new.self size c.saturating_sub.ensures st at order laid (enter.enters text order) enter.stays enter.end all.stays all.end
    all.written c.in_ok-push_lines.ensures.written c.in_ok-push_lines.ensures.exact (exits text) stays end).1)
    c.exit.ensures.exits c.exit.ensures.end c.exit.ensures.stays
