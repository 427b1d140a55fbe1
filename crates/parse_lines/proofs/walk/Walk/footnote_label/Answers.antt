use Rattle.parse_lines.proofs.PrefixNodes.{label_written}
use Rattle.parse_lines.proofs.Steps.{both_ok}
use Rattle.parse_lines.proofs.walk.Walk.footnote_label.Goals as goal

pub returns-clause-labelled : goal.returns-clause-labelled
returns-clause-labelled g c =
    let old = c.args.self.now in
    let enter = c.in_ok-enter.ensures in
    let bracket = c.in_ok-token.ensures in
    let mark = c.in_ok-token-2.ensures in
    let inner = c.in_ok-enter-2.ensures in
    let bytes = c.in_ok-token-3.ensures in
    let inner_end = c.in_ok-exit.ensures in
    let close = c.in_ok-token-4.ensures in
    both_ok c.exit-2.result
    (λ exits exit_end. λ text before content after k label more line line_is from order none is dark sized.
    label_written text before content after old.line_end line line_is old.out c.enter.new.self.out c.token.new.self.out c.token-2.new.self.out
    c.enter-2.new.self.out c.token-3.new.self.out c.exit.new.self.out c.token-4.new.self.out c.exit-2.new.self.out k c.args.size label more from order none is
    dark sized (enter.enters text, enter.end) (bracket.end, λ fits. bracket.written fits text) (mark.end, λ fits. mark.written fits text)
    (inner.enters text, inner.end) (bytes.end, λ fits. bytes.written fits text) (inner_end.exits text, inner_end.end)
    (close.end, λ fits. close.written fits text) (exits text, exit_end))
    c.exit-2.ensures.exits c.exit-2.ensures.end
