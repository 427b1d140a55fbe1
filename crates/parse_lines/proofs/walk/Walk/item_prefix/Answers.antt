use Rattle.std.proofs.Common.{ap, ◌∙◌, subst}
use Rattle.parse_lines.proofs.Prelude.{is_digit, prefix_len, rest_of, rest_start, Standing}
use Rattle.parse_lines.proofs.Markers.{item_starts}
use Rattle.parse_lines.proofs.PrefixNodes.{WritesTo, item_written}
use Rattle.parse_lines.proofs.Steps.{both_ok}
use Rattle.parse_lines.proofs.walk.Walk.item_prefix.Goals as goal

pub returns-clause-marked : goal.returns-clause-marked
returns-clause-marked g c =
    let old = c.args.self.now in
    let enter = c.in_ok-enter.ensures in
    let value = c.in_ok-token.ensures in
    let marker = c.in_ok-token-2.ensures in
    let space = c.in_ok-space_to.ensures in
    let rest = rest_of c.args.after in
    let same = marker.stays ∙ value.stays ∙ enter.stays in
    let to = ap (λ (s : Standing). rest_start s.line_end rest) same in
    both_ok c.exit.result
    (λ exits exit_end. λ item bare_is text before content after n kind line line_is at written order found.
    item_written text before content after old.line_end line line_is old.out c.enter.new.self.out c.token.new.self.out c.token-2.new.self.out
    c.space_to.new.self.out c.exit.new.self.out n (rest_of old.rest) rest item c.digits.result at
    (item_starts old.on.now (rest_of old.rest) item rest kind found)
    (c.digits.ensures ∙ ap (prefix_len is_digit) (c.as_bytes.ensures.value ∙ bare_is)) written order
    (enter.enters text, enter.end) (value.end, λ fits. value.written fits text) (marker.end, λ fits. marker.written fits text)
    (space.end ∙ to, subst (WritesTo text c.token-2.new.self.out c.space_to.new.self.out) to (space.written text)) (exits text, exit_end))
    c.exit.ensures.exits c.exit.ensures.end
