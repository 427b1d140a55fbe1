use Rattle.std.proofs.Common.{ℕ, ◌+◌, ap, refl, sym, ◌∙◌, subst, drop, length}
use Rattle.parse_lines.proofs.Prelude.{rest_of, rest_start, Standing, whole}
use Rattle.parse_lines.proofs.Markers.{footnote_starts}
use Rattle.parse_lines.proofs.PrefixNodes.{WritesTo, footnote_written}
use Rattle.parse_lines.proofs.Steps.{both_ok}
use Rattle.parse_lines.proofs.walk.Walk.footnote_prefix.Goals as goal

pub returns-clause-marked : goal.returns-clause-marked
returns-clause-marked g c =
    let old = c.args.self.now in
    let enter = c.in_ok-enter.ensures in
    let label = c.in_ok-footnote_label.ensures in
    let marker = c.in_ok-token.ensures in
    let space = c.in_ok-space_to.ensures in
    let rest = rest_of c.args.after in
    let same = marker.stays ∙ label.stays ∙ enter.stays in
    let to = ap (λ (s : Standing). rest_start s.line_end rest) same in
    let first_line = ap (λ (s : Standing). s.line_end) enter.stays in
    both_ok c.exit.result
    (λ exits exit_end. λ text before content after n kind line line_is at written order found.
    footnote_written text before content after old.line_end line line_is old.out c.enter.new.self.out c.footnote_label.new.self.out c.token.new.self.out
    c.space_to.new.self.out c.exit.new.self.out n (rest_of old.rest) c.args.label.now rest at
    (footnote_starts old.on.now (rest_of old.rest) c.args.label.now rest kind found) written order (enter.enters text, enter.end)
    (λ m more from in_order none is dark.
    let made =
    label.labelled text before content after m c.args.label.now more line (first_line ∙ line_is)
    (from ∙ ap (λ (e : ℕ). rest_start e (drop m (whole content))) (sym first_line)) in_order none is dark refl in
    (made.0, made.1, made.2, made.3 ∙ ap (λ (e : ℕ). rest_start e (drop (m + (length c.args.label.now + 3)) (whole content))) first_line))
    (marker.end, λ fits. marker.written fits text)
    (space.end ∙ to, subst (WritesTo text c.token.new.self.out c.space_to.new.self.out) to (space.written text)) (exits text, exit_end))
    c.exit.ensures.exits c.exit.ensures.end
