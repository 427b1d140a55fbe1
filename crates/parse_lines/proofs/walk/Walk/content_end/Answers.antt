use Rattle.std.proofs.Common.{◌≡◌, ◌+◌, ◌-◌, ◌<◌, sym, ap, ◌∙◌, ◌^◌, arith, rules}
use Rattle.parse_lines.proofs.Prelude.{End, end_after, end_at}
use Rattle.parse_lines.proofs.Ahead.{after_bytes, after_columns, after_tab}
use Rattle.parse_lines.proofs.walk.Walk.content_end.Goals as goal

pub returns-then-more-owed : goal.returns-then-more-owed
returns-then-more-owed g c = λ within.
    let start = c.args.self.now.line_start in
    let more = c.args.self.now.place - c.args.self.now.line_place in
    let owed : c.saturating_sub.result ≡ start.owed - more = search rules in
    ap (end_at start.index) owed ∙ sym (after_columns start.index start.owed more (omega (arith, c.if-more-owed.true, c.saturating_sub-more.ensures)))

pub returns-then-owed-gt0 : goal.returns-then-owed-gt0
returns-then-owed-gt0 g c = λ within.
    let start = c.args.self.now.line_start in
    let more = c.args.self.now.place - c.args.self.now.line_place in
    let closed = after_tab start.index start.owed more (omega (arith, c.if-owed-gt0.true))
    (omega (arith, c.if-more-owed.false, c.saturating_sub-more.ensures)) in
    let fits : start.index + 1 + (more - start.owed) < 2 ^ 61 = omega (arith, ap (λ (e : End). e.index) closed, within) in
    let first : c.after.result ≡ end_at (start.index + 1) 0 = search rules in
    let size : c.saturating_sub-then-owed-gt0.result ≡ more - start.owed = omega
    (arith, c.saturating_sub-then-owed-gt0.ensures, c.saturating_sub-more.ensures) in
    let index : c.after.result.index ≡ start.index + 1 = ap (λ (e : End). e.index) first in
    let all : c.after.result.index + c.saturating_sub-then-owed-gt0.result ≡ start.index + 1 + (more - start.owed) = omega (arith, index, size) in
    c.after-then-owed-gt0.ensures (omega (arith, all, fits)) ∙ ap (λ i. end_at i 0) all ∙ sym closed

pub returns-else-owed-gt0 : goal.returns-else-owed-gt0
returns-else-owed-gt0 g c = λ within.
    let start = c.args.self.now.line_start in
    let more = c.args.self.now.place - c.args.self.now.line_place in
    let none : start.owed ≡ 0 = omega (arith, c.if-owed-gt0.false) in
    let closed : end_after start more ≡ end_at (start.index + more) 0 =
    ap (λ o. end_after (end_at start.index o) more) none ∙ after_bytes start.index more in
    let fits : start.index + more < 2 ^ 61 = omega (arith, ap (λ (e : End). e.index) closed, within) in
    let index : c.at-else-owed-gt0.result.index ≡ start.index = ap (λ (e : End). e.index) c.at-else-owed-gt0.ensures in
    let all : c.at-else-owed-gt0.result.index + c.saturating_sub-more.result ≡ start.index + more = omega (arith, index, c.saturating_sub-more.ensures) in
    c.after-else-owed-gt0.ensures (omega (arith, all, fits)) ∙ ap (λ i. end_at i 0) all ∙ sym closed
