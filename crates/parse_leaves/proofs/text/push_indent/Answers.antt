use Rattle.std.proofs.Common.{◌≡◌, ◌-◌, arith, length}
use Rattle.parse_leaves.proofs.Prelude.{both_ok}
use Rattle.parse_leaves.proofs.Indents.{white_written}
use Rattle.parse_leaves.proofs.text.push_indent.Goals as goal

pub returns-clause-written : goal.returns-clause-written
returns-clause-written g c =
    let old = c.args.walk.now in
    let content = c.args.content.now in
    let start = c.args.start.now in
    let size : c.saturating_sub.result ≡ (length content - length start) - old.place =
    omega (arith, c.saturating_sub.ensures, c.saturating_sub-white.ensures, c.place.ensures) in
    both_ok c.text.result
    (λ stays written. λ start_is text stop st le.
    white_written text stop old c.text.new.self content start c.saturating_sub.result start_is size stays (written text) st le)
    c.text.ensures.stays c.text.ensures.written
