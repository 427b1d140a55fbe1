use Rattle.std.proofs.Common.{◌∙◌}
use Rattle.parse_leaves.proofs.TextLeaves.{three_ok}
use Rattle.parse_leaves.proofs.Underlines.{underline_written}
use Rattle.parse_leaves.proofs.heading_setext.push_underline.Goals as goal

pub returns-clause-written : goal.returns-clause-written
returns-clause-written g c =
    let white = c.in_ok-white.ensures in
    let enter = c.in_ok-enter.ensures in
    let token = c.in_ok-token.ensures in
    let all = c.in_ok-all.ensures in
    three_ok c.exit.result
    (λ stays end exits. λ text here left.
    underline_written text c.args.walk.now c.white.new.self c.enter.new.self c.token.new.self c.all.new.self c.exit.new.self here left
    c.as_bytes-bytes.result.now c.run-size.result c.first.result (white.stays, white.end, white.written) (c.as_bytes-bytes.ensures.value ∙ white.bare)
    (enter.stays, enter.end, enter.enters text) c.first.ensures c.run-size.ensures.size c.run-size.ensures.within (token.stays, token.end, token.written)
    (all.stays, all.end, all.written) (stays, end, exits text))
    c.exit.ensures.stays c.exit.ensures.end c.exit.ensures.exits
