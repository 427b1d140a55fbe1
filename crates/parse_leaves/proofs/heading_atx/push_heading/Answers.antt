use Rattle.std.proofs.Common.{◌∙◌}
use Rattle.parse_leaves.proofs.Prelude.{reading_by}
use Rattle.parse_leaves.proofs.AtxLeaves.{atx_written}
use Rattle.parse_leaves.proofs.TextLeaves.{three_ok}
use Rattle.parse_leaves.proofs.heading_atx.push_heading.Goals as goal

pub returns-clause-written : goal.returns-clause-written
returns-clause-written g c =
    let white = c.in_ok-white.ensures in
    let enter = c.in_ok-enter.ensures in
    let token = c.in_ok-token.ensures in
    let gap = c.in_ok-text.ensures in
    three_ok c.exit.result
    (λ stays end exits. λ ds known clear text top here left to.
    let ending = here.beside.ending in
    atx_written text (reading_by g.T.Tables c.args.texts.now ds) top c.args.rank c.from-size.result here left to c.args.content.now c.as_bytes-bytes.result.now
    c.bytes_from.result.now c.in_ok-text.text.now c.bytes_from-2.result.now c.args.walk.now c.white.new.self c.enter.new.self c.token.new.self
    c.push_white.new.walk c.push_heading_text.new.walk c.push_closing.new.walk c.exit.new.self c.from-size.ensures (white.stays, white.end, white.written)
    (c.as_bytes-bytes.ensures.value ∙ white.bare) (enter.stays, enter.end, enter.enters text) (token.stays, token.end, token.written)
    c.bytes_from.ensures.rest gap.rest (gap.written text ending left)
    (λ behind owed none on. c.in_ok-push_heading_text.ensures.written ds text behind ending left known owed none clear on)
    c.bytes_from-2.ensures.rest (c.in_ok-push_closing.ensures.written text ending left) (stays, end, exits text))
    c.exit.ensures.stays c.exit.ensures.end c.exit.ensures.exits
