use Rattle.parse_leaves.proofs.Prelude.{content_text, inline_content, own_lines, piece_lines, read_content, reading_by}
use Rattle.std.proofs.Common.{false}
use Rattle.parse_leaves.proofs.InEvents.{text_in_event}
use Rattle.parse_leaves.proofs.TextLeaves.{three_ok}
use Rattle.parse_leaves.proofs.text.push_text_in.Goals as goal

pub returns-clause-written : goal.returns-clause-written
returns-clause-written g c =
    let ls = piece_lines c.args.lines.now in
    three_ok c.exit.result
    (λ stays end exits. λ ds known are other.
    let r = reading_by g.T.Tables c.args.texts.now ds in
    let is = read_content r false (inline_content r.tables.is_punctuation c.args.after (own_lines ls)) in
    text_in_event r c.args.name (content_text ls) is c.args.walk.now c.enter.new.self c.push_text.new.walk c.exit.new.self other
    c.in_ok-enter.ensures.stays c.in_ok-enter.ensures.written (c.in_ok-push_text.ensures.written ds known are) stays end exits)
    c.exit.ensures.stays c.exit.ensures.end c.exit.ensures.exits
