use Rattle.parse_leaves.proofs.Prelude.{piece_lines, reading_by}
use Rattle.std.proofs.Common.{refl}
use Rattle.parse_leaves.proofs.SetextLeaves.{setext_written}
use Rattle.parse_leaves.proofs.TextLeaves.{three_ok}
use Rattle.parse_leaves.proofs.heading_setext.push_setext_heading.Goals as goal

pub returns-clause-written : goal.returns-clause-written
returns-clause-written g c =
    three_ok c.exit.result
    (λ stays end exits. λ ds rank known are text top here left to at to_rest order by laid.
    setext_written text (reading_by g.T.Tables c.args.texts.now ds) top rank here left to (piece_lines c.args.lines.now) c.args.walk.now c.enter_text.new.walk
    c.push_text_in.new.walk c.next_line.new.self c.push_underline.new.walk c.exit.new.self at to_rest order by laid c.in_ok-enter_text.ensures.written
    (c.in_ok-push_text_in.ensures.written ds known are refl) c.in_ok-next_line.ensures.passes c.in_ok-next_line.ensures.written c.in_ok-next_line.ensures.around
    (c.in_ok-push_underline.ensures.written text) stays end (exits text))
    c.exit.ensures.stays c.exit.ensures.end c.exit.ensures.exits
