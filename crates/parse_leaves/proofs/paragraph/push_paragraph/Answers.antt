use Rattle.parse_leaves.proofs.Prelude.{piece_lines, reading_by}
use Rattle.parse_leaves.proofs.Lines.{content_lines}
use Rattle.parse_leaves.proofs.TextLeaves.{paragraph_written, three_ok}
use Rattle.parse_leaves.proofs.paragraph.push_paragraph.Goals as goal

pub returns-clause-written : goal.returns-clause-written
returns-clause-written g c =
    let ls = piece_lines c.args.lines.now in
    three_ok c.exit.result
    (λ stays end exits. λ ds known are text top here left to at to_rest order by laid.
    paragraph_written text (reading_by g.T.Tables c.args.texts.now ds) top c.args.first here left to ls c.args.walk.now c.enter_text.new.walk
    c.push_text.new.walk c.exit.new.self at to_rest order laid c.in_ok-enter_text.ensures.written
    (c.in_ok-push_text.ensures.written ds known (content_lines ls are)) (exits text) stays end)
    c.exit.ensures.stays c.exit.ensures.end c.exit.ensures.exits
