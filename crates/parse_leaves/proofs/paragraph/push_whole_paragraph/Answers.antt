use Rattle.parse_leaves.proofs.Prelude.{reading_by, utf8_bytes, whole_lines}
use Rattle.parse_leaves.proofs.Contents.{whole_written}
use Rattle.parse_leaves.proofs.TextLeaves.{paragraph_written, three_ok}
use Rattle.parse_leaves.proofs.paragraph.push_whole_paragraph.Goals as goal

pub returns-clause-written : goal.returns-clause-written
returns-clause-written g c =
    let text = c.args.text.now in
    three_ok c.exit.result
    (λ stays end exits. λ ds known bytes top here left to at to_rest order by laid.
    let r = reading_by g.T.Tables c.args.texts.now ds in
    let content = c.whole_content.result in
    let written =
    whole_written r content c.args.first text c.enter_text.new.walk c.push_content.new.walk (utf8_bytes text c.utf8.text) c.in_ok-push_content.ensures.bytes
    (c.whole_content.ensures r.tables.is_punctuation) (c.in_ok-push_content.ensures.written ds known) in
    paragraph_written bytes r top c.args.first here left to (whole_lines text) c.args.walk.now c.enter_text.new.walk
    c.push_content.new.walk c.exit.new.self at to_rest order laid c.in_ok-enter_text.ensures.written written (exits bytes) stays end)
    c.exit.ensures.stays c.exit.ensures.end c.exit.ensures.exits
