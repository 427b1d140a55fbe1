use Rattle.std.proofs.Common.{List, false, subst}
use Rattle.parse_tables.proofs.Prelude.{AreContentLines, content_text, inline_content, own_lines, Piece, piece_lines, read_content, reading_by, WritesContent}
use Rattle.parse_tables.proofs.CellTexts.{in_cell_written}
use Rattle.parse_tables.proofs.cells.push_cell_text.Goals as goal

pub returns-clause-written : goal.returns-clause-written
returns-clause-written g c = λ ds knows text behind ending left b.
    let r = reading_by g.T.Tables c.args.texts.now ds in
    let line : Piece = c.args.cell.now.line in
    let written = c.in_ok-push_text.ensures.written ds knows in
    in_cell_written r text behind ending left c.args.walk.now c.begin_text.new.walk c.enter.new.self c.push_text.new.walk c.exit.new.self line.owed
    line.text.now line.ending line.before c.args.cell.now.after b c.begin_text.ensures.begun c.begin_text.ensures.stays c.begin_text.ensures.few
    c.begin_text.ensures.begins
    (c.in_ok-enter.ensures.written text) c.in_ok-enter.ensures.stays
    (subst (λ (ps : List Piece). AreContentLines (piece_lines ps) → WritesContent r (content_text (piece_lines ps))
    (read_content r false (inline_content r.tables.is_punctuation c.args.cell.now.after (own_lines (piece_lines ps)))) c.enter.new.self c.push_text.new.walk)
    c.from_ref.ensures.value written)
    (c.in_ok-exit.ensures.written text) c.in_ok-exit.ensures.stays
