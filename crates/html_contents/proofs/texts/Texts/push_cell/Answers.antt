use Rattle.std.proofs.Common.{◌≡◌, subst}
use Rattle.html_contents.proofs.Prelude.{context_of, document_by, fold, in_cell, inlines, lay, OnOk, output_view, piece_line, reading_of, structure_pieces}
use Rattle.html_contents.proofs.Contents.{line_alone}
use Rattle.html_contents.proofs.texts.Texts.push_cell.Goals as goal

pub returns : goal.returns
returns g c = λ ds known plain default.
    let texts = c.args.self.now in
    let cell = c.args.cell.now in
    let is_punctuation = g.T.Tables.punctuation_of texts.tables.now in
    let d = document_by g.T.Tables texts ds in
    subst (λ content. OnOk c.push_lines.result
    (output_view c.push_lines.new.out
    ≡ fold (lay texts.options.now.compile default) (output_view c.args.out.now)
    (structure_pieces d (in_cell (inlines (context_of (reading_of d)) content)))))
    (line_alone is_punctuation cell.after (piece_line cell.line))
    (c.push_lines.ensures ds known plain default)
