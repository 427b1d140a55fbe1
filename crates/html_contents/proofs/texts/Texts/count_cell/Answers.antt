use Rattle.std.proofs.Common.{◌≡◌, subst, ◌∙◌}
use Rattle.html_contents.proofs.Prelude.{context_of, document_by, fold, in_cell, inlines, lay, OnOk, output_view, piece_line, reading_of}
use Rattle.definition_page.specs.InlinePieces.{inline_counts}
use Rattle.html_bytes.specs.Document.{document_meaning}
use Rattle.html_bytes.specs.Pieces.{in_bytes}
use Rattle.html_contents.proofs.Contents.{line_alone}
use Rattle.html_contents.proofs.texts.Texts.count_cell.Goals as goal

pub returns : goal.returns
returns g c = λ ds known plain default.
    let texts = c.args.self.now in
    let cell = c.args.cell.now in
    let is_punctuation = g.T.Tables.punctuation_of texts.tables.now in
    let d = document_by g.T.Tables texts ds in
    subst (λ content. OnOk c.count_content.result
    (output_view c.count_content.new.out
    ≡ fold (lay texts.options.now.compile default) (output_view c.args.out.now)
    (in_bytes (inline_counts (document_meaning d) (in_cell (inlines (context_of (reading_of d)) content))))))
    (c.content-content.ensures is_punctuation ∙ c.in_ok-join.ensures is_punctuation cell.after plain
    ∙ line_alone is_punctuation cell.after (piece_line cell.line))
    (c.count_content.ensures ds known default)
