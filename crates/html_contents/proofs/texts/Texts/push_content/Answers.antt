use Rattle.std.proofs.Common.{◌≡◌, OnOk, subst}
use Rattle.html_contents.proofs.Prelude.{context_of, document_by, fold, inlines_from, lay, output_view, parts_in_cell, reading_of, structure_pieces}
use Rattle.html_contents.proofs.texts.Texts.push_content.Goals as goal

pub returns : goal.returns
returns g c = λ ds known default.
    let texts = c.args.self.now in
    let d = document_by g.T.Tables texts ds in
    subst (λ content. OnOk c.push_from.result
    (output_view c.push_from.new.out
    ≡ fold (lay texts.options.now.compile default) (output_view c.args.out.now)
    (structure_pieces d (parts_in_cell c.args.cell (inlines_from (context_of (reading_of d)) content)))))
    (c.content_start.ensures.view (g.T.Tables.punctuation_of texts.tables.now))
    (c.push_from.ensures ds known default)
