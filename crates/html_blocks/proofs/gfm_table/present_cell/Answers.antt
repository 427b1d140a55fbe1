use Rattle.std.proofs.Common.{◌≡◌, ap, ◌∙◌, subst}
use Rattle.std.specs.List.{fold}
use Rattle.html_blocks.proofs.Prelude.{cell_name, cell_view, document_by, ending_bytes, OnOk, page_view, with_bytes, with_tag}
use Rattle.definition_page.specs.Read.{read_cell}
use Rattle.definition_page.specs.Tags.{end_tag}
use Rattle.html_bytes.specs.Document.{reading_of, cell_of}
use Rattle.html_bytes.specs.Layout.{lay}
use Rattle.html_footnotes.specs.Output.{output_view}
use Rattle.html_rows.proofs.GfmTableLemmas.{cell_laid}
use Rattle.html_blocks.proofs.gfm_table.present_cell.Goals as goal

pub returns-clause-printed : goal.returns-clause-printed
returns-clause-printed g c = λ ds has clear.
    let d = document_by g.T.Tables c.args.texts.now ds in
    let out = page_view c.args.page.now in
    let default = ending_bytes c.args.page.now.default_ending in
    let name = cell_name c.args.kind in
    let cell = cell_view c.args.cell.now in
    let opened = c.in_ok-fresh_tag.ensures.printed ∙ ap (λ bytes. with_tag default bytes out) c.cell_tag.ensures in
    let text = c.in_ok-push_cell.ensures ds has clear default ∙ ap (λ x. fold (lay d.options.compile default) x (cell_of d cell)) opened in
    subst (λ x. OnOk c.say.result (page_view c.say.new.self ≡ x))
    (ap (λ bytes. with_bytes bytes (output_view c.push_cell.new.out)) c.cell_end.ensures
    ∙ ap (with_bytes (end_tag name)) text
    ∙ cell_laid default d name c.args.align (read_cell (reading_of d) cell) out)
    c.say.ensures.printed
