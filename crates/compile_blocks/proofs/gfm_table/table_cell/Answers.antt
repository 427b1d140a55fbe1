use Rattle.std.proofs.Common.{◌≡◌, ◌∙◌, ap, subst}
use Rattle.compile_blocks.proofs.Prelude.{cell_name, end_tag, ending_bytes, in_bytes, inline_pieces, layout_after, LineEnding, next_cell, OnOk, page_view}
use Rattle.compile_blocks.proofs.Prelude.{with_bytes, with_tag}
use Rattle.compile_blocks.proofs.GfmTableLaid.{cell_laid}
use Rattle.compile_blocks.proofs.gfm_table.table_cell.Goals as goal

pub returns-clause-printed : goal.returns-clause-printed
returns-clause-printed g c = λ m ds kids meant found sound.
    let names = g.T.Tables.reference_of c.args.source.now.tables.now in
    let bytes = c.args.source.now.checked.bytes.now in
    let out = page_view c.args.page.now in
    let e = c.args.page.now.default_ending in
    let default = ending_bytes e in
    let name = cell_name c.args.kind in
    let is = next_cell names bytes kids in
    let ps = in_bytes (inline_pieces m is) in
    let opened = c.in_ok-fresh_tag.ensures.printed ∙ ap (λ tag. with_tag default tag out) c.cell_tag.ensures in
    let text =
    c.in_ok-cell_text.ensures.printed m ds kids meant found sound
    ∙ ap (λ (x : LineEnding). layout_after m.compile x (page_view c.fresh_tag.new.self) ps) c.in_ok-fresh_tag.ensures.default
    ∙ ap (λ x. layout_after m.compile e x ps) opened in
    subst (λ x. OnOk c.say.result (page_view c.say.new.self ≡ x))
    (ap (λ end. with_bytes end (page_view c.cell_text.new.page)) c.cell_end.ensures
    ∙ ap (with_bytes (end_tag name)) text
    ∙ cell_laid m default name c.args.align is out)
    c.say.ensures.printed
