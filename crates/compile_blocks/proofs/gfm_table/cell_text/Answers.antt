use Rattle.std.proofs.Common.{◌≡◌, ◌∙◌, false, sym, ap, subst}
use Rattle.compile_blocks.proofs.Prelude.{cell_or_none, child_sound, in_bytes, in_cell, inline_pieces, Inlines, inlines_of, kids_of, layout_after, next_cell}
use Rattle.compile_blocks.proofs.Prelude.{OnOk, page_view, text_kids}
use Rattle.engine_events.specs.declared.event.Name.TheVariants as n
use Rattle.compile_blocks.proofs.Found.{none_found, some_found, reads_inside}
use Rattle.compile_blocks.proofs.gfm_table.cell_text.Goals as goal
use Rattle.compile_blocks.proofs.TextKids.{text_law, text_sound}

pub returns-in-None-clause-printed : goal.returns-in-None-clause-printed
returns-in-None-clause-printed g c = λ m ds kids meant found sound.
    let names = g.T.Tables.reference_of c.args.source.now.tables.now in
    let bytes = c.args.source.now.checked.bytes.now in
    let page = c.args.page.now in
    ap (λ o. layout_after m.compile page.default_ending (page_view page) (in_bytes (inline_pieces m (cell_or_none names bytes o))))
    (sym (none_found n.GfmTableCell kids c.args.cell c.in-None.is found))

pub returns-in-Some-clause-printed : goal.returns-in-Some-clause-printed
returns-in-Some-clause-printed g c = λ m ds kids meant found sound.
    let names = g.T.Tables.reference_of c.args.source.now.tables.now in
    let bytes = c.args.source.now.checked.bytes.now in
    let page = c.args.page.now in
    let f = some_found n.GfmTableCell kids c.args.cell c.in-Some.cell c.in-Some.is found in
    let inner = kids_of f.node in
    let held = child_sound bytes n.GfmTableCell kids f.node f.named sound in
    let is : in_cell (inlines_of names bytes false (text_kids inner)) ≡ next_cell names bytes kids =
    ap in_cell (sym (text_law names bytes false inner)) ∙ ap (cell_or_none names bytes) (sym f.named) in
    subst (λ (x : Inlines). OnOk c.text.result (page_view c.text.new.page
    ≡ layout_after m.compile page.default_ending (page_view page) (in_bytes (inline_pieces m x))))
    is
    (c.text.ensures.printed m ds (text_kids inner) meant (c.text_within.ensures inner held.nodes (reads_inside c.in-Some.cell.node f.node f.reads))
    (text_sound bytes inner held))
