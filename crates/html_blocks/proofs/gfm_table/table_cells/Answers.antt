use Rattle.std.proofs.Common.{◌≡◌, ◌+◌, refl, sym, ap, ◌∙◌, drop, get_or}
use Rattle.std.proofs.lemmas.List.{drop_more}
use Rattle.html_blocks.proofs.Prelude.{AlignKind, cell_name, cells_bytes, cells_left, CellsAreClear, counts_bytes, document_by, ending_bytes, layout_after}
use Rattle.html_blocks.proofs.Prelude.{LineEnding, next_cell_bytes, OnOk, page_view, piece_line}
use Rattle.markdown_options.specs.declared.align_kind.AlignKind.TheVariants as kind
use Rattle.html_rows.proofs.GfmTableLemmas.{cells_clear, cells_more, clear_taken, no_columns}
use Rattle.std.proofs.Common.{subst}
use Rattle.html_blocks.proofs.gfm_table.table_cells.Goals as goal

pub loop-align-init : goal.loop-align-init
loop-align-init g c =
    let line = piece_line c.args.line.now in
    record {
      same_default = refl;
      clear = λ clear. subst CellsAreClear (sym c.new-cells.ensures) (cells_clear line clear);
      printed = λ ds has clear.
          let d = document_by g.T.Tables c.args.texts.now ds in
          ap (λ cs. layout_after d.options.compile c.args.page.now.default_ending (page_view c.args.page.now)
          (cells_bytes d (cell_name c.args.kind) c.args.aligns.now cs)) c.new-cells.ensures;
    }

pub loop-align-preserved : goal.loop-align-preserved
loop-align-preserved g c =
    let aligns = c.args.aligns.now in
    let name = cell_name c.args.kind in
    let i = c.loop-align.align-index in
    let e = c.args.page.now.default_ending in
    let k = c.loop-align.invariant in
    let cs = cells_left c.loop-align.cells in
    let left = cells_left c.next-cell.new.self in
    let cell = c.next-cell.result in
    let align : AlignKind = get_or aligns i kind.Left in
    record {
      same_default = c.in_ok-next_cell.ensures.default ∙ k.same_default;
      clear = λ clear. (clear_taken cs left cell c.next-cell.ensures.steps (k.clear clear)).1;
      printed = λ ds has clear.
          let d = document_by g.T.Tables c.args.texts.now ds in
          let o = d.options.compile in
          let here = page_view c.loop-align.page in
          let ps = next_cell_bytes d name align cell in
          let rest = drop (i + 1) aligns in
          ap (λ x. layout_after o e x (cells_bytes d name rest left))
          (c.in_ok-next_cell.ensures.printed ds has (clear_taken cs left cell c.next-cell.ensures.steps (k.clear clear)).0
          ∙ ap (λ (x : LineEnding). layout_after o x here ps) k.same_default)
          ∙ sym (cells_more (ending_bytes e) d name align rest cs left cell here c.next-cell.ensures.steps)
          ∙ ap (λ columns. layout_after o e here (cells_bytes d name columns cs)) (sym (drop_more aligns i kind.Left c.loop-align-test.true))
          ∙ k.printed ds has clear;
    }

pub returns-clause-printed : goal.returns-clause-printed
returns-clause-printed g c = λ ds has clear.
    let d = document_by g.T.Tables c.args.texts.now ds in
    let aligns = c.args.aligns.now in
    let o = d.options.compile in
    let e = c.args.page.now.default_ending in
    let k = c.loop-align.invariant in
    let here = page_view c.loop-align.page in
    let left = cells_left c.loop-align.cells in
    subst (λ x. OnOk c.more_cells.result (page_view c.more_cells.new.page ≡ x))
    (ap (λ (x : LineEnding). layout_after o x here (counts_bytes d left)) k.same_default
    ∙ no_columns aligns c.loop-align.align-index (ending_bytes e) d (cell_name c.args.kind) left here c.loop-align-test.false
    ∙ k.printed ds has clear)
    (c.more_cells.ensures.printed ds has (k.clear clear))
