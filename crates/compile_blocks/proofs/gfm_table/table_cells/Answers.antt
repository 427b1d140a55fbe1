use Rattle.std.proofs.Common.{◌≡◌, ◌+◌, ◌∙◌, refl, sym, ap, subst, drop, get_or}
use Rattle.compile_blocks.proofs.Prelude.{after_child, after_pieces, after_sound, AlignKind, cell_name, cell_pieces, cells_in, cells_pieces, ending_bytes}
use Rattle.compile_blocks.proofs.Prelude.{flat_map, in_bytes, inline_counts, layout_after, LineEnding, next_cell, OnOk, page_view}
use Rattle.std.proofs.lemmas.List.{drop_more}
use Rattle.engine_events.specs.declared.event.Name.TheVariants as n
use Rattle.markdown_options.specs.declared.align_kind.AlignKind.TheVariants as kind
use Rattle.compile_blocks.proofs.Found.{found_law}
use Rattle.compile_blocks.proofs.GfmTableLaid.{cells_more, no_columns}
use Rattle.compile_blocks.proofs.gfm_table.table_cells.Goals as goal

pub loop-align-init : goal.loop-align-init
loop-align-init g c = record {
  same_default = refl;
  counted = c.requires;
  printed = λ m ds kids meant events sound. record { left = kids; sound = sound; events = events; printed = refl };
}

pub loop-align-preserved : goal.loop-align-preserved
loop-align-preserved g c =
    let e = c.args.page.now.default_ending in
    let aligns = c.args.aligns.now in
    let i = c.loop-align.align-index in
    let k = c.loop-align.invariant in
    let name = cell_name c.args.kind in
    let align : AlignKind = get_or aligns i kind.Left in
    record {
      same_default = c.in_ok-table_cell.ensures.default ∙ k.same_default;
      counted = c.in_ok-table_cell.ensures.counted;
      printed = λ m ds kids meant events sound.
          let names = g.T.Tables.reference_of c.args.source.now.tables.now in
          let bytes = c.args.source.now.checked.bytes.now in
          let default = ending_bytes e in
          let here = page_view c.loop-align.page in
          let t = k.printed m ds kids meant events sound in
          let found = found_law n.GfmTableCell t.left c.loop-align.rest.now c.child-cell.result t.events
          (c.child-cell.ensures.nodes t.left t.sound.nodes t.events) in
          let ps = in_bytes (cell_pieces m name align (next_cell names bytes t.left)) in
          let columns = drop (i + 1) aligns in
          record {
            left = after_child n.GfmTableCell t.left;
            sound = after_sound bytes n.GfmTableCell t.left t.sound;
            events = c.after_of-rest.ensures n.GfmTableCell t.left found;
            printed =
                ap (λ x. after_pieces m.compile default x (cells_pieces m name columns (cells_in names bytes (after_child n.GfmTableCell t.left))))
                (c.in_ok-table_cell.ensures.printed m ds t.left meant found t.sound
                ∙ ap (λ (x : LineEnding). layout_after m.compile x here ps) k.same_default)
                ∙ cells_more m default names bytes name align columns t.left here
                ∙ ap (λ left. after_pieces m.compile default here (cells_pieces m name left (cells_in names bytes t.left)))
                (sym (drop_more aligns i kind.Left c.loop-align-test.true))
                ∙ t.printed;
          };
    }

pub returns-clause-printed : goal.returns-clause-printed
returns-clause-printed g c = λ m ds kids meant events sound.
    let names = g.T.Tables.reference_of c.args.source.now.tables.now in
    let bytes = c.args.source.now.checked.bytes.now in
    let e = c.args.page.now.default_ending in
    let k = c.loop-align.invariant in
    let here = page_view c.loop-align.page in
    let t = k.printed m ds kids meant events sound in
    subst (λ x. OnOk c.more_cells.result (page_view c.more_cells.new.page ≡ x))
    (ap (λ (x : LineEnding). layout_after m.compile x here (in_bytes (flat_map (inline_counts m) (cells_in names bytes t.left)))) k.same_default
    ∙ no_columns m (ending_bytes e) names bytes (cell_name c.args.kind) c.args.aligns.now c.loop-align.align-index t.left here c.loop-align-test.false
    ∙ t.printed)
    (c.more_cells.ensures.printed m ds t.left meant t.events t.sound)
