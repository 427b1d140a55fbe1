use Rattle.std.proofs.Common.{◌≡◌, ◌∙◌, false, refl, sym, ap}
use Rattle.compile_blocks.proofs.Prelude.{after_child, after_pieces, after_sound, cell_of, cells_in, child_sound, ending_bytes, flat_map, in_bytes, in_cell}
use Rattle.compile_blocks.proofs.Prelude.{inline_counts, Inlines, inlines_of, kids_of, layout_after, LineEnding, page_view, text_kids}
use Rattle.engine_events.specs.declared.event.Name.TheVariants as n
use Rattle.compile_blocks.proofs.Found.{reads_inside}
use Rattle.compile_blocks.proofs.GfmTableLaid.{counts_more, no_counts}
use Rattle.compile_blocks.proofs.gfm_table.more_cells.Goals as goal
use Rattle.compile_blocks.proofs.TextKids.{text_law, text_sound}

pub loop-cell-init : goal.loop-cell-init
loop-cell-init g c = record {
  same_default = refl;
  counted = c.requires;
  printed = λ m ds kids meant events sound. record { left = kids; sound = sound; events = events; printed = refl };
}

pub loop-cell-preserved : goal.loop-cell-preserved
loop-cell-preserved g c =
    let k = c.loop-cell.invariant in
    record {
      same_default = c.in_ok-count_text.ensures.default ∙ k.same_default;
      counted = c.in_ok-count_text.ensures.counted;
      printed = λ m ds kids meant events sound.
          let names = g.T.Tables.reference_of c.args.source.now.tables.now in
          let bytes = c.args.source.now.checked.bytes.now in
          let default = ending_bytes c.args.page.now.default_ending in
          let here = page_view c.loop-cell.page in
          let t = k.printed m ds kids meant events sound in
          let f = c.in-Some.ensures.nodes t.left t.sound.nodes t.events in
          let inner = kids_of f.node in
          let held = child_sound bytes n.GfmTableCell t.left f.node f.named t.sound in
          let text = c.text_within.ensures inner held.nodes (reads_inside c.in-Some.cell.node f.node f.reads) in
          let is : in_cell (inlines_of names bytes false (text_kids inner)) ≡ cell_of names bytes f.node =
          ap in_cell (sym (text_law names bytes false inner)) in
          let counted =
          c.in_ok-count_text.ensures.printed m ds (text_kids inner) meant text (text_sound bytes inner held)
          ∙ ap (λ (x : LineEnding). layout_after m.compile x here (in_bytes (inline_counts m (in_cell (inlines_of names bytes false (text_kids inner))))))
          k.same_default
          ∙ ap (λ (x : Inlines). after_pieces m.compile default here (inline_counts m x)) is in
          record {
            left = after_child n.GfmTableCell t.left;
            sound = after_sound bytes n.GfmTableCell t.left t.sound;
            events = f.after;
            printed =
                ap (λ x. after_pieces m.compile default x (flat_map (inline_counts m) (cells_in names bytes (after_child n.GfmTableCell t.left)))) counted
                ∙ counts_more m default names bytes t.left f.node here f.named
                ∙ t.printed;
          };
    }

pub returns-clause-printed : goal.returns-clause-printed
returns-clause-printed g c = λ m ds kids meant events sound.
    let names = g.T.Tables.reference_of c.args.source.now.tables.now in
    let bytes = c.args.source.now.checked.bytes.now in
    let t = c.loop-cell.invariant.printed m ds kids meant events sound in
    no_counts m (ending_bytes c.args.page.now.default_ending) names bytes t.left (page_view c.loop-cell.page)
    (c.in_default.ensures.nodes t.left t.sound.nodes t.events)
    ∙ t.printed
