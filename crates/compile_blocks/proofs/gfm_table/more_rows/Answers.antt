use Rattle.std.proofs.Common.{◌∙◌, ℕ, List, [], refl, ap, codes}
use Rattle.engine_events.specs.declared.event.Name.TheVariants as n
use Rattle.compile_blocks.proofs.Prelude.{after_child, after_pieces, after_sound, before_child, before_sound, child_sound, ending_bytes, endings_in}
use Rattle.compile_blocks.proofs.Prelude.{endings_pieces, in_bytes, kids_of, layout_after, LineEnding, more_rows_pieces, page_view, row_of, row_pieces}
use Rattle.compile_blocks.proofs.Found.{reads_inside}
use Rattle.compile_blocks.proofs.GfmTableLaid.{rows_more, no_more_rows}
use Rattle.compile_blocks.proofs.gfm_table.more_rows.Goals as goal

pub loop-row-init : goal.loop-row-init
loop-row-init g c = record {
  same_default = refl;
  counted = c.requires;
  printed = λ m ds kids meant events sound. record { left = kids; sound = sound; events = events; printed = refl };
}

pub loop-row-preserved : goal.loop-row-preserved
loop-row-preserved g c =
    let k = c.loop-row.invariant in
    let same = c.in_ok-push_endings.ensures.default ∙ k.same_default in
    let aligns = c.args.aligns.now in
    record {
      same_default = c.in_ok-table_row.ensures.default ∙ same;
      counted = c.in_ok-table_row.ensures.counted;
      printed = λ m ds kids meant events sound.
          let names = g.T.Tables.reference_of c.args.source.now.tables.now in
          let bytes = c.args.source.now.checked.bytes.now in
          let default = ending_bytes c.args.page.now.default_ending in
          let here = page_view c.loop-row.page in
          let t = k.printed m ds kids meant events sound in
          let f = c.in-Some.ensures.nodes t.left t.sound.nodes t.events in
          let before = before_child n.GfmTableRow t.left in
          let inner = kids_of f.node in
          let row = row_pieces m (codes "td") aligns (row_of names bytes inner []) in
          let ended =
          c.in_ok-push_endings.ensures.printed names m.compile before (before_sound bytes n.GfmTableRow t.left t.sound).nodes (c.up_to.ensures ∙ f.before)
          ∙ ap (λ (b : List ℕ). layout_after m.compile c.loop-row.page.default_ending here (in_bytes (endings_pieces (endings_in names b before)))) c.bytes.ensures
          ∙ ap (λ (x : LineEnding). layout_after m.compile x here (in_bytes (endings_pieces (endings_in names bytes before)))) k.same_default in
          let printed =
          c.in_ok-table_row.ensures.printed m ds inner meant (reads_inside c.in-Some.row.node f.node f.reads)
          (child_sound bytes n.GfmTableRow t.left f.node f.named t.sound)
          ∙ ap (λ (x : LineEnding). layout_after m.compile x (page_view c.push_endings.new.page) (in_bytes row)) same
          ∙ ap (λ x. after_pieces m.compile default x row) ended in
          record {
            left = after_child n.GfmTableRow t.left;
            sound = after_sound bytes n.GfmTableRow t.left t.sound;
            events = f.after;
            printed =
                ap (λ x. after_pieces m.compile default x (more_rows_pieces names bytes m aligns (after_child n.GfmTableRow t.left))) printed
                ∙ rows_more m default names bytes aligns t.left f.node here f.named
                ∙ t.printed;
          };
    }

pub returns-clause-printed : goal.returns-clause-printed
returns-clause-printed g c = λ m ds kids meant events sound.
    let names = g.T.Tables.reference_of c.args.source.now.tables.now in
    let bytes = c.args.source.now.checked.bytes.now in
    let t = c.loop-row.invariant.printed m ds kids meant events sound in
    no_more_rows m (ending_bytes c.args.page.now.default_ending) names bytes c.args.aligns.now t.left (page_view c.loop-row.page)
    (c.in_default.ensures.nodes t.left t.sound.nodes t.events)
    ∙ t.printed
