use Rattle.std.proofs.Common.{◌≡◌, ◌∙◌, ℕ, List, [], ap, subst, codes}
use Rattle.compile_blocks.proofs.Prelude.{after_child, after_sound, before_child, before_sound, child_sound, ending_bytes, endings_in, endings_pieces}
use Rattle.compile_blocks.proofs.Prelude.{in_bytes, kids_of, layout_after, LineEnding, more_rows_pieces, OnOk, page_view, row_of, row_pieces, with_bytes}
use Rattle.compile_blocks.proofs.Prelude.{with_tag}
use Rattle.engine_events.specs.declared.event.Name.TheVariants as n
use Rattle.compile_blocks.proofs.Found.{reads_inside}
use Rattle.compile_blocks.proofs.GfmTableLaid.{body_laid, no_body}
use Rattle.compile_blocks.proofs.gfm_table.table_body.Goals as goal

pub returns-in-None-clause-printed : goal.returns-in-None-clause-printed
returns-in-None-clause-printed g c = λ m ds kids others meant events sound after is_after.
    let names = g.T.Tables.reference_of c.args.source.now.tables.now in
    let bytes = c.args.source.now.checked.bytes.now in
    no_body m (ending_bytes c.args.page.now.default_ending) names bytes c.args.aligns.now
    (endings_in names bytes (before_child n.GfmTableBody others)) kids (page_view c.args.page.now) (c.in-None.ensures.nodes kids sound.nodes events)

pub returns-in_ok-more_rows-in-Some-clause-printed : goal.returns-in_ok-more_rows-in-Some-clause-printed
returns-in_ok-more_rows-in-Some-clause-printed g c = λ m ds kids others meant events sound after is_after.
    let names = g.T.Tables.reference_of c.args.source.now.tables.now in
    let bytes = c.args.source.now.checked.bytes.now in
    let e = c.args.page.now.default_ending in
    let default = ending_bytes e in
    let aligns = c.args.aligns.now in
    let start = page_view c.args.page.now in
    let f = c.in-Some.ensures.nodes kids sound.nodes events in
    let inner = kids_of f.node in
    let between = before_child n.GfmTableBody others in
    let left = after_child n.GfmTableRow kids in
    let row = in_bytes (row_pieces m (codes "td") aligns (row_of names bytes inner [])) in
    let more = in_bytes (more_rows_pieces names bytes m aligns left) in
    let endings = endings_in names bytes between in
    let first = c.in_ok-say-in-Some.ensures.default ∙ c.in_ok-push_endings-in-Some.ensures.default in
    let second = c.in_ok-table_row-in-Some.ensures.default ∙ first in
    let opened =
    c.in_ok-say-in-Some.ensures.printed
    ∙ ap (with_bytes (codes "<tbody>"))
    (c.in_ok-push_endings-in-Some.ensures.printed names m.compile between (before_sound bytes n.GfmTableBody others is_after).nodes
    (c.before_child-between.ensures others is_after.nodes after)
    ∙ ap (λ (b : List ℕ). layout_after m.compile e start (in_bytes (endings_pieces (endings_in names b between)))) c.bytes.ensures) in
    let printed =
    c.in_ok-table_row-in-Some.ensures.printed m ds inner meant (reads_inside c.in-Some.row.node f.node f.reads)
    (child_sound bytes n.GfmTableRow kids f.node f.named sound)
    ∙ ap (λ (x : LineEnding). layout_after m.compile x (page_view c.say.new.self) row) first
    ∙ ap (λ x. layout_after m.compile e x row) opened in
    let others_printed =
    c.in_ok-more_rows-in-Some.ensures.printed m ds left meant f.after (after_sound bytes n.GfmTableRow kids sound)
    ∙ ap (λ (x : LineEnding). layout_after m.compile x (page_view c.table_row.new.page) more) second
    ∙ ap (λ x. layout_after m.compile e x more) printed in
    subst (λ x. OnOk c.fresh_tag.result (page_view c.fresh_tag.new.self ≡ x))
    (ap (λ (x : LineEnding). with_tag (ending_bytes x) (codes "</tbody>") (page_view c.more_rows.new.page))
    (c.in_ok-more_rows-in-Some.ensures.default ∙ second)
    ∙ ap (with_tag default (codes "</tbody>")) others_printed
    ∙ body_laid m default names bytes aligns endings kids f.node start f.named)
    c.fresh_tag.ensures.printed
