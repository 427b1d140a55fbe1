use Rattle.std.proofs.Common.{◌≡◌, ◌∙◌, ℕ, List, [], ap, subst, codes}
use Rattle.compile_blocks.proofs.Prelude.{after_child, after_sound, before_child, before_sound, ending_bytes, endings_in, endings_pieces, in_bytes, kids_in}
use Rattle.compile_blocks.proofs.Prelude.{kids_sound, layout_after, LineEnding, OnOk, page_view, row_of, row_pieces, with_tag}
use Rattle.engine_events.specs.declared.event.Name.TheVariants as n
use Rattle.compile_blocks.specs.GfmTable.{head_row_of}
use Rattle.compile_blocks.proofs.Found.{found_law}
use Rattle.compile_blocks.proofs.GfmTableLaid.{head_laid}
use Rattle.compile_blocks.proofs.gfm_table.table_head.Goals as goal

pub returns-clause-printed : goal.returns-clause-printed
returns-clause-printed g c = λ m ds kids meant events sound.
    let names = g.T.Tables.reference_of c.args.source.now.tables.now in
    let bytes = c.args.source.now.checked.bytes.now in
    let e = c.args.page.now.default_ending in
    let default = ending_bytes e in
    let aligns = c.args.aligns.now in
    let start = page_view c.args.page.now in
    let found = found_law n.GfmTableRow kids c.args.head.now c.child-row.result events (c.child-row.ensures.nodes kids sound.nodes events) in
    let inner = kids_in n.GfmTableRow kids in
    let after = after_child n.GfmTableRow kids in
    let between = before_child n.GfmTableDelimiterRow after in
    let is_after = after_sound bytes n.GfmTableRow kids sound in
    let row = in_bytes (row_pieces m (codes "th") aligns (row_of names bytes inner [])) in
    let endings = in_bytes (endings_pieces (endings_in names bytes between)) in
    let first = c.in_ok-say.ensures.default in
    let later = c.in_ok-table_row.ensures.default ∙ first in
    let printed =
    c.in_ok-table_row.ensures.printed m ds inner meant (c.inside_of.ensures n.GfmTableRow kids found) (kids_sound bytes n.GfmTableRow kids sound)
    ∙ ap (λ (x : LineEnding). layout_after m.compile x (page_view c.say.new.self) row) first
    ∙ ap (λ x. layout_after m.compile e x row) c.in_ok-say.ensures.printed in
    let ended =
    c.in_ok-push_endings.ensures.printed names m.compile between (before_sound bytes n.GfmTableDelimiterRow after is_after).nodes
    (c.before_child-between.ensures after is_after.nodes (c.after_of.ensures n.GfmTableRow kids found))
    ∙ ap (λ (b : List ℕ). layout_after m.compile c.table_row.new.page.default_ending (page_view c.table_row.new.page)
    (in_bytes (endings_pieces (endings_in names b between)))) c.bytes.ensures
    ∙ ap (λ (x : LineEnding). layout_after m.compile x (page_view c.table_row.new.page) endings) later
    ∙ ap (λ x. layout_after m.compile e x endings) printed in
    subst (λ x. OnOk c.fresh_tag.result (page_view c.fresh_tag.new.self ≡ x))
    (ap (λ (x : LineEnding). with_tag (ending_bytes x) (codes "</thead>") (page_view c.push_endings.new.page)) (c.in_ok-push_endings.ensures.default ∙ later)
    ∙ ap (with_tag default (codes "</thead>")) ended
    ∙ head_laid m default aligns (head_row_of names bytes kids) start)
    c.fresh_tag.ensures.printed
