use Rattle.std.proofs.Common.{◌≡◌, ◌∙◌, List, ap, subst, codes}
use Rattle.compile_blocks.proofs.Prelude.{after_child, after_sound, AlignKind, body_pieces, ending_bytes, head_pieces, in_bytes, kids_in, kids_sound}
use Rattle.compile_blocks.proofs.Prelude.{layout_after, LineEnding, OnOk, page_view, Table, with_fresh, with_tag}
use Rattle.engine_events.specs.declared.event.Name.TheVariants as n
use Rattle.event_meaning.specs.GfmTable.{table_of}
use Rattle.compile_blocks.proofs.Found.{found_law}
use Rattle.compile_blocks.proofs.GfmTableLaid.{table_laid}
use Rattle.compile_blocks.proofs.gfm_table.push_table.Goals as goal

pub returns-clause-printed : goal.returns-clause-printed
returns-clause-printed g c = λ m ds enter exit kids meant events sound stands.
    let names = g.T.Tables.reference_of c.args.source.now.tables.now in
    let bytes = c.args.source.now.checked.bytes.now in
    let e = c.args.page.now.default_ending in
    let default = ending_bytes e in
    let out = page_view c.args.page.now in
    let t : Table = table_of names bytes kids in
    let found = found_law n.GfmTableHead kids c.args.inside.now c.child-head.result events (c.child-head.ensures.nodes kids sound.nodes events) in
    let same_columns = c.in_ok-aligns.ensures enter exit kids stands sound.nodes found in
    let start = with_fresh default (with_tag default (codes "<table>") out) in
    let first = c.in_ok-fresh_tag.ensures.default in
    let later = c.in_ok-fresh.ensures.default ∙ first in
    let started =
    c.in_ok-fresh.ensures.printed
    ∙ ap (λ (x : LineEnding). with_fresh (ending_bytes x) (page_view c.fresh_tag.new.self)) first
    ∙ ap (with_fresh default) c.in_ok-fresh_tag.ensures.printed in
    let head = λ (columns : List AlignKind). in_bytes (head_pieces m columns t.head) in
    let body = λ (columns : List AlignKind). in_bytes (body_pieces m columns t.endings t.rows) in
    let headed =
    c.in_ok-table_head.ensures.printed m ds (kids_in n.GfmTableHead kids) meant (c.inside_of.ensures n.GfmTableHead kids found)
    (kids_sound bytes n.GfmTableHead kids sound)
    ∙ ap (λ (x : LineEnding). layout_after m.compile x (page_view c.fresh.new.self) (head c.deref.result.now)) later
    ∙ ap (λ x. layout_after m.compile e x (head c.deref.result.now)) started
    ∙ ap (λ (columns : List AlignKind). layout_after m.compile e start (head columns)) (c.deref.ensures.value ∙ same_columns) in
    let after_head = layout_after m.compile e start (head t.aligns) in
    let bodied =
    c.in_ok-table_body.ensures.printed m ds (kids_in n.GfmTableBody kids) (after_child n.GfmTableHead kids) meant
    (c.kids_in-body.ensures kids sound.nodes events) (kids_sound bytes n.GfmTableBody kids sound)
    (c.after_of.ensures n.GfmTableHead kids found) (after_sound bytes n.GfmTableHead kids sound)
    ∙ ap (λ (x : LineEnding). layout_after m.compile x (page_view c.table_head.new.page) (body c.deref-2.result.now))
    (c.in_ok-table_head.ensures.default ∙ later)
    ∙ ap (λ x. layout_after m.compile e x (body c.deref-2.result.now)) headed
    ∙ ap (λ (columns : List AlignKind). layout_after m.compile e after_head (body columns)) (c.deref-2.ensures.value ∙ same_columns) in
    subst (λ x. OnOk c.fresh_tag-2.result (page_view c.fresh_tag-2.new.self ≡ x))
    (ap (λ (x : LineEnding). with_tag (ending_bytes x) (codes "</table>") (page_view c.table_body.new.page))
    (c.in_ok-table_body.ensures.default ∙ c.in_ok-table_head.ensures.default ∙ later)
    ∙ ap (with_tag default (codes "</table>")) bodied
    ∙ table_laid m default t out)
    c.fresh_tag-2.ensures.printed
