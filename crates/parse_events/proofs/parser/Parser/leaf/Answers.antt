use Rattle.std.proofs.Common.{refl, sym, subst}
use Rattle.parse_events.proofs.Prelude.{BlockRow, GoesOnInLine, Leaf, LeafBlock, on_ok_weaker, piece_lines, reading_by, Single, WritesRow}
use Rattle.parse_events.proofs.Held.{walk_kept_then}
use Rattle.parse_events.proofs.LeafRows.{leaf_goes_on, no_table, table_goes_on, table_of}
use Rattle.parse_events.proofs.parser.Parser.leaf.Goals as goal

pub returns-in-Table-clause-goes_on : goal.returns-in-Table-clause-goes_on
returns-in-Table-clause-goes_on g c =
    let ls = piece_lines c.args.lines.now in
    let new = record c.begin_block.new.self { walk = c.push_table.new.walk; buffers = c.push_table.new.buffers } in
    on_ok_weaker c.push_table.result
    (λ written ds leaf knows of value.
    subst (λ (l : LeafBlock). GoesOnInLine (reading_by g.T.Tables c.args.texts.now ds) (Single (Leaf l)) c.args.self.now new)
    (sym (table_of c.args.row c.in-Table.field-0 ls leaf c.in-Table.is of.size value)) (
    table_goes_on c.args.self.now c.begin_block.new.self new (reading_by g.T.Tables c.args.texts.now ds) _ c.in_ok-begin_block.ensures.stays
    (record { lists = refl; items = refl; places = refl; first = refl }) (written ds knows c.args.self.now.first)))
    c.push_table.ensures.written

pub returns-in_default-clause-goes_on : goal.returns-in_default-clause-goes_on
returns-in_default-clause-goes_on g c =
    let ls = piece_lines c.args.lines.now in
    let new = record c.begin_block.new.self { walk = c.push_leaf.new.walk; buffers = c.push_leaf.new.buffers } in
    on_ok_weaker c.push_leaf.result
    (λ written ds leaf knows of value.
    leaf_goes_on c.args.self.now c.begin_block.new.self new (reading_by g.T.Tables c.args.texts.now ds) leaf
    (no_table c.args.row ls leaf c.in_default.not-Table value) c.in_ok-begin_block.ensures.stays
    (record { lists = refl; items = refl; places = refl; first = refl })
    (subst (λ (b : BlockRow). WritesRow (reading_by g.T.Tables c.args.texts.now ds) c.args.self.now.first b c.begin_block.new.self.walk new.walk) value
    (written ds knows of)))
    c.push_leaf.ensures.written

pub returns-in-Table-clause-kept : goal.returns-in-Table-clause-kept
returns-in-Table-clause-kept g c =
    let mid = c.begin_block.new.self in
    walk_kept_then c.push_table.result c.args.self.now mid (record mid { walk = c.push_table.new.walk; buffers = c.push_table.new.buffers })
    c.in_ok-begin_block.ensures.kept refl c.push_table.ensures.open

pub returns-in_default-clause-kept : goal.returns-in_default-clause-kept
returns-in_default-clause-kept g c =
    let mid = c.begin_block.new.self in
    walk_kept_then c.push_leaf.result c.args.self.now mid (record mid { walk = c.push_leaf.new.walk; buffers = c.push_leaf.new.buffers })
    c.in_ok-begin_block.ensures.kept refl c.push_leaf.ensures.open
