use Rattle.std.proofs.Common.{[], sym, ◌∙◌, refl, arith}
use Rattle.block_leaves.proofs.Prelude.{drop_all, leaf_lines, length-map, on_ok_weaker, piece_line, piece_lines, row_size}
use Rattle.block_leaves.proofs.Changes as changes
use Rattle.block_leaves.proofs.leaves.Leaves.end_leaf.Goals as goal

pub returns : goal.returns
returns g c =
    on_ok_weaker c.ending.result (λ waits. λ leaf b is other containers around kids h.
    let p = c.args.self.now in
    let pool = piece_lines p.pieces.items in
    let left = changes.all_left p.rows.rows.items p.rows.waiting.items p.rows.bare pool around kids (leaf_lines leaf) h.written (changes.enough_lines p) in
    let long = length-map p.pieces.items piece_line in
    record {
      written = changes.written_ended p.rows.rows.items p.rows.waiting.items p.rows.bare pool around kids
          (leaf_lines leaf) h.written c.args.row b c.args.ending p.rows.none is other
          c.ending.new.self.rows.items c.block.new.self.waiting.items c.ending.new.self.waiting.items c.ending.new.self.bare []
          (c.ending.ensures.rows ∙ c.in_ok-block.ensures.rows) c.in_ok-block.ensures.waiting waits (c.ending.ensures.bare ∙ c.in_ok-block.ensures.bare)
          (sym (drop_all (row_size c.args.row) (leaf_lines leaf) (omega (arith, left, long, p.counted, p.pieces.ok.0, c.requires))));
      opened = h.opened;
      same_state = refl;
    })
    c.ending.ensures.waiting
