use Rattle.block_leaves.proofs.Prelude.{container_view, leaf_lines, piece_lines}
use Rattle.std.proofs.Common.{refl}
use Rattle.block_leaves.proofs.Changes as changes
use Rattle.block_leaves.proofs.leaves.Leaves.exit.Goals as goal

pub returns : goal.returns
returns g c = λ containers l around kids leaf is h.
    let p = c.args.self.now in
    record {
      written = changes.exited_as p.rows.rows.items p.rows.waiting.items p.rows.bare (piece_lines p.pieces.items) around l kids
          (leaf_lines leaf) h.written p.rows.none
          c.exit.new.self.rows.items c.exit.new.self.waiting.items c.exit.new.self.bare
          (container_view c.args.container) is c.in_ok-exit.ensures.rows c.in_ok-exit.ensures.waiting
          c.in_ok-exit.ensures.bare;
      opened = refl;
      same_state = h.same_state;
    }
