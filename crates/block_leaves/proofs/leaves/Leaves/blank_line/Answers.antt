use Rattle.block_leaves.proofs.Prelude.{on_ok_weaker, piece_lines}
use Rattle.block_leaves.proofs.Changes as changes
use Rattle.block_leaves.proofs.leaves.Leaves.blank_line.Goals as goal

pub returns : goal.returns
returns g c =
    on_ok_weaker c.blank.result (λ waits. λ containers around kids h.
    let p = c.args.self.now in
    let pool = piece_lines p.pieces.items in
    record {
      written = changes.blank_as p.rows.rows.items p.rows.waiting.items p.rows.bare pool around kids h.written c.args.ending
          c.blank.new.self.rows.items c.blank.new.self.waiting.items c.blank.new.self.bare c.blank.ensures.rows waits c.blank.ensures.bare;
      opened = h.opened;
      same_state = h.same_state;
    })
    c.blank.ensures.waiting
