use Rattle.std.proofs.Common.{◌++◌, ◌∷◌, [], List, drop, sym, ap}
use Rattle.block_leaves.proofs.Prelude.{BlockLine, Container, container_view, piece_lines}
use Rattle.block_leaves.proofs.Changes as changes
use Rattle.block_leaves.proofs.leaves.Leaves.enter_alone.Goals as goal

pub returns : goal.returns
returns g c = λ containers around kids h.
    let p = c.args.self.now in
    let pool = piece_lines p.pieces.items in
    let holder = container_view c.args.container in
    let none = c.requires in
    let left : List BlockLine = [] in
    record {
      written = changes.entered_as p.rows.rows.items p.rows.waiting.items p.rows.bare pool around kids [] h.written holder p.rows.none
          (changes.enter_shown holder [] none)
          c.enter.new.self.rows.items c.enter.new.self.waiting.items c.enter.new.self.bare [] c.in_ok-enter.ensures.rows c.in_ok-enter.ensures.waiting
          c.in_ok-enter.ensures.bare
          (ap (λ n. drop n left) (sym none));
      opened = ap (λ (cs : List Container). cs ++ holder ∷ []) h.opened;
      same_state = h.same_state;
    }
