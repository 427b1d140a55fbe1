use Rattle.std.proofs.Common.{[], ◌∙◌, refl}
use Rattle.block_leaves.proofs.Prelude.{Leaf, on_ok_weaker, piece_lines}
use Rattle.block_rows.specs.declared.row.Row.TheVariants as row
use Rattle.definition_block.specs.Tree.{Break}
use Rattle.block_leaves.proofs.Changes as changes
use Rattle.block_leaves.proofs.leaves.Leaves.thematic_break.Goals as goal

pub returns : goal.returns
returns g c =
    on_ok_weaker c.ending.result (λ waits. λ containers around kids h.
    let p = c.args.self.now in
    let pool = piece_lines p.pieces.items in
    record {
      written = changes.written_ended p.rows.rows.items p.rows.waiting.items p.rows.bare pool around kids [] h.written row.Break (Leaf Break) c.args.ending
          p.rows.none refl refl
          c.ending.new.self.rows.items c.block.new.self.waiting.items c.ending.new.self.waiting.items c.ending.new.self.bare []
          (c.ending.ensures.rows ∙ c.in_ok-block.ensures.rows) c.in_ok-block.ensures.waiting waits (c.ending.ensures.bare ∙ c.in_ok-block.ensures.bare) refl;
      opened = h.opened;
      same_state = h.same_state;
    })
    c.ending.ensures.waiting
