use Rattle.std.proofs.Common.{◌++◌, ◌∷◌, [], None, ◌∙◌, refl}
use Rattle.block_leaves.proofs.Prelude.{Heading, Leaf, on_ok_weaker, piece_lines, spaced_line}
use Rattle.block_rows.specs.declared.row.Row.TheVariants as row
use Rattle.block_leaves.proofs.Changes as changes
use Rattle.block_leaves.proofs.leaves.Leaves.heading.Goals as goal

pub returns : goal.returns
returns g c =
    on_ok_weaker c.ending.result (λ waits. λ containers around kids h.
    let p = c.args.self.now in
    let pool = piece_lines p.pieces.items in
    let l = spaced_line c.args.atx.content.now None in
    let block = Leaf (Heading c.args.atx.rank (l ∷ [])) in
    let more = changes.piece_pushed p.pieces.items _ c.push.new.self.items l c.in_ok-push.ensures.items c.whole_piece.ensures.line in
    let k = changes.written_as p.rows.rows.items p.rows.rows.items p.rows.waiting.items p.rows.waiting.items p.rows.bare p.rows.bare (pool ++ l ∷ [])
    (piece_lines c.push.new.self.items) around kids (l ∷ []) (l ∷ [])
    refl refl refl more refl (changes.longer p.rows.rows.items p.rows.waiting.items p.rows.bare pool around kids [] h.written l (changes.enough_lines p)) in
    record {
      written = changes.written_ended p.rows.rows.items p.rows.waiting.items p.rows.bare (piece_lines c.push.new.self.items) around kids (l ∷ []) k
          (row.Heading c.args.atx.rank) block c.args.ending p.rows.none refl refl
          c.ending.new.self.rows.items c.block.new.self.waiting.items c.ending.new.self.waiting.items c.ending.new.self.bare []
          (c.ending.ensures.rows ∙ c.in_ok-block.ensures.rows) c.in_ok-block.ensures.waiting waits (c.ending.ensures.bare ∙ c.in_ok-block.ensures.bare) refl;
      opened = h.opened;
      same_state = h.same_state;
    })
    c.ending.ensures.waiting
