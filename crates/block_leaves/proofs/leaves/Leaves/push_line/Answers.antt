use Rattle.std.proofs.Common.{◌++◌, ◌∷◌, [], refl}
use Rattle.block_leaves.proofs.Prelude.{leaf_state, piece_line, piece_lines, Text}
use Rattle.block_leaves.proofs.Changes as changes
use Rattle.block_leaves.proofs.leaves.Leaves.push_line.Goals as goal

pub returns : goal.returns
returns g c = λ containers around kids ls h.
    let p = c.args.self.now in
    let pool = piece_lines p.pieces.items in
    let l = piece_line c.args.line in
    changes.shows_line p.rows.rows.items p.rows.waiting.items p.rows.bare containers pool (piece_lines c.push.new.self.items)
    (leaf_state p.leaf) (leaf_state p.leaf) around kids (Text ls) (Text (ls ++ l ∷ [])) l
    (changes.enough_lines p) (changes.piece_pushed p.pieces.items c.args.line c.push.new.self.items l c.in_ok-push.ensures.items refl) refl h.same_state h
