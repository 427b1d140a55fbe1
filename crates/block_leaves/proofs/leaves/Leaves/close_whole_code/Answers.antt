use Rattle.std.proofs.Common.{◌++◌, ◌∷◌, [], None, true, sym, ap, refl}
use Rattle.block_leaves.proofs.Prelude.{Fenced, FencedCode, InText, Leaf, leaf_lines, leaf_state, on_ok_weaker, piece_lines, Single, spaced_line, Text}
use Rattle.block_leaves.proofs.Prelude.{whole_lines}
use Rattle.block_leaves.proofs.Changes as changes
use Rattle.block_leaves.proofs.leaves.Leaves.close_whole_code.Goals as goal

pub returns : goal.returns
returns g c =
    on_ok_weaker c.end_leaf.result (λ reads. λ fence opening containers around kids h.
    let p = c.args.self.now in
    let pool = piece_lines p.pieces.items in
    let l = spaced_line c.args.lines.now None in
    let leaf = Fenced fence opening [] in
    let both = Text (leaf_lines leaf ++ l ∷ []) in
    let pushed = changes.piece_pushed p.pieces.items c.whole_piece.result c.push.new.self.items l c.in_ok-push.ensures.items c.whole_piece.ensures.line in
    reads both (Leaf (FencedCode fence.info true (whole_lines c.args.lines.now)))
    (ap (λ x. Single (Leaf (FencedCode fence.info true (whole_lines x))) ∷ []) (sym c.whole_piece.ensures.bytes)) refl containers around kids
    (changes.shows_line p.rows.rows.items p.rows.waiting.items p.rows.bare containers pool (piece_lines c.push.new.self.items)
    (leaf_state p.leaf) InText around kids leaf both l (changes.enough_lines p) pushed refl refl h))
    c.end_leaf.ensures
