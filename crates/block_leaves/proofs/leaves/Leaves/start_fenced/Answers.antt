use Rattle.std.proofs.Common.{[], None, sym, subst, refl}
use Rattle.block_leaves.proofs.Prelude.{Blocks, fence_view, Fenced, InFenced, join-nil, leaf_state, piece_lines, Shows, spaced_line, spine, Text}
use Rattle.block_leaves.proofs.Changes as changes
use Rattle.block_leaves.proofs.leaves.Leaves.start_fenced.Goals as goal

pub returns : goal.returns
returns g c = λ containers around kids h.
    let p = c.args.self.now in
    let pool = piece_lines p.pieces.items in
    let f = fence_view c.args.fence in
    let l = spaced_line f.info None in
    let leaf = Fenced f c.args.ending [] in
    subst (λ (bs : Blocks). Shows p.rows.rows.items p.rows.waiting.items p.rows.bare containers (piece_lines c.push.new.self.items)
    (InFenced f c.args.ending) (spine around bs leaf)) (sym (join-nil kids))
    (changes.shows_line p.rows.rows.items p.rows.waiting.items p.rows.bare containers pool (piece_lines c.push.new.self.items)
    (leaf_state p.leaf) (InFenced f c.args.ending) around kids (Text []) leaf l
    (changes.enough_lines p) (changes.piece_pushed p.pieces.items _ c.push.new.self.items l c.in_ok-push.ensures.items c.whole_piece.ensures.line) refl refl h)
