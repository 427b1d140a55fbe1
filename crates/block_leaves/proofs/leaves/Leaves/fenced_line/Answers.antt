use Rattle.std.proofs.Common.{◌≡◌, ◌-◌, ◌++◌, ◌∷◌, [], true, sym, ap, ◌∙◌, subst, refl, length, arith}
use Rattle.block_leaves.proofs.Prelude.{AreRead, Blocks, fence_line, fence_view, Fenced, FencedCode, InFenced, join-nil, last_ending_or-more, Leaf, leaf_lines}
use Rattle.block_leaves.proofs.Prelude.{leaf_state, length-map, on_ok_weaker, piece_line, piece_lines, Rest, rest_line, rest_of, Shows, Single, spine}
use Rattle.block_leaves.proofs.Prelude.{spine_after, take_all, Tree}
use Rattle.block_leaves.proofs.Changes as changes
use Rattle.block_leaves.proofs.Going as going
use Rattle.block_leaves.proofs.leaves.Leaves.fenced_line.Goals as goal

pub returns-then-not-is_fence_end : goal.returns-then-not-is_fence_end
returns-then-not-is_fence_end g c = λ opening ls containers around kids h.
    let p = c.args.self.now in
    let pool = piece_lines p.pieces.items in
    let on = c.args.on.now in
    let f = fence_view c.args.fence in
    let r = rest_of c.args.rest.now in
    let e = c.args.beside in
    let l = rest_line (fence_line f r) e in
    let leaf = Fenced f opening (ls ++ l ∷ []) in
    let piece_is = c.piece.ensures ∙ ap (λ (x : Rest). rest_line x e) c.fence_line.ensures in
    subst (λ (t : Tree). Shows p.rows.rows.items p.rows.waiting.items p.rows.bare containers (piece_lines c.push.new.self.items)
    (InFenced f e.ending) (spine_after around kids t))
    (sym (going.fenced_goes_on on e r f opening ls (sym c.is_fence_end.ensures ∙ c.if-not-is_fence_end.true)))
    (subst (λ (bs : Blocks). Shows p.rows.rows.items p.rows.waiting.items p.rows.bare containers (piece_lines c.push.new.self.items)
    (InFenced f e.ending) (spine around bs leaf)) (sym (join-nil kids))
    (changes.shows_line p.rows.rows.items p.rows.waiting.items p.rows.bare containers pool (piece_lines c.push.new.self.items)
    (leaf_state p.leaf) (InFenced f e.ending) around kids (Fenced f opening ls) leaf l
    (changes.enough_lines p) (changes.piece_pushed p.pieces.items c.piece.result c.push.new.self.items l c.in_ok-push.ensures.items piece_is) refl
    (ap (InFenced f) (sym (last_ending_or-more opening ls l))) h))

pub returns : goal.returns
returns g c =
    on_ok_weaker c.end_leaf.result (λ reads. λ opening ls containers around kids h.
    let p = c.args.self.now in
    let pool = piece_lines p.pieces.items in
    let on = c.args.on.now in
    let f = fence_view c.args.fence in
    let r = rest_of c.args.rest.now in
    let e = c.args.beside in
    let left = changes.all_left p.rows.rows.items p.rows.waiting.items p.rows.bare pool around kids (leaf_lines (Fenced f opening ls)) h.written
    (changes.enough_lines p) in
    let long = length-map p.pieces.items piece_line in
    let count = c.len.result - p.lines_in_rows - 1 in
    let all : count ≡ length ls = omega (arith, left, long, p.counted, p.pieces.ok.0, c.len.ensures) in
    subst (λ (t : Tree). AreRead c.end_leaf.new.self containers (spine_after around kids t))
    (sym (going.fenced_end on e r f opening ls (sym c.is_fence_end.ensures ∙ c.if-not-is_fence_end.false)))
    (reads (Fenced f opening ls) (Leaf (FencedCode f.info true ls))
    (ap (λ x. Single (Leaf (FencedCode f.info true x)) ∷ []) (sym (take_all count ls (omega (arith, all))))) refl containers around kids h))
    c.end_leaf.ensures
