use Rattle.std.proofs.Common.{◌++◌, ◌∷◌, [], sym, ap, ◌∙◌, subst, append_assoc}
use Rattle.block_leaves.proofs.Prelude.{Blocks, Indented, join-nil, leaf_state, outdent, piece_lines, Rest, rest_line, rest_of, Shows, spine}
use Rattle.block_leaves.proofs.Changes as changes
use Rattle.block_leaves.proofs.leaves.Leaves.indented_blank.Goals as goal

pub returns : goal.returns
returns g c = λ ls pending containers around kids h.
    let p = c.args.self.now in
    let pool = piece_lines p.pieces.items in
    let r = rest_of c.args.rest.now in
    let e = c.args.beside in
    let l = rest_line (outdent 4 r) e in
    let leaf = Indented ls (pending ++ l ∷ []) in
    let piece_is = c.piece.ensures ∙ ap (λ (x : Rest). rest_line x e) c.outdent.ensures in
    subst (λ (bs : Blocks). Shows p.rows.rows.items p.rows.waiting.items p.rows.bare containers (piece_lines c.push.new.self.items)
    (leaf_state p.leaf) (spine around bs leaf)) (sym (join-nil kids))
    (changes.shows_line p.rows.rows.items p.rows.waiting.items p.rows.bare containers pool (piece_lines c.push.new.self.items)
    (leaf_state p.leaf) (leaf_state p.leaf) around kids (Indented ls pending) leaf l
    (changes.enough_lines p) (changes.piece_pushed p.pieces.items c.piece.result c.push.new.self.items l c.in_ok-push.ensures.items piece_is)
    (sym (append_assoc ls pending (l ∷ []))) h.same_state h)
