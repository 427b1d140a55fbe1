use Rattle.std.proofs.Common.{◌∷◌, [], sym, ap, ◌∙◌, subst, refl}
use Rattle.block_leaves.proofs.Prelude.{Blocks, Indented, InIndented, join-nil, leaf_state, outdent, piece_lines, Rest, rest_line, rest_of, Shows, spine, Text}
use Rattle.block_leaves.proofs.Changes as changes
use Rattle.block_leaves.proofs.leaves.Leaves.start_indented.Goals as goal

pub returns : goal.returns
returns g c = λ containers around kids h.
    let p = c.args.self.now in
    let pool = piece_lines p.pieces.items in
    let r = outdent 4 (rest_of c.args.rest.now) in
    let l = rest_line r c.args.beside in
    let leaf = Indented (l ∷ []) [] in
    let piece_is = c.piece.ensures ∙ ap (λ (x : Rest). rest_line x c.args.beside) c.outdent.ensures in
    subst (λ (bs : Blocks). Shows p.rows.rows.items p.rows.waiting.items p.rows.bare containers (piece_lines c.push.new.self.items)
    (InIndented 1 c.args.beside.ending) (spine around bs leaf)) (sym (join-nil kids))
    (changes.shows_line p.rows.rows.items p.rows.waiting.items p.rows.bare containers pool (piece_lines c.push.new.self.items)
    (leaf_state p.leaf) (InIndented 1 c.args.beside.ending) around kids (Text []) leaf l
    (changes.enough_lines p) (changes.piece_pushed p.pieces.items c.piece.result c.push.new.self.items l c.in_ok-push.ensures.items piece_is) refl refl h)
