use Rattle.std.proofs.Common.{◌≡◌, ◌++◌, ◌∷◌, [], None, sym, ap, subst}
use Rattle.block_leaves.proofs.Prelude.{Blocks, InTable, join-nil, last_ending, last_ending_or-more, leaf_state, OpenTable, piece_lines, rest_line, rest_of}
use Rattle.block_leaves.proofs.Prelude.{Shows, spine}
use Rattle.block_leaves.proofs.Changes as changes
use Rattle.block_leaves.proofs.leaves.Leaves.table_row.Goals as goal

pub returns : goal.returns
returns g c = λ leaf ls is containers around kids h.
    let p = c.args.self.now in
    let e = c.args.beside in
    let l = rest_line (rest_of c.args.rest.now) e in
    let more = ls ++ l ∷ [] in
    let last : last_ending more ≡ e.ending = last_ending_or-more None ls l in
    let k = changes.shows_line p.rows.rows.items p.rows.waiting.items p.rows.bare containers (piece_lines p.pieces.items)
    (piece_lines c.push.new.self.items) (leaf_state p.leaf) (InTable e.ending) around kids leaf (OpenTable more) l
    (changes.enough_lines p) (changes.piece_pushed p.pieces.items c.piece.result c.push.new.self.items l c.in_ok-push.ensures.items c.piece.ensures)
    (ap (λ x. x ++ l ∷ []) (sym is)) (ap InTable (sym last)) h in
    subst (λ (bs : Blocks). Shows p.rows.rows.items p.rows.waiting.items p.rows.bare containers (piece_lines c.push.new.self.items)
    (InTable e.ending) (spine around bs (OpenTable more))) (sym (join-nil kids)) k
