use Rattle.std.proofs.Common.{◌≡◌, ◌-◌, ◌++◌, ◌∷◌, [], None, sym, ap, ◌∙◌, subst, length, arith}
use Rattle.block_leaves.proofs.Prelude.{append-nil, Blocks, Indented, InIndented, join-nil, last_ending_or-more, leaf_state, length-append, length-map}
use Rattle.block_leaves.proofs.Prelude.{outdent, piece_line, piece_lines, Rest, rest_line, rest_of, Shows, spine}
use Rattle.block_leaves.proofs.Changes as changes
use Rattle.block_leaves.proofs.leaves.Leaves.indented_code.Goals as goal

pub returns : goal.returns
returns g c = λ ls pending containers around kids h.
    let p = c.args.self.now in
    let pool = piece_lines p.pieces.items in
    let r = rest_of c.args.rest.now in
    let e = c.args.beside in
    let l = rest_line (outdent 4 r) e in
    let all = ls ++ pending ++ l ∷ [] in
    let leaf = Indented all [] in
    let new_pool = piece_lines c.push.new.self.items in
    let count = c.len.result - p.lines_in_rows in
    let piece_is = c.piece.ensures ∙ ap (λ (x : Rest). rest_line x e) c.outdent.ensures in
    let left = changes.all_left p.rows.rows.items p.rows.waiting.items p.rows.bare pool around kids (ls ++ pending) h.written (changes.enough_lines p) in
    let many : count ≡ length all =
    omega (
      arith,
      left,
      length-append (ls ++ pending) (l ∷ []),
      length-map p.pieces.items piece_line,
      p.counted,
      p.pieces.ok.0,
      c.len.ensures,
      c.in_ok-push.ensures.len,
    ) in
    subst (λ (bs : Blocks). Shows p.rows.rows.items p.rows.waiting.items p.rows.bare containers new_pool (InIndented count e.ending)
    (spine around bs leaf)) (sym (join-nil kids))
    (changes.shows_line p.rows.rows.items p.rows.waiting.items p.rows.bare containers pool new_pool (leaf_state p.leaf)
    (InIndented count e.ending) around kids (Indented ls pending) leaf l
    (changes.enough_lines p) (changes.piece_pushed p.pieces.items c.piece.result c.push.new.self.items l
    c.in_ok-push.ensures.items piece_is) (append-nil all)
    (ap (λ n. InIndented n e.ending) many ∙ ap (InIndented (length all)) (sym (last_ending_or-more None (ls ++ pending) l))) h)
