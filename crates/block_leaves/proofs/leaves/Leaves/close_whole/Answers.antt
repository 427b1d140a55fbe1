use Rattle.std.proofs.Common.{◌≡◌, ◌++◌, ◌∷◌, [], None, sym, ap, ◌∙◌, refl, take}
use Rattle.block_leaves.proofs.Prelude.{Leaf, on_ok_weaker, own_lines, Paragraph, piece_line, piece_lines, rows_size, Single, spaced_line, take-map, Text}
use Rattle.block_leaves.proofs.Prelude.{whole_lines}
use Rattle.block_leaves.proofs.Changes as changes
use Rattle.block_leaves.proofs.leaves.Leaves.close_whole.Goals as goal

pub returns : goal.returns
returns g c =
    on_ok_weaker c.end_leaf.result (λ reads. λ ls is containers around kids h.
    let p = c.args.self.now in
    let pool = piece_lines p.pieces.items in
    let text = c.args.text.now in
    let l = spaced_line text None in
    let front = take p.lines_in_rows p.pieces.items in
    let cut : piece_lines c.truncate.new.self.items ≡ take (rows_size p.rows.rows.items) pool =
    ap piece_lines c.truncate.ensures.items ∙ sym (take-map piece_line p.lines_in_rows p.pieces.items) ∙ ap (λ n. take n pool) p.counted in
    let pushed =
    changes.piece_pushed c.truncate.new.self.items c.whole_piece.result c.push.new.self.items l c.in_ok-push.ensures.items c.whole_piece.ensures.line in
    let w = changes.whole_written p.rows.rows.items p.rows.waiting.items p.rows.bare pool around kids ls h.written l (changes.enough_lines p) in
    let mid = changes.written_as p.rows.rows.items p.rows.rows.items p.rows.waiting.items p.rows.waiting.items p.rows.bare p.rows.bare
    (take (rows_size p.rows.rows.items) pool ++ l ∷ []) (piece_lines c.push.new.self.items) around kids (l ∷ []) (l ∷ [])
    refl refl refl (pushed ∙ ap (λ x. x ++ l ∷ []) cut) refl w in
    reads (Text (l ∷ [])) (Leaf (Paragraph (own_lines ls)))
    (ap (λ x. Single (Leaf (Paragraph (own_lines x))) ∷ []) (is ∙ ap whole_lines (sym c.whole_piece.ensures.bytes))) refl
    containers around kids record { written = mid; opened = h.opened; same_state = refl })
    c.end_leaf.ensures
