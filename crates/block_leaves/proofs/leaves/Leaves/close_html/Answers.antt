use Rattle.std.proofs.Common.{◌≡◌, ◌-◌, ◌∷◌, [], Option, sym, ap, subst, refl, length, arith}
use Rattle.block_leaves.proofs.Prelude.{AreRead, block_and_ending, Html, join, Leaf, length-map, LineEnding, on_ok_weaker, OpenHtml, own_lines, piece_line}
use Rattle.block_leaves.proofs.Prelude.{piece_lines, Single, spine, take_all, Text}
use Rattle.block_leaves.proofs.Changes as changes
use Rattle.block_leaves.proofs.leaves.Leaves.close_html.Goals as goal

pub returns : goal.returns
returns g c =
    on_ok_weaker c.end_leaf.result (λ reads. λ switches kind ls last containers around kids h.
    let p = c.args.self.now in
    let pool = piece_lines p.pieces.items in
    let left = changes.all_left p.rows.rows.items p.rows.waiting.items p.rows.bare pool around kids ls h.written (changes.enough_lines p) in
    let long = length-map p.pieces.items piece_line in
    let count = c.len.result - p.lines_in_rows in
    let all : count ≡ length ls = omega (arith, left, long, p.counted, p.pieces.ok.0, c.len.ensures) in
    subst (λ (e : Option LineEnding). AreRead c.end_leaf.new.self containers (spine around (join kids (block_and_ending (Leaf (Html (own_lines ls))) e)) (Text []))) last
    (reads (OpenHtml kind ls) (Leaf (Html (own_lines ls))) (ap (λ x. Single (Leaf (Html (own_lines x))) ∷ []) (sym (take_all count ls (omega (arith, all)))))
    refl containers around kids h))
    c.end_leaf.ensures
