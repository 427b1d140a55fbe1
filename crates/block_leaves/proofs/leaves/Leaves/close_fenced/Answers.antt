use Rattle.std.proofs.Common.{◌≡◌, ◌-◌, ◌∷◌, [], Option, false, sym, ap, subst, refl, length, arith}
use Rattle.block_leaves.proofs.Prelude.{AreRead, block_and_ending, Fenced, FencedCode, join, Leaf, leaf_lines, length-map, LineEnding, on_ok_weaker}
use Rattle.block_leaves.proofs.Prelude.{piece_line, piece_lines, Single, spine, take_all, Text}
use Rattle.block_leaves.proofs.Changes as changes
use Rattle.block_leaves.proofs.leaves.Leaves.close_fenced.Goals as goal

pub returns : goal.returns
returns g c =
    on_ok_weaker c.end_leaf.result (λ reads. λ switches fence opening ls last containers around kids h.
    let p = c.args.self.now in
    let pool = piece_lines p.pieces.items in
    let left = changes.all_left p.rows.rows.items p.rows.waiting.items p.rows.bare pool around kids (leaf_lines (Fenced fence opening ls)) h.written
    (changes.enough_lines p) in
    let long = length-map p.pieces.items piece_line in
    let count = c.len.result - p.lines_in_rows - 1 in
    let all : count ≡ length ls = omega (arith, left, long, p.counted, p.pieces.ok.0, c.len.ensures) in
    let code = Leaf (FencedCode fence.info false ls) in
    subst (λ (e : Option LineEnding). AreRead c.end_leaf.new.self containers (spine around (join kids (block_and_ending code e)) (Text []))) last
    (reads (Fenced fence opening ls) code (ap (λ x. Single (Leaf (FencedCode fence.info false x)) ∷ [])
    (sym (take_all count ls (omega (arith, all))))) refl containers around kids h))
    c.end_leaf.ensures
