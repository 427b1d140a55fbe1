use Rattle.std.proofs.Common.{◌≡◌, ◌-◌, ◌∷◌, [], sym, ap, refl, subst, length, arith}
use Rattle.block_leaves.proofs.Prelude.{AreRead, block_and_ending, Blocks, definition_cut, Heading, join, join-assoc, Leaf, length-map, on_ok_weaker}
use Rattle.block_leaves.proofs.Prelude.{own_lines, piece_line, piece_lines, Single, spine, take_all, Text}
use Rattle.block_leaves.proofs.Changes as changes
use Rattle.block_leaves.proofs.leaves.Leaves.setext_heading.Goals as goal

pub returns : goal.returns
returns g c =
    on_ok_weaker c.end_leaf.result (λ reads. λ ls clean containers around kids h.
    let p = c.cut_definitions.new.self in
    let parts = definition_cut c.args.on.now ls in
    let kids2 = join kids parts.definitions in
    let left_lines = parts.left in
    let k = c.in_ok-cut_definitions.ensures ls clean containers around kids h in
    let pool = piece_lines p.pieces.items in
    let left = changes.all_left p.rows.rows.items p.rows.waiting.items p.rows.bare pool around kids2 left_lines k.written (changes.enough_lines p) in
    let long = length-map p.pieces.items piece_line in
    let count = c.len.result - p.lines_in_rows in
    let all : count ≡ length left_lines = omega (arith, left, long, p.counted, p.pieces.ok.0, c.len.ensures) in
    let heading = Leaf (Heading c.args.rank (own_lines left_lines)) in
    subst (λ (bs : Blocks). AreRead c.end_leaf.new.self containers (spine around bs (Text [])))
    (join-assoc kids parts.definitions (block_and_ending heading c.args.ending))
    (reads (Text left_lines) heading (ap (λ x. Single (Leaf (Heading c.args.rank (own_lines x))) ∷ []) (sym (take_all count left_lines (omega (arith, all)))))
    refl containers around kids2 k))
    c.end_leaf.ensures
