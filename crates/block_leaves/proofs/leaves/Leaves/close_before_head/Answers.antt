use Rattle.std.proofs.Common.{◌≡◌, ℕ, ◌≤◌, ◌<◌, ◌-◌, List, [], ◌∷◌, sym, refl, subst, take, drop, length, arith}
use Rattle.block_leaves.proofs.Prelude.{AreRead, BlockLine, Blocks, Container, join, join-nil, Leaf, length-map, length-take, Level, on_ok_weaker, own_lines}
use Rattle.block_leaves.proofs.Prelude.{Paragraph, paragraph_of, piece_line, piece_lines, spine, Text}
use Rattle.block_leaves.proofs.GfmTableLemmas.{paragraph_some}
use Rattle.block_leaves.proofs.Changes as changes
use Rattle.block_leaves.proofs.leaves.Leaves.close_before_head.Goals as goal

pub returns-then-count-le1 : goal.returns-then-count-le1
returns-then-count-le1 g c = λ ls containers around kids h.
    let p = c.args.self.now in
    let left = changes.all_left p.rows.rows.items p.rows.waiting.items p.rows.bare (piece_lines p.pieces.items) around kids ls h.written
    (changes.enough_lines p) in
    few ls containers around kids (omega (arith, left, length-map p.pieces.items piece_line, p.counted, p.pieces.ok.0, c.len.ensures, c.if-count-le1.true)) h
  where
    few : (ls : List BlockLine) (containers : List Container) (around : List Level) (kids : Blocks) → length ls ≤ 1 → AreRead c.args.self.now containers (spine around kids (Text ls))
        → AreRead c.args.self.now containers (spine around (join kids (paragraph_of (take (length ls - 1) ls))) (Text (drop (length ls - 1) ls)))
    few [] containers around kids le h = subst (λ (bs : Blocks). AreRead c.args.self.now containers (spine around bs (Text []))) (sym (join-nil kids)) h
    few (l ∷ []) containers around kids le h = subst (λ (bs : Blocks). AreRead c.args.self.now containers (spine around bs (Text (l ∷ [])))) (sym (join-nil kids)) h
    few (l ∷ m ∷ ls) containers around kids le h = absurd (omega (arith, le))

pub returns : goal.returns
returns g c =
    on_ok_weaker c.take_lines.result (λ reads. λ ls containers around kids h.
    let p = c.args.self.now in
    let left = changes.all_left p.rows.rows.items p.rows.waiting.items p.rows.bare (piece_lines p.pieces.items) around kids ls h.written
    (changes.enough_lines p) in
    let long = length-map p.pieces.items piece_line in
    let n = c.len.result - p.lines_in_rows - 1 in
    let head : n ≡ length ls - 1 = omega (arith, left, long, p.counted, p.pieces.ok.0, c.len.ensures) in
    let some : 0 < length (take n ls) = omega (arith, left, long, p.counted, p.pieces.ok.0, c.len.ensures, c.if-count-le1.false, length-take n ls) in
    subst (λ (k : ℕ). AreRead c.take_lines.new.self containers (spine around (join kids (paragraph_of (take k ls))) (Text (drop k ls)))) head
    (subst (λ (bs : Blocks). AreRead c.take_lines.new.self containers (spine around (join kids bs) (Text (drop n ls)))) (sym (paragraph_some (take n ls) some))
    (reads ls (Leaf (Paragraph (own_lines (take n ls)))) refl refl containers around kids h)))
    c.take_lines.ensures.read
