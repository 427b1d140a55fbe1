use Rattle.std.proofs.Common.{◌≡◌, [], ◌<◌, List, length, get_or, ℕ, subst, arith}
use Rattle.block_parser.proofs.Prelude.{BlockLine, container_views, fence_view, Fenced, HasRead, leaf_lines, length-map, nil_from_length, piece_lines, spine}
use Rattle.text_pieces.specs.Pieces.{piece_line}
use Rattle.block_parser.proofs.FencedLines.{whole_read}
use Rattle.block_leaves.proofs.Changes as changes
use Rattle.block_parser.proofs.parser.Parser.fenced_lines.Goals as goal

pub close_whole_code-requires : goal.close_whole_code-requires
close_whole_code-requires g c = omega (arith, c.requires.lines)

pub returns-in-Some-clause-read : goal.returns-in-Some-clause-read
returns-in-Some-clause-read g c = λ kids opening ls keeps h.
    let p = c.args.self.now in
    let f = fence_view c.args.fence in
    let code = c.in-Some.code in
    let bytes : (k : ℕ) → get_or c.args.text.now k 0 < 256 = λ k. omega (arith, c.type_inv.text k) in
    let left = changes.all_left p.leaves.rows.rows.items p.leaves.rows.waiting.items p.leaves.rows.bare (piece_lines p.leaves.pieces.items) [] kids (leaf_lines (Fenced f opening ls))
    h.written (changes.enough_lines p.leaves) in
    let none : length ls ≡ 0 = omega (arith, left, length-map p.leaves.pieces.items piece_line, p.leaves.counted, p.leaves.pieces.ok.0, c.len.ensures, c.if-len-self-eq1.true) in
    let empty : ls ≡ [] = nil_from_length ls none in
    whole_read c.args.on.now f c.args.text.now code.lines.now code.ending code.rest.now _ c.in-Some.ensures.closed
    c.if-fence-eq0.true bytes kids opening ls empty
    (c.in_ok-close_whole_code.ensures f opening (container_views p.open.items) [] kids (subst (λ (xs : List BlockLine). HasRead p (spine [] kids (Fenced f opening xs))) empty h))
