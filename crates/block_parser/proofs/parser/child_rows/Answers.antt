use Rattle.std.proofs.Common.{◌≡◌, ◌++◌, [], List, ℕ, ◌<◌, ◌∙◌, ap, sym, refl, get_or, length, rules, arith}
use Rattle.block_parser.proofs.Prelude.{append-nil, close, empty_tree, eqb-true, IsUtf8, join, lines, nil_from_length, open_lines, piece_lines, Row, rows_of}
use Rattle.block_parser.proofs.Prelude.{steps, TextLine}
use Rattle.definition_block.specs.Tree.{blocks_at_end}
use Rattle.block_rows.specs.Rows.{rows_value, value_with}
use Rattle.block_parser.proofs.Read.{keeps_lines, read_more}
use Rattle.block_state.proofs.Written.{settled}
use Rattle.block_parser.proofs.parser.child_rows.Goals as goal

pub loop-left-preserved : goal.loop-left-preserved
loop-left-preserved g c =
    let on = c.args.on.now in
    let k = c.loop-left.invariant.1 in
    let left = c.loop-left.left.now in
    let bytes : (k : ℕ) → get_or c.args.text.now k 0 < 256 = λ k. omega (arith, c.type_inv.text k) in
    let is_left : IsUtf8 c.in_ok-left.left.now = search rules in (
      is_left,
      read_more on c.args.before c.args.text.now left c.in_ok-left.left.now c.loop-left.here c.loop-left.parser c.lines.new.self k
          c.in_ok-left.ensures.shorter
          (c.in_ok-left.ensures.read (steps on c.args.before empty_tree k.read)
          (keeps_lines on c.args.before c.args.text.now left c.loop-left.here c.loop-left.parser bytes k) k.reads),
    )

pub returns-clause-rows : goal.returns-clause-rows
returns-clause-rows g c =
    let on = c.args.on.now in
    let text = c.args.text.now in
    let before = c.args.before in
    let k = c.loop-left.invariant.1 in
    let left = c.loop-left.left.now in
    let t = steps on before empty_tree k.read in
    let q = c.close_to.new.self in
    let pool = piece_lines q.leaves.pieces.items in
    let bytes : (k : ℕ) → get_or text k 0 < 256 = λ k. omega (arith, c.type_inv.text k) in
    let none : left ≡ [] = nil_from_length left (eqb-true (length left) 0 (sym c.is_empty.ensures ∙ c.loop-left-test.false)) in
    let all_lines : k.read ≡ lines text = sym (k.split ∙ ap (λ (xs : List ℕ). k.read ++ lines xs) none ∙ append-nil k.read) in
    let clean = open_lines on before text bytes k.read [] (append-nil k.read ∙ all_lines) in
    let h = c.in_ok-close_to.ensures.read [] t.done t.now refl clean k.reads in
    ap (λ (rs : List Row). rows_value rs pool) (c.in_ok-finish.ensures.rows)
    ∙ settled q.leaves.rows.rows.items q.leaves.rows.waiting.items q.leaves.rows.bare pool [] (join t.done (close on t.now)) [] h.written q.leaves.rows.none
    ∙ ap (λ (ls : List TextLine). value_with (rows_of (blocks_at_end on (steps on before empty_tree ls))) []) all_lines
