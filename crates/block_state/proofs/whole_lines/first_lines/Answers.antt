use Rattle.std.proofs.Common.{ℕ, List, Option, Bor, IfNone, rules, arith, ap, sym, ◌∙◌, subst, take}
use Rattle.std.specs.Str.{IsUtf8}
use Rattle.text_pieces.specs.Pieces.{piece_lines}
use Rattle.block_state.specs.WholeLines.{BeginsNot}
use Rattle.block_state.proofs.WholeLines.{begins_none, begins_more, begins_not, begun, begun_before, begun_first, cut_boundary}
use Rattle.block_state.proofs.whole_lines.first_lines.Goals as goal

pub loop-piece-init : goal.loop-piece-init
loop-piece-init c = (c.utf8.text, begins_none c.args.text.now)

pub loop-piece-preserved : goal.loop-piece-preserved
loop-piece-preserved c =
    let is_after : IsUtf8 c.in_ok-rest.rest.now = search rules in (
      is_after,
      begins_more c.args.pieces.now c.loop-piece.piece-index _ c.args.text.now c.loop-piece.rest.now c.in_ok-rest.rest.now c.loop-piece-test.true
          c.loop-piece.invariant.1 c.in_ok-rest.ensures.rest.split c.in_ok-rest.ensures.rest.whole,
    )

pub range-requires-clause-end_boundary : goal.range-requires-clause-end_boundary
range-requires-clause-end_boundary c =
    cut_boundary (piece_lines (take c.loop-piece.piece-index c.args.pieces.now)) c.args.text.now c.loop-piece.rest.now c.loop-piece.invariant.1
    c.loop-piece.invariant.0

pub returns-clause-front : goal.returns-clause-front
returns-clause-front c =
    begun_first c.args.pieces.now c.loop-piece.piece-index c.args.text.now c.loop-piece.rest.now c.range.result.now c.loop-piece-test.false
    c.loop-piece.invariant.1 (c.range.ensures.value ∙ ap (λ n. take n c.args.text.now) (omega arith))

pub returns-clause-begins : goal.returns-clause-begins
returns-clause-begins c =
    begun_before c.args.pieces.now c.loop-piece.piece-index c.args.text.now c.loop-piece.rest.now c.range.result.now c.loop-piece-test.false
    c.loop-piece.invariant.1 (c.range.ensures.value ∙ ap (λ n. take n c.args.text.now) (omega arith))

pub returns-clause-whole : goal.returns-clause-whole
returns-clause-whole c =
    begun c.args.pieces.now c.loop-piece.piece-index c.args.text.now c.loop-piece.rest.now c.range.result.now c.loop-piece-test.false
    c.loop-piece.invariant.1 (c.range.ensures.value ∙ ap (λ n. take n c.args.text.now) (omega arith))

pub returns-in_err-rest-clause-none : goal.returns-in_err-rest-clause-none
returns-in_err-rest-clause-none c =
    subst (λ (o : Option (Bor (List ℕ))). IfNone o (BeginsNot (piece_lines c.args.pieces.now) c.args.text.now)) (sym c.from_residual.ensures)
    (begins_not c.args.pieces.now c.loop-piece.piece-index _ c.args.text.now c.loop-piece.rest.now c.loop-piece-test.true c.loop-piece.invariant.1
    (λ after h. c.in_err-rest.ensures.none after h))
