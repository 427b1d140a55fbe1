use Rattle.std.proofs.Common.{◌<◌, length, get_or, ℕ, sym, ap, ◌∙◌, subst, take, rules, arith}
use Rattle.block_parser.proofs.Prelude.{eqb-false, eqb-true, fence_view, IsUtf8, IsWholeCode, text_line}
use Rattle.block_parser.proofs.FencedLines.{code_boundary, code_ends, code_more, code_none, code_unclosed}
use Rattle.block_parser.proofs.PlainLines.{shorter_after}
use Rattle.block_parser.proofs.code_fenced.whole_code.Goals as goal

pub loop-rest-init : goal.loop-rest-init
loop-rest-init c = (c.utf8.text, omega arith, code_none c.args.on.now (fence_view c.args.fence.now) c.args.text.now)

pub range-requires-clause-end_boundary : goal.range-requires-clause-end_boundary
range-requires-clause-end_boundary c =
    code_boundary c.args.on.now (fence_view c.args.fence.now) c.args.text.now c.loop-rest.rest.now c.loop-rest.invariant.2 c.loop-rest.invariant.0

pub returns-then-closes_fence-clause-closed : goal.returns-then-closes_fence-clause-closed
returns-then-closes_fence-clause-closed c =
    let k = c.loop-rest.invariant.2 in
    let rest = c.loop-rest.rest.now in
    let f = fence_view c.args.fence.now in
    let some : 0 < length rest = omega (arith, eqb-false (length rest) 0 (sym c.is_empty.ensures ∙ c.loop-rest-test.true)) in
    let next = c.next_line-ending.result in
    let line = text_line next.0.now next.1 in
    let bytes : (k : ℕ) → get_or c.args.text.now k 0 < 256 = λ k. omega (arith, c.type_inv.text k) in
    subst (λ xs. IsWholeCode c.args.on.now f c.args.text.now xs line.ending next.2.now)
    (sym (c.range.ensures.value ∙ ap (λ n. take n c.args.text.now) (omega arith)))
    (code_ends c.args.on.now f c.args.text.now rest k next.2.now line (c.next_line-ending.ensures.rest some) bytes
    (sym c.closes_fence.ensures ∙ c.if-closes_fence.true))

pub loop-rest-preserved : goal.loop-rest-preserved
loop-rest-preserved c =
    let k = c.loop-rest.invariant.2 in
    let rest = c.loop-rest.rest.now in
    let f = fence_view c.args.fence.now in
    let some : 0 < length rest = omega (arith, eqb-false (length rest) 0 (sym c.is_empty.ensures ∙ c.loop-rest-test.true)) in
    let next = c.next_line-ending.result in
    let line = text_line next.0.now next.1 in
    let is_after : IsUtf8 next.2.now = search rules in (
      is_after,
      omega (arith, shorter_after next.0.now next.1 rest next.2.now (c.next_line-ending.ensures.rest some), c.loop-rest.invariant.1),
      code_more c.args.on.now f c.args.text.now rest k next.2.now line (c.next_line-ending.ensures.rest some)
          (sym c.closes_fence.ensures ∙ c.if-closes_fence.false),
    )

pub loop-rest-smaller : goal.loop-rest-smaller
loop-rest-smaller c =
    let rest = c.loop-rest.rest.now in
    let some : 0 < length rest = omega (arith, eqb-false (length rest) 0 (sym c.is_empty.ensures ∙ c.loop-rest-test.true)) in
    let next = c.next_line-ending.result in
    shorter_after next.0.now next.1 rest next.2.now (c.next_line-ending.ensures.rest some)

pub returns-clause-unclosed : goal.returns-clause-unclosed
returns-clause-unclosed c =
    let rest = c.loop-rest.rest.now in
    code_unclosed c.args.on.now (fence_view c.args.fence.now) c.args.text.now rest c.loop-rest.invariant.2
    (eqb-true (length rest) 0 (sym c.is_empty.ensures ∙ c.loop-rest-test.false))

pub returns-then-closes_fence-clause-shorter : goal.returns-then-closes_fence-clause-shorter
returns-then-closes_fence-clause-shorter c =
    let rest = c.loop-rest.rest.now in
    let some : 0 < length rest = omega (arith, eqb-false (length rest) 0 (sym c.is_empty.ensures ∙ c.loop-rest-test.true)) in
    let next = c.next_line-ending.result in
    omega (arith, shorter_after next.0.now next.1 rest next.2.now (c.next_line-ending.ensures.rest some), c.loop-rest.invariant.1)
