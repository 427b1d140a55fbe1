use Rattle.std.proofs.Common.{◌<◌, ◌∷◌, [], ◌++◌, length, sym, ◌∙◌, subst, rules, arith}
use Rattle.block_parser.proofs.Prelude.{AreFenced, At, BlockLine, code_line, container_views, eqb-false, eqb-true, fence_view, Fenced, HasRead, IsUtf8, map}
use Rattle.block_parser.proofs.Prelude.{spine, text_line, tree}
use Rattle.block_parser.proofs.FencedLines as fenced
use Rattle.block_parser.proofs.PlainLines.{shorter_after}
use Rattle.block_parser.proofs.parser.Parser.each_fenced_line.Goals as goal

pub loop-content-init : goal.loop-content-init
loop-content-init g c =
    (c.utf8.text, omega arith, c.requires.lines, fenced.fenced_none c.args.on.now _ c.args.text.now _ c.args.ending c.requires.leaf)

pub returns-then-closes_fence-clause-shorter : goal.returns-then-closes_fence-clause-shorter
returns-then-closes_fence-clause-shorter g c =
    let rest = c.loop-content.rest.now in
    let some : 0 < length rest = omega (arith, eqb-false (length rest) 0 (sym c.is_empty.ensures ∙ c.loop-content-test.true)) in
    let next = c.next_line-ending.result in
    omega (arith, shorter_after next.0.now next.1 rest next.2.now (c.next_line-ending.ensures.rest some), c.loop-content.invariant.1)

pub returns-then-closes_fence-clause-read : goal.returns-then-closes_fence-clause-read
returns-then-closes_fence-clause-read g c = λ kids opening ls keeps h.
    let k = c.loop-content.invariant.3 in
    let rest = c.loop-content.rest.now in
    let f = fence_view c.args.fence in
    let some : 0 < length rest = omega (arith, eqb-false (length rest) 0 (sym c.is_empty.ensures ∙ c.loop-content-test.true)) in
    let next = c.next_line-ending.result in
    let line = text_line next.0.now next.1 in
    fenced.fenced_after c.args.on.now f c.args.text.now rest next.2.now (HasRead c.args.self.now) c.loop-content.self c.loop-content.last line k
    (c.next_line-ending.ensures.rest some) c.any_line.new.self kids opening ls
    (c.in_ok-any_line.ensures (tree kids (At (Fenced f opening (ls ++ map (code_line f) k.code.read)))) tt (k.reads kids opening ls h))

pub loop-content-smaller : goal.loop-content-smaller
loop-content-smaller g c =
    let rest = c.loop-content.rest.now in
    let some : 0 < length rest = omega (arith, eqb-false (length rest) 0 (sym c.is_empty.ensures ∙ c.loop-content-test.true)) in
    let next = c.next_line-ending.result in
    shorter_after next.0.now next.1 rest next.2.now (c.next_line-ending.ensures.rest some)

pub loop-content-preserved : goal.loop-content-preserved
loop-content-preserved g c =
    let k = c.loop-content.invariant.3 in
    let on = c.args.on.now in
    let p = c.loop-content.self in
    let rest = c.loop-content.rest.now in
    let f = fence_view c.args.fence in
    let some : 0 < length rest = omega (arith, eqb-false (length rest) 0 (sym c.is_empty.ensures ∙ c.loop-content-test.true)) in
    let next = c.next_line-ending.result in
    let line = text_line next.0.now next.1 in
    let is_after : IsUtf8 next.2.now = search rules in
    let other = sym c.closes_fence.ensures ∙ c.if-closes_fence.false in (
      is_after,
      omega (arith, shorter_after next.0.now next.1 rest next.2.now (c.next_line-ending.ensures.rest some), c.loop-content.invariant.1),
      omega arith,
      fenced.fenced_more on f c.args.text.now rest next.2.now (HasRead c.args.self.now) p c.loop-content.last line k
          (c.next_line-ending.ensures.rest some) _ other
          (λ kids opening ls so_far.
          subst (λ (x : BlockLine). AreFenced c.push_code.new.self (container_views p.open.items) f x.ending (spine [] kids (Fenced f opening (ls ++ x ∷ []))))
          c.code_piece.ensures (c.in_ok-push_code.ensures.read f c.loop-content.last (container_views p.open.items) [] kids opening ls so_far)),
    )

pub returns-clause-read : goal.returns-clause-read
returns-clause-read g c = λ kids opening ls keeps h.
    let k = c.loop-content.invariant.3 in
    let rest = c.loop-content.rest.now in
    let f = fence_view c.args.fence in
    fenced.fenced_all c.args.on.now f c.args.text.now rest (HasRead c.args.self.now) c.loop-content.self _ c.loop-content.last k kids opening ls
    c.requires.some (eqb-true (length rest) 0 (sym c.is_empty.ensures ∙ c.loop-content-test.false)) (k.reads kids opening ls h)
