use Rattle.std.proofs.Common.{◌≡◌, suc, take, ap, arith, inl, inr}
use Rattle.std.proofs.lemmas.Bool.{cases_lt}
use Rattle.block_definitions.proofs.Prelude.{piece_lines, total}
use Rattle.text_pieces.proofs.Pieces.{no_piece}
use Rattle.block_definitions.proofs.Splits.{total_more, total_grows}
use Rattle.block_definitions.proofs.front.lines_within.Goals as goal

pub returns-then-left-eq0-clause-count : goal.returns-then-left-eq0-clause-count
returns-then-left-eq0-clause-count c = λ n within more most.
    let k = c.loop-i.invariant in
    let ls = piece_lines c.args.lines.now in
    let fewer = k.fewer n within more most in
    elim (cases_lt n c.loop-i.i) [
      | inl past ↦ omega (arith, past, fewer)
      | inr early ↦ absurd (omega (arith, k.left_is, c.if-left-eq0.true, more, total_grows c.loop-i.i n ls early))
    ]

pub loop-i-preserved : goal.loop-i-preserved
loop-i-preserved c =
    let k = c.loop-i.invariant in
    let ls = piece_lines c.args.lines.now in
    let longer = total_more c.loop-i.i c.args.lines.now no_piece c.loop-i-test.true in
    record {
      left_is = omega (arith, longer, k.left_is, c.saturating_sub-left.ensures, c.room.ensures);
      fewer = λ n within more most.
          let fewer = k.fewer n within more most in
          elim (cases_lt n c.loop-i.i) [
            | inl past ↦
                let same : c.loop-i.i ≡ suc n = omega (arith, past, fewer) in
                let all = ap (λ x. total (take x ls)) same in
                absurd (omega (arith, all, most, k.left_is, c.if-left-eq0.false))
            | inr early ↦ omega (arith, early)
          ];
    }
