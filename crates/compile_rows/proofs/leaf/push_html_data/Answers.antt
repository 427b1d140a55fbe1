use Rattle.std.proofs.Common.{◌<◌, length, sym, ◌∙◌, rules, arith}
use Rattle.compile_rows.proofs.Prelude.{rows_view}
use Rattle.compile_rows.proofs.Pushed.{all_pushed, line_pushed}
use Rattle.std.proofs.lemmas.Bool.{eqb-false, eqb-true}
use Rattle.std.specs.Str.{IsUtf8}
use Rattle.compile_rows.proofs.leaf.push_html_data.Goals as goal

pub loop-rest-preserved : goal.loop-rest-preserved
loop-rest-preserved g c =
    let rest = c.loop-rest.rest.now in
    let some : 0 < length rest = omega (arith, eqb-false (length rest) 0 (sym c.is_empty.ensures ∙ c.loop-rest-test.true)) in
    let next = c.next_line-ending.result in
    let whole : IsUtf8 next.2.now = search rules in
    record {
      rows =
          λ at.
          line_pushed (rows_view at c.loop-rest.rows.items) (rows_view at c.push_html_piece.new.rows.items) _ next.0.now next.2.now rest next.1
          (c.next_line-ending.ensures.rest some) (c.in_ok-push_html_piece.ensures at) (c.in_ok-push_if_ending.ensures at)
          ∙ c.loop-rest.invariant.rows at;
      text = whole;
    }

pub returns : goal.returns
returns g c at =
    let rest = c.loop-rest.rest.now in
    all_pushed (rows_view at c.loop-rest.rows.items) _ rest (eqb-true (length rest) 0 (sym c.is_empty.ensures ∙ c.loop-rest-test.false))
    (c.loop-rest.invariant.rows at)
