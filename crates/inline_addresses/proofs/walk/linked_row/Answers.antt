use Rattle.std.proofs.Common.{Some, None, sym, ap, ◌∙◌, arith}
use Rattle.inline_addresses.proofs.Prelude.{flat_map, row_linked, row_view}
use Rattle.inline_addresses.proofs.Walks.{literal_linked, outside_rows}
use Rattle.inline_addresses.proofs.walk.linked_row.Goals as goal

pub returns-then-depth-eq0 : goal.returns-then-depth-eq0
returns-then-depth-eq0 c at =
    let rows = row_view at c.args.row in
    sym (outside_rows rows) ∙ ap (λ n. flat_map (row_linked n) rows) (sym c.if-depth-eq0.true)

pub returns-in-Some : goal.returns-in-Some
returns-in-Some c at =
    sym (literal_linked at c.args.depth c.args.row (Some c.in-Some.text.now) (omega (arith, c.if-depth-eq0.false))
    (sym c.in-Some.ensures))

pub returns-in-None : goal.returns-in-None
returns-in-None c at =
    sym (literal_linked at c.args.depth c.args.row None (omega (arith, c.if-depth-eq0.false)) (sym c.in-None.ensures))
