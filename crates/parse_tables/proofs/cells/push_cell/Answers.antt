use Rattle.std.proofs.Common.{◌++◌}
use Rattle.parse_tables.proofs.Prelude.{bytes_of, cell_view, reading_by}
use Rattle.engine_events.specs.declared.event.Name.TheVariants.{GfmTableCell}
use Rattle.parse_tables.proofs.RowWritten.{row_ended}
use Rattle.parse_tables.proofs.Steps.{IsEntered, entered_before}
use Rattle.parse_tables.proofs.CellsWritten.{cell_written}
use Rattle.parse_tables.proofs.cells.push_cell.Goals as goal

pub returns-clause-written : goal.returns-clause-written
returns-clause-written g c =
    row_ended c.exit.result c.exit.ensures.stays c.exit.ensures.end c.exit.ensures.exits
    (λ exits ds knows text behind ending left before.
    let r = reading_by g.T.Tables c.args.texts.now ds in
    let cell = cell_view c.args.cell.now in
    let bytes = bytes_of cell.codes ++ behind in
    let old = c.args.walk.now in
    let entered = c.enter.new.self in
    let enters : IsEntered GfmTableCell old entered = (let e = c.in_ok-enter.ensures in record { stays = e.stays; end = e.end; enters = e.enters }) in
    cell_written r text ending left old entered c.push_in_cell.new.walk c.exit.new.self cell bytes behind before enters
    (c.in_ok-push_in_cell.ensures.written ds knows text behind ending left
    (entered_before text ending left old entered GfmTableCell bytes enters before)) exits)
