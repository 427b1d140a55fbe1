use Rattle.std.proofs.Common.{List, [], ◌++◌, ℕ, replicate, sym, ap, subst, ◌∙◌}
use Rattle.parse_tables.proofs.Prelude.{Cell, end_at, Piece, piece_line, reading_by, tab_column, WritesFirstBar, WritesFirstCellsHere, WritesUpTo}
use Rattle.engine_events.specs.declared.event.Name.TheVariants.{SpaceOrTab}
use Rattle.parse_tables.proofs.RowWritten.{row_ended}
use Rattle.parse_tables.proofs.RowsWritten.{row_written}
use Rattle.parse_tables.proofs.cells.push_row.Goals as goal

pub returns-clause-written : goal.returns-clause-written
returns-clause-written g c =
    row_ended c.exit.result c.exit.ensures.stays c.exit.ensures.end c.exit.ensures.exits
    (λ exits ds knows.
    let r = reading_by g.T.Tables c.args.texts.now ds in
    let line : Piece = c.args.line in
    let text = c.bytes_only-text in
    let entered = c.enter.new.self in
    let spaced = c.to.new.self in
    let barred = c.push_first_divider.new.walk in
    let celled = c.push_cells.new.walk in
    let start = c.index_of-start.ensures in
    let codes = ap (λ (xs : List ℕ). replicate line.owed tab_column ++ xs) (sym text.ensures.same) in
    row_written r (piece_line line) line.owed text.result.now text.ensures.bytes codes c.args.walk.now entered spaced barred celled c.all.new.self
    c.exit.new.self
    (let e = c.in_ok-enter.ensures in record { stays = e.stays; end = e.end; enters = e.enters })
    c.in_ok-to.ensures.stays (c.in_ok-to.ensures.end ∙ ap (λ (k : ℕ). end_at k 0) start)
    (subst (λ (k : ℕ). WritesUpTo SpaceOrTab (end_at k 0) entered spaced) start c.in_ok-to.ensures.written)
    (subst (λ (xs : List ℕ). WritesFirstBar xs spaced barred) c.as_bytes.ensures.value c.in_ok-push_first_divider.ensures.written)
    (subst (λ (cs : List Cell). WritesFirstCellsHere r cs [] barred celled) c.new.ensures (c.in_ok-push_cells.ensures.written ds knows))
    c.in_ok-all.ensures.stays c.in_ok-all.ensures.end c.in_ok-all.ensures.written exits)
