use Rattle.std.proofs.Common.{◌∙◌}
use Rattle.parse_events.proofs.Prelude.{IfOk-weaker, piece_lines, reading_by}
use Rattle.parse_events.proofs.Blocks.{rows_written}
use Rattle.parse_events.proofs.Held.{new_around, new_holds}
use Rattle.parse_events.proofs.document.push_rows.Goals as goal

pub rows-requires-clause-held : goal.rows-requires-clause-held
rows-requires-clause-held g c = new_holds c.args.rows.now c.args.walk c.in_ok-parser.parser c.in_ok-parser.ensures c.requires.blocks

pub returns-clause-open : goal.returns-clause-open
returns-clause-open g c =
    IfOk-weaker c.into_walk.result _ _
    (λ after ends. ends ∙ c.in_ok-rows.ensures.kept.around ∙ new_around c.args.rows.now c.args.walk c.in_ok-parser.parser c.in_ok-parser.ensures)
    c.into_walk.ensures.open

pub returns-clause-written : goal.returns-clause-written
returns-clause-written g c =
    IfOk-weaker c.into_walk.result _ _
    (λ after ends. λ ds knows.
    rows_written (reading_by g.T.Tables c.args.texts.now ds) c.args.rows.now (piece_lines c.args.pieces.now) c.args.walk after c.in_ok-parser.parser
    c.rows.new.self
    c.in_ok-parser.ensures (c.in_ok-rows.ensures.written ds knows) ends)
    c.into_walk.ensures.stands
