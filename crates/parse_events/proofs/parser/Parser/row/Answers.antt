use Rattle.std.proofs.Common.{sym, ap, subst}
use Rattle.parse_events.proofs.Prelude.{BlockRow, GoesOn, on_ok_weaker, piece_lines, reading_by, Row, row_value}
use Rattle.parse_events.proofs.BegunRows.{begun_goes_on}
use Rattle.parse_events.proofs.Held.{kept_then}
use Rattle.parse_events.proofs.LeafRows.{other_row}
use Rattle.parse_events.proofs.parser.Parser.row.Goals as goal

pub returns-in-Ending-clause-kept : goal.returns-in-Ending-clause-kept
returns-in-Ending-clause-kept g c = c.ending.ensures.kept

pub returns-in-Ending-clause-goes_on : goal.returns-in-Ending-clause-goes_on
returns-in-Ending-clause-goes_on g c =
    let ls = piece_lines c.args.lines.now in
    on_ok_weaker c.ending.result
    (λ goes ds knows of.
    subst (λ (b : BlockRow). GoesOn (reading_by g.T.Tables c.args.texts.now ds) b c.args.self.now c.ending.new.self)
    (sym (ap (λ (x : Row). row_value x ls) c.in-Ending.is)) (goes (reading_by g.T.Tables c.args.texts.now ds) c.in-Ending.field-0))
    c.ending.ensures.goes_on

pub returns-clause-kept : goal.returns-clause-kept
returns-clause-kept g c =
    kept_then c.row_in_line.result c.args.self.now c.in_line.new.self c.row_in_line.new.self c.in_ok-in_line.ensures.kept c.row_in_line.ensures.kept

pub returns-clause-goes_on : goal.returns-clause-goes_on
returns-clause-goes_on g c =
    let ls = piece_lines c.args.lines.now in
    let other = other_row c.args.row ls c.in_default.not-Ending in
    on_ok_weaker c.row_in_line.result
    (λ goes ds knows of.
    begun_goes_on c.args.self.now c.in_line.new.self c.row_in_line.new.self (reading_by g.T.Tables c.args.texts.now ds) (row_value c.args.row ls) other
    c.in_ok-in_line.ensures.begins (goes ds knows of other))
    c.row_in_line.ensures.goes_on

pub row_in_line-requires : goal.row_in_line-requires
row_in_line-requires g c = record { held = c.in_ok-in_line.ensures.kept.held }
