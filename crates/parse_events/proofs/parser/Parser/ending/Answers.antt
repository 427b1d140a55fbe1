use Rattle.parse_events.proofs.Held.{walk_kept}
use Rattle.std.proofs.Common.{refl, sym, ◌∙◌}
use Rattle.parse_events.proofs.EndingRows.{line_ended, no_line_ends}
use Rattle.parse_events.proofs.parser.Parser.ending.Goals as goal

pub returns-then-not-is_in_line-clause-goes_on : goal.returns-then-not-is_in_line-clause-goes_on
returns-then-not-is_in_line-clause-goes_on g c =
    λ r ending. no_line_ends c.args.self.now c.args.self.now r ending (sym c.is_in_line.ensures ∙ c.if-not-is_in_line.true) refl

pub returns-clause-goes_on : goal.returns-clause-goes_on
returns-clause-goes_on g c =
    line_ended c.ending.result c.args.self.now (record c.args.self.now { walk = c.ending.new.self }) (sym c.is_in_line.ensures ∙ c.if-not-is_in_line.false)
    (record { lists = refl; items = refl; places = refl; first = refl }) c.ending.ensures.ends c.ending.ensures.written c.ending.ensures.around
    c.ending.ensures.line

pub returns-then-not-is_in_line-clause-kept : goal.returns-then-not-is_in_line-clause-kept
returns-then-not-is_in_line-clause-kept g c = record { around = refl; held = c.requires.held }

pub returns-clause-kept : goal.returns-clause-kept
returns-clause-kept g c =
    walk_kept c.ending.result c.args.self.now (record c.args.self.now { walk = c.ending.new.self }) refl c.requires.held c.ending.ensures.open
