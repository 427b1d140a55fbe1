use Rattle.parse_events.proofs.Held.{walk_kept}
use Rattle.std.proofs.Common.{refl}
use Rattle.parse_events.proofs.BegunRows.{line_begun}
use Rattle.parse_events.proofs.parser.Parser.in_line.Goals as goal

pub returns-clause-begins : goal.returns-clause-begins
returns-clause-begins g c =
    line_begun c.in_line.result c.args.self.now (record c.args.self.now { walk = c.in_line.new.self })
    (record { lists = refl; items = refl; places = refl; first = refl })
    c.in_line.ensures.begun c.in_line.ensures.written c.in_line.ensures.around c.in_line.ensures.stays c.in_line.ensures.line

pub returns-clause-kept : goal.returns-clause-kept
returns-clause-kept g c =
    walk_kept c.in_line.result c.args.self.now (record c.args.self.now { walk = c.in_line.new.self }) refl c.requires.held c.in_line.ensures.open
