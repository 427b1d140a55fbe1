use Rattle.parse_events.proofs.Held.{walk_kept}
use Rattle.std.proofs.Common.{refl}
use Rattle.parse_events.proofs.EndingRows.{blank_ended}
use Rattle.parse_events.proofs.parser.Parser.blank.Goals as goal

pub returns-clause-goes_on : goal.returns-clause-goes_on
returns-clause-goes_on g c =
    blank_ended c.push_blank_line.result c.args.self.now (record c.args.self.now { walk = c.push_blank_line.new.walk })
    (record { lists = refl; items = refl; places = refl; first = refl }) c.push_blank_line.ensures.written c.push_blank_line.ensures.after

pub returns-clause-kept : goal.returns-clause-kept
returns-clause-kept g c =
    walk_kept c.push_blank_line.result c.args.self.now (record c.args.self.now { walk = c.push_blank_line.new.walk }) refl c.requires.held
    c.push_blank_line.ensures.open
