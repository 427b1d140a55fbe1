use Rattle.parse_events.proofs.ExitRows.{all_exited}
use Rattle.parse_events.proofs.parser.Parser.into_walk.Goals as goal

pub returns-clause-stands : goal.returns-clause-stands
returns-clause-stands g c = all_exited c.exit_all.result c.args.self c.exit_all.ensures.stays
