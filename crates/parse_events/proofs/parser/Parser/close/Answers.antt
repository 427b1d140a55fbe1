use Rattle.std.proofs.Common.{refl, sym, ◌∙◌}
use Rattle.parse_events.proofs.Prelude.{append-nil}
use Rattle.parse_events.proofs.Held.{exit_kept, kept_open}
use Rattle.parse_events.proofs.parser.Parser.close.Goals as goal

pub returns-in_default-clause-kept : goal.returns-in_default-clause-kept
returns-in_default-clause-kept g c =
    kept_open c.args.self.now (record c.args.self.now { «open» = c.pop.new.self })
    (sym (c.in_default.ensures.items ∙ append-nil c.pop.new.self.items)) c.requires.held refl

pub returns-clause-kept : goal.returns-clause-kept
returns-clause-kept g c =
    exit_kept c.exit.result c.in-Some.opened c.name.result c.args.self.now (record c.args.self.now { walk = c.exit.new.self; «open» = c.pop.new.self })
    c.name.ensures c.requires.held c.in-Some.ensures.items c.exit.ensures.open
