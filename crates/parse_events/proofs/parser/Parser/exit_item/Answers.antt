use Rattle.parse_events.proofs.Prelude.{on_ok_weaker}
use Rattle.std.proofs.Common.{refl}
use Rattle.parse_events.proofs.ExitRows.{list_ended, list_goes_on}
use Rattle.parse_events.proofs.parser.Parser.exit_item.Goals as goal

pub returns-then-place-clause-ends : goal.returns-then-place-clause-ends
returns-then-place-clause-ends g c =
    list_goes_on c.args.self.now (record c.args.self.now { items = c.pop.new.self }) c.in-Some.place
    (record { walk = refl; lists = refl; items = c.in-Some.ensures.items; places = refl; first = refl }) c.if-place.true

pub returns-clause-ends : goal.returns-clause-ends
returns-clause-ends g c =
    list_ended c.close.result c.args.self.now (record c.args.self.now { items = c.pop.new.self }) c.close.new.self c.in-Some.place
    (record { walk = refl; lists = refl; items = c.in-Some.ensures.items; places = refl; first = refl }) c.if-place.false c.close.ensures.closes

pub returns-in_default-clause-kept : goal.returns-in_default-clause-kept
returns-in_default-clause-kept g c = record { around = refl; held = c.requires.held }

pub returns-then-place-clause-kept : goal.returns-then-place-clause-kept
returns-then-place-clause-kept g c = record { around = refl; held = c.requires.held }

pub returns-clause-kept : goal.returns-clause-kept
returns-clause-kept g c = on_ok_weaker c.close.result (λ k. record { around = k.around; held = k.held }) c.close.ensures.kept
