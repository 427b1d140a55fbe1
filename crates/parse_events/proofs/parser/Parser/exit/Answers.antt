use Rattle.parse_events.proofs.Held.{kept_both, kept_open, kept_then}
use Rattle.std.proofs.Common.{false, refl}
use Rattle.parse_events.proofs.Prelude.{container_view}
use Rattle.parse_events.proofs.ExitRows.{item_exited, item_kind, none_exits, other_exits, other_kind}
use Rattle.parse_events.proofs.parser.Parser.exit.Goals as goal

pub returns-in_default-clause-goes_on : goal.returns-in_default-clause-goes_on
returns-in_default-clause-goes_on g c =
    λ r. none_exits c.args.self.now (record c.args.self.now { walk = c.leave.new.self; first = false }) r c.in_default.ensures.leaves.0

pub returns-in-Item-clause-goes_on : goal.returns-in-Item-clause-goes_on
returns-in-Item-clause-goes_on g c =
    item_exited c.exit_item.result c.args.self.now (record c.args.self.now { walk = c.leave.new.self; first = false }) c.close.new.self c.exit_item.new.self
    (container_view c.in-Some.container) (item_kind c.in-Some.container c.in-Item.field-0 c.in-Item.is)
    (record {
      leaves = c.in-Some.ensures.leaves;
      line = c.in-Some.ensures.line;
      out = c.in-Some.ensures.written;
      lists = refl;
      items = refl;
      places = refl;
      first = refl;
    }) c.in_ok-close.ensures.closes c.exit_item.ensures.ends

pub returns-in_default-container-clause-goes_on : goal.returns-in_default-container-clause-goes_on
returns-in_default-container-clause-goes_on g c =
    λ r. other_exits c.args.self.now (record c.args.self.now { walk = c.leave.new.self; first = false }) c.close.new.self (container_view c.in-Some.container) r
    (other_kind c.in-Some.container c.in_default-container.not-Item)
    (record {
      leaves = c.in-Some.ensures.leaves;
      line = c.in-Some.ensures.line;
      out = c.in-Some.ensures.written;
      lists = refl;
      items = refl;
      places = refl;
      first = refl;
    }) c.in_ok-close.ensures.closes

pub returns-in_default-clause-kept : goal.returns-in_default-clause-kept
returns-in_default-clause-kept g c =
    kept_open c.args.self.now (record c.args.self.now { walk = c.leave.new.self; first = false }) refl c.requires.held c.leave.ensures.open

pub returns-in-Item-clause-kept : goal.returns-in-Item-clause-kept
returns-in-Item-clause-kept g c =
    let left = record c.args.self.now { walk = c.leave.new.self; first = false } in
    kept_then c.exit_item.result c.args.self.now c.close.new.self c.exit_item.new.self
    (kept_both c.args.self.now left c.close.new.self (kept_open c.args.self.now left refl c.requires.held c.leave.ensures.open) c.in_ok-close.ensures.kept)
    c.exit_item.ensures.kept

pub returns-in_default-container-clause-kept : goal.returns-in_default-container-clause-kept
returns-in_default-container-clause-kept g c =
    let left = record c.args.self.now { walk = c.leave.new.self; first = false } in
    kept_both c.args.self.now left c.close.new.self (kept_open c.args.self.now left refl c.requires.held c.leave.ensures.open) c.in_ok-close.ensures.kept

pub exit_item-requires : goal.exit_item-requires
exit_item-requires g c = record { held = c.in_ok-close.ensures.kept.held }
