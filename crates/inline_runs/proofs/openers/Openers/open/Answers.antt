use Rattle.std.proofs.Common.{refl}
use Rattle.inline_runs.proofs.Floors.{known_pushed}
use Rattle.inline_runs.proofs.openers.Openers.open.Goals as goal

pub returns-in_ok-push-clause-known : goal.returns-in_ok-push-clause-known
returns-in_ok-push-clause-known g c =
    λ n le early. known_pushed c.args.self.now _ (record {
      placed = c.args.placed;
      since = c.args.now;
    }) c.args.now n c.in_ok-push.ensures.items refl refl le early c.requires
