use Rattle.std.proofs.Common.{sym, subst}
use Rattle.event_faults.proofs.Prelude.{IsValidUpTo}
use Rattle.event_faults.proofs.PlaceLaws.{front_whole, front_part}
use Rattle.event_faults.proofs.place.front_of.Goals as goal

pub returns-in-Ok : goal.returns-in-Ok
returns-in-Ok c = front_whole c.args.bytes.now _ c.in-Ok.ensures.cases.0 c.in-Ok.ensures.cases.1

pub returns-in-Err : goal.returns-in-Err
returns-in-Err c =
    front_part c.args.bytes.now c.whole.result.now c.valid_up_to.result
    c.whole.ensures (subst (IsValidUpTo c.args.bytes.now) (sym c.valid_up_to.ensures) c.in-Err.ensures.cases.1)
