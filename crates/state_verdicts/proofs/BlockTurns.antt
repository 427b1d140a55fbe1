-- Reading by the states of flow, turn by turn.
pub use Rattle.state_verdicts.proofs.MachineTurns.{byte_at, end_at, fed, fed_again, still_at}
use Rattle.std.proofs.Common.{◌≡◌, true, false}
use Rattle.state_verdicts.proofs.BlockPrelude.{Config, Context, feed, Flows, GoesOn, Name, plain, run, State, Text, tries}
use Rattle.engine_states.specs.declared.state.State.TheVariants as states
use Rattle.state_flow.specs.Flows.{flows_bodies}
use Rattle.state_verdicts.specs.BlockVerdicts.{Reads}
use Rattle.state_verdicts.proofs.MachineTurns as turns

module _ {T : Type 0} (x : Context T) (text : Text) where
  pub feeds : (n : Name) (c : Config Flows) → GoesOn x text c (states.Next n) (feed text c) (states.Retry n)
  feeds = turns.feeds (flows_bodies x) text

  pub stays : (c : Config Flows) (s : State) → GoesOn x text c s c s
  stays = turns.stays (flows_bodies x) text

  pub and_on : {c d e : Config Flows} {s t u : State} → GoesOn x text c s d t → GoesOn x text d t e u → GoesOn x text c s e u
  and_on g h = turns.and_on (flows_bodies x) text g h

  pub does : (n : Name) (c e : Config Flows) (s : State) → run (flows_bodies x n) c ≡ plain e s → GoesOn x text c (states.Retry n) e s
  does = turns.does (flows_bodies x) text

  pub does_next : (m n : Name) (c e : Config Flows) → run (flows_bodies x m) c ≡ plain e (states.Next n)
      → GoesOn x text c (states.Retry m) (feed text e) (states.Retry n)
  does_next = turns.does_next (flows_bodies x) text

  pub tried : (n : Name) (c at e : Config Flows) (ok nok start : State) → run (flows_bodies x n) c ≡ tries ok nok at start → Reads x text at start e true
      → GoesOn x text c (states.Retry n) e ok
  tried = turns.tried (flows_bodies x) text

  pub ends_well : (c d : Config Flows) (s : State) → GoesOn x text c s d states.Ok → Reads x text c s d true
  ends_well = turns.ends_well (flows_bodies x) text

  pub fails : (c d : Config Flows) (s : State) → GoesOn x text c s d states.Nok → Reads x text c s d false
  fails = turns.fails (flows_bodies x) text
