-- That reading comes to an outcome.
use Rattle.std.specs.Prelude.{Bool, List, []}
use Rattle.engine_states.specs.declared.state.State.{State}
use Rattle.markdown_engine.specs.declared.attempt.Attempt.{Attempt}
use Rattle.markdown_engine.specs.Reading.{Config, Steps, Runs, Outcome}
use Rattle.markdown_engine.specs.VirtualText.{Text}

-- reading comes to an outcome, with a stack of attempts
abbrev pub HasOutcome : {M : Type 0} → Text → Steps M → Config M → List Attempt → State → Type 0
HasOutcome {M} text step c stack s = (d : Config M) × (w : Bool) × Outcome text step stack c [] s d w

-- reading comes to an outcome
abbrev pub HasRun : {M : Type 0} → Text → Steps M → Config M → State → Type 0
HasRun {M} text step c s = (d : Config M) × (w : Bool) × Runs text step c [] s d w
