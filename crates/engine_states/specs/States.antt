-- What a state comes to.
use Rattle.std.specs.Prelude.{◌≡◌, Result, Ok, Err}
use Rattle.engine_states.specs.declared.state.State.{State}
use Rattle.engine_states.specs.declared.state.State.TheVariants as states
use Rattle.markdown_options.specs.Messages.{IsOutOfMemory}
use Rattle.markdown_options.specs.declared.message.Message.{Message}

-- reading ended well or failed
abbrev pub IsOver : State → Type 0
IsOver (states.Error m) = Unit {0}
IsOver (states.Next n) = ⊥
IsOver (states.Retry n) = ⊥
IsOver states.Ok = Unit {0}
IsOver states.Nok = ⊥

-- memory was refused
abbrev pub IsRefused : State → Type 0
IsRefused (states.Error m) = IsOutOfMemory m.now
IsRefused (states.Next n) = ⊥
IsRefused (states.Retry n) = ⊥
IsRefused states.Ok = ⊥
IsRefused states.Nok = ⊥

-- an error is answered as it is
abbrev pub HasResult : State → Result Unit Message → Type 0
HasResult (states.Error m) result = result ≡ Err m.now
HasResult (states.Next n) result = ⊥
HasResult (states.Retry n) result = ⊥
HasResult states.Ok result = result ≡ Ok tt
HasResult states.Nok result = ⊥
