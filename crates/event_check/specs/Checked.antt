-- What a check of a list of events answers.
use Rattle.std.specs.Prelude.{◌≡◌, Option, Some}
use Rattle.event_faults.specs.declared.fault.EventFault.{EventFault}
use Rattle.event_check.specs.declared.error.CompileError.{CompileError}
use Rattle.event_check.specs.declared.error.CompileError.TheVariants.{Memory, Events}

-- an error is the fault of the list, or memory was refused
abbrev pub Refuses : CompileError → Option EventFault → Type 0
Refuses Memory fault = Unit {0}
Refuses (Events found) fault = fault ≡ Some found
