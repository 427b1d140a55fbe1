-- The first fault of a list of events.
use Rattle.std.specs.Prelude.{ℕ, ◌+◌, List, [], ◌∷◌, Option, None, Some, Result, Ok, Err}
use Rattle.engine_events.specs.declared.event.Event.{Event}
use Rattle.event_faults.specs.declared.fault.FaultKind.{FaultKind}
use Rattle.event_faults.specs.declared.fault.FaultKind.TheVariants as kinds
use Rattle.event_faults.specs.declared.fault.EventFault.{EventFault}
use Rattle.event_faults.specs.Checks.{Check, Open, at_start, step}
use Rattle.event_grammar.specs.Trees.{tree}
use Rattle.event_grammar.specs.References.{first_lost}

abbrev pub event_fault : FaultKind → ℕ → EventFault
event_fault kind index = record { kind = kind; index = index }

-- nothing is open at the end
abbrev pub fault_at_end : List Open → ℕ → Option EventFault
fault_at_end [] size = None
fault_at_end (o ∷ outer) size = Some (event_fault kinds.Open size)

-- after one more event, given what the others come to
abbrev pub fault_after : Result Check FaultKind → ℕ → (Check → Option EventFault) → Option EventFault
fault_after (Err kind) index others = Some (event_fault kind index)
fault_after (Ok c) index others = others c

module _ (names : List ℕ → Option (List ℕ)) (bytes : List ℕ) where
  -- the first fault of one event after another; so many are before
  abbrev pub fault_from : Check → ℕ → List Event → Option EventFault
  fault_from c index [] = fault_at_end c.outer index
  fault_from c index (e ∷ es) = fault_after (step names bytes c e) index (λ next. fault_from next (index + 1) es)

  -- then the first link, image or call that leads nowhere
  abbrev pub lost_fault : Option ℕ → Option EventFault
  lost_fault None = None
  lost_fault (Some index) = Some (event_fault kinds.Reference index)

  abbrev pub or_lost : List Event → Option EventFault → Option EventFault
  or_lost events (Some found) = Some found
  or_lost events None = lost_fault (first_lost bytes (tree events))

  -- the first fault of a list of events of a text, if it has one
  abbrev pub fault : List Event → Option EventFault
  fault events = or_lost events (fault_from at_start 0 events)
