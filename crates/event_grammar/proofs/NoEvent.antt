-- The event that slices read past the end of a list of events.
use Rattle.std.proofs.Common.{None}
use Rattle.engine_events.specs.Events.{event}
use Rattle.engine_events.specs.declared.event.Event.{Event}
use Rattle.engine_events.specs.declared.event.Kind.TheVariants.{Enter}
use Rattle.engine_events.specs.declared.event.Name.TheVariants.{AttentionSequence}

abbrev pub no_event : Event
no_event = event Enter AttentionSequence (record { line = 0; column = 0; index = 0; vs = 0 }) None
