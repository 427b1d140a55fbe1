-- Events as C reads them.
use Rattle.engine_events.specs.declared.event.Event.{Event}
use Rattle.markdown_buffers.specs.declared.flat_event.FlatEvent.{FlatEvent}
use Rattle.markdown_buffers.specs.EventNumbers.{kind_number, name_number}

abbrev pub flat_event : Event → FlatEvent
flat_event e = record {
  offset = e.index;
  line = e.line;
  column = e.column;
  name = name_number e.name;
  kind = kind_number e.kind;
  columns = e.virtual_space;
}
