-- What a marker stands for.
use Rattle.std.specs.Prelude.{Option, None, Some}
use Rattle.definition_block.specs.ListItem.{Marker, marker_of}
use Rattle.block_starts.specs.declared.list_item.Marker.{Marker as CodeMarker}
use Rattle.block_starts.specs.View.{rest_of}

abbrev pub marker_view : CodeMarker → Marker
marker_view m = marker_of m.byte m.number m.size (rest_of m.rest)

abbrev pub marker_if : Option CodeMarker → Option Marker
marker_if None = None
marker_if (Some m) = Some (marker_view m)
