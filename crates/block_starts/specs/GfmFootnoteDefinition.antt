-- What the marker of a footnote definition stands for.
use Rattle.std.specs.Prelude.{Option, None, Some}
use Rattle.definition_text.specs.Content.{Part, part}
use Rattle.block_starts.specs.declared.gfm_footnote_definition.FootnoteMarker.{FootnoteMarker}
use Rattle.block_starts.specs.View.{rest_of}

abbrev pub footnote_marker_if : Option FootnoteMarker → Option Part
footnote_marker_if None = None
footnote_marker_if (Some marker) = Some (part marker.label.now (rest_of marker.rest))
