-- The pieces of a content, by its inline structure (CommonMark 6).
use Rattle.std.specs.Prelude.{◌+◌, List, drop, length}
use Rattle.markdown_options.specs.declared.configuration.Constructs.{Constructs}
use Rattle.definition_text.specs.Columns.{Code}
use Rattle.definition_inline.specs.CharacterReference.{Names}
use Rattle.definition_inline.specs.Inline as i
use Rattle.engine_events.specs.declared.event.Name.TheVariants as n
use Rattle.event_definition.specs.Pieces.{Pieces, join, token}
use Rattle.event_definition.specs.Sized.{Sized, no_pieces, sized}
use Rattle.event_definition.specs.Attention.{sequence_size, span_pieces}
use Rattle.event_definition.specs.LabelEnd.{label_start_size, linked_pieces}
use Rattle.event_definition.specs.GfmLabelStartFootnote.{call_pieces}
use Rattle.event_definition.specs.InlineLeaves.{leaf_pieces}

abbrev mutual
  -- a part at the front of a content
  pub part_pieces : Constructs → Names → i.Inline → List Code → Sized
  part_pieces on names (i.Leaf leaf) content = leaf_pieces leaf content
  part_pieces on names (i.Span kind kids) content = span_pieces kind content (parts_pieces on names kids (drop (sequence_size kind content) content))
  part_pieces on names (i.Linked kind target kids) content =
      linked_pieces on names kind content (parts_pieces on names kids (drop (label_start_size kind) content))
  part_pieces on names (i.Call label) content = call_pieces on names (length label) content

  -- parts at the front of a content, one after another
  pub parts_pieces : Constructs → Names → i.Inlines → List Code → Sized
  parts_pieces on names i.Nil content = no_pieces
  parts_pieces on names (i.Cons part parts) content =
      let first = part_pieces on names part content in
      let others = parts_pieces on names parts (drop first.size content) in
      sized (join first.pieces others.pieces) (first.size + others.size)

-- a content with this inline structure, and the white space at its end
abbrev pub content_pieces : Constructs → Names → i.Inlines → List Code → Pieces
content_pieces on names parts content =
    let found = parts_pieces on names parts content in join found.pieces (token n.SpaceOrTab (drop found.size content))
