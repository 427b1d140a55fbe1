-- Destinations and titles, of definitions and of resources (CommonMark 4.7 and 6.3).
use Rattle.std.specs.Prelude.{ℕ, ◌+◌, ◌-◌, if◌then◌else◌, ◌==◌, List, Option, None, Some, length, slice_index}
use Rattle.markdown_options.specs.declared.configuration.Constructs.{Constructs}
use Rattle.definition_text.specs.Ascii.{less_than}
use Rattle.definition_text.specs.Columns.{Code}
use Rattle.definition_text.specs.Content.{Part, text_before}
use Rattle.definition_inline.specs.CharacterReference.{Names}
use Rattle.definition_inline.specs.Destination.{destination_at}
use Rattle.definition_inline.specs.Space.{after_white}
use Rattle.definition_inline.specs.Title.{title_at}
use Rattle.engine_events.specs.declared.event.Name.{Name}
use Rattle.event_definition.specs.Pieces.{Pieces, around, join}
use Rattle.event_definition.specs.Sized.{Sized, no_pieces, sized}
use Rattle.event_definition.specs.LineEnding.{white_pieces}
use Rattle.event_definition.specs.Strings.{string_pieces}
use Rattle.event_definition.specs.Quoted.{Quoted, quoted_pieces}

-- the names of a destination, in brackets and without, and of a title
pub record TargetNames : Type 0 where
  pub destination : Name
  pub literal : Quoted
  pub raw : Name
  pub title : Quoted

-- a destination, which these codes are
abbrev pub destination_pieces : Constructs → Names → TargetNames → List Code → Pieces
destination_pieces on names it text =
    around it.destination (
    if slice_index text 0 == less_than then quoted_pieces on names it.literal text
    else around it.raw (around it.literal.string (string_pieces on names text))
    )

-- white space and the title after it, if there is one
abbrev pub title_pieces : Constructs → Names → TargetNames → List Code → Option Part → Sized
title_pieces on names it content None = no_pieces
title_pieces on names it content (Some title) =
    sized
    (join (white_pieces content) (quoted_pieces on names it.title (text_before (after_white content) title.rest)))
    (length content - length title.rest)

abbrev pub target_with : Constructs → Names → TargetNames → List Code → Option Part → Sized
target_with on names it content None = no_pieces
target_with on names it content (Some found) =
    let title = title_pieces on names it found.rest (title_at (after_white found.rest)) in
    sized (join (destination_pieces on names it (text_before content found.rest)) title.pieces) (length content - length found.rest + title.size)

-- a destination at the front of a content, whose brackets may be this deep, and a title
abbrev pub target_pieces : Constructs → Names → TargetNames → Option ℕ → List Code → Sized
target_pieces on names it depth content = target_with on names it content (destination_at depth content)
