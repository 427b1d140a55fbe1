-- Link reference definitions (CommonMark 4.7).
use Rattle.std.specs.Prelude.{◌+◌, ◌-◌, List, [], ◌∷◌, Option, None, Some, drop, length, take}
use Rattle.markdown_options.specs.declared.configuration.Constructs.{Constructs}
use Rattle.definition_text.specs.Columns.{Code}
use Rattle.definition_text.specs.Content.{Part, text_before}
use Rattle.definition_inline.specs.CharacterReference.{Names}
use Rattle.definition_inline.specs.Label.{label_at}
use Rattle.definition_inline.specs.Space.{after_spaces, after_white}
use Rattle.engine_events.specs.declared.event.Name.TheVariants as n
use Rattle.event_definition.specs.Pieces.{Pieces, around, join_all, token}
use Rattle.event_definition.specs.Written.{white_ahead}
use Rattle.event_definition.specs.Sized.{Sized, no_pieces, sized}
use Rattle.event_definition.specs.LineEnding.{white_pieces}
use Rattle.event_definition.specs.Quoted.{Quoted, quoted, quoted_pieces}
use Rattle.event_definition.specs.Destination.{TargetNames, target_pieces}

abbrev pub of_label : Quoted
of_label = quoted n.DefinitionLabel n.DefinitionLabelMarker n.DefinitionLabelString

abbrev pub of_definition : TargetNames
of_definition =
    record {
      destination = n.DefinitionDestination;
      literal = quoted n.DefinitionDestinationLiteral n.DefinitionDestinationLiteralMarker n.DefinitionDestinationString;
      raw = n.DefinitionDestinationRaw;
      title = quoted n.DefinitionTitle n.DefinitionTitleMarker n.DefinitionTitleString;
    }

-- a label, `:`, a destination and a title
abbrev pub definition_parts : Constructs → Names → List Code → Option Part → Sized
definition_parts on names content None = no_pieces
definition_parts on names content (Some label) =
    let rest = drop 1 label.rest in
    let start = after_white rest in
    let target = target_pieces on names of_definition None start in
    sized
    (join_all (
    quoted_pieces on names of_label (text_before content label.rest) ∷ token n.DefinitionMarker (take 1 label.rest) ∷ white_pieces rest ∷ target.pieces ∷ []
    ))
    (length content - length start + target.size)

-- the content of a definition, with the white space around it
abbrev pub definition_pieces : Constructs → Names → List Code → Pieces
definition_pieces on names content =
    let start = after_spaces content in
    let parts = definition_parts on names start (label_at start) in
    join_all (white_ahead content ∷ around n.Definition parts.pieces ∷ token n.SpaceOrTab (drop parts.size start) ∷ [])
