-- Resources of links and images (CommonMark 6.3).
use Rattle.std.specs.Prelude.{◌+◌, ◌-◌, if◌then◌else◌, ◌==◌, List, [], ◌∷◌, Some, drop, length, slice_index, take}
use Rattle.markdown_options.specs.declared.configuration.Constructs.{Constructs}
use Rattle.definition_text.specs.Ascii.{right_parenthesis}
use Rattle.definition_text.specs.Columns.{Code}
use Rattle.definition_inline.specs.CharacterReference.{Names}
use Rattle.definition_inline.specs.Resource.{LinkResource}
use Rattle.definition_inline.specs.Space.{after_white}
use Rattle.engine_events.specs.declared.event.Name.TheVariants as n
use Rattle.event_definition.specs.Pieces.{around, join, join_all, token}
use Rattle.event_definition.specs.Sized.{Sized, no_pieces, sized}
use Rattle.event_definition.specs.LineEnding.{white_pieces}
use Rattle.event_definition.specs.Quoted.{quoted}
use Rattle.event_definition.specs.Destination.{TargetNames, target_pieces}

abbrev pub of_resource : TargetNames
of_resource =
    record {
      destination = n.ResourceDestination;
      literal = quoted n.ResourceDestinationLiteral n.ResourceDestinationLiteralMarker n.ResourceDestinationString;
      raw = n.ResourceDestinationRaw;
      title = quoted n.ResourceTitle n.ResourceTitleMarker n.ResourceTitleString;
    }

-- a destination, a title, and the white space before the closing parenthesis; or nothing
abbrev pub in_resource : Constructs → Names → List Code → Sized
in_resource on names content =
    if slice_index content 0 == right_parenthesis then no_pieces
    else (let target = target_pieces on names of_resource (Some 32) content in
    let rest = drop target.size content in
    sized (join target.pieces (white_pieces rest)) (length content - length (after_white rest)))

-- the resource that was found at the front of a content
abbrev pub resource_pieces : Constructs → Names → List Code → LinkResource → Sized
resource_pieces on names content found =
    let start = after_white (drop 1 content) in
    let held = in_resource on names start in
    sized
    (around n.Resource (join_all (
    token n.ResourceMarker (take 1 content) ∷ white_pieces (drop 1 content) ∷ held.pieces ∷ token n.ResourceMarker (take 1 (drop held.size start)) ∷ []
    )))
    (length content - length found.rest)
