-- The steps in which a definition and a resource are read, by names for proofs.
use Rattle.std.specs.Prelude.{List, Option, None, Some}
use Rattle.std.specs.Option.{option_map, option_or}
use Rattle.definition_text.specs.Ascii.{colon}
use Rattle.definition_text.specs.Columns.{Code}
use Rattle.definition_text.specs.Content.{Part}
use Rattle.definition_inline.specs.Parts.{after_part, after_code}
use Rattle.definition_inline.specs.Space.{after_white}
use Rattle.definition_inline.specs.Destination.{destination_at}
use Rattle.definition_inline.specs.Definition.{Definition, definition, next_line, definition_with_title, definition_without_title}
use Rattle.definition_inline.specs.Resource.{LinkResource, resource_end, after_destination}

-- ---- a definition

abbrev pub definition_before : List Code → List Code → Option (List Code) → Option (List Code) → Option Definition
definition_before label destination title rest = option_map (definition label destination title) rest

abbrev pub with_title : List Code → List Code → Option Part → Option Definition
with_title label destination found = after_part found (λ (title : Part). definition_before label destination (Some title.text) (next_line title.rest))

abbrev pub or_definition_without_title : List Code → Part → Option Definition → Option Definition
or_definition_without_title label destination found = option_or found (definition_without_title label destination)

abbrev pub with_destination : List Code → Option Part → Option Definition
with_destination label found =
    after_part found (λ (destination : Part). or_definition_without_title label destination (definition_with_title label destination))

abbrev pub with_colon : List Code → List Code → Option Definition
with_colon label content = after_code colon content (λ rest. with_destination label (destination_at None (after_white rest)))

abbrev pub with_label : Option Part → Option Definition
with_label found = after_part found (λ (label : Part). with_colon label.text label.rest)

-- ---- a resource

abbrev pub resource_with_title : List Code → Option Part → Option LinkResource
resource_with_title destination found =
    after_part found (λ (title : Part). resource_end destination (Some title.text) (after_white title.rest))

abbrev pub resource_with_destination : Option Part → Option LinkResource
resource_with_destination found = after_part found after_destination
