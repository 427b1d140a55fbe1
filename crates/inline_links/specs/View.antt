-- What was read, in codes.
use Rattle.std.specs.Prelude.{ℕ, List, Option, None, Some, IfSome}
use Rattle.std.specs.Borrow.{Bor}
use Rattle.std.specs.Option.{option_map}
use Rattle.definition_text.specs.Content.{content_codes, part}
use Rattle.definition_text.specs.Content as content
use Rattle.definition_inline.specs.Inline.{link_texts}
use Rattle.definition_inline.specs.Inline as inline
use Rattle.definition_inline.specs.Definition.{definition}
use Rattle.definition_inline.specs.Definition as link_definition
use Rattle.inline_links.specs.Codes.{IsShorterRest}
use Rattle.inline_links.specs.declared.part.Part.{Part}
use Rattle.definition_inline.specs.Resource as resource
use Rattle.inline_links.specs.declared.resource.LinkResource.{LinkResource}
use Rattle.inline_links.specs.declared.definition.LinkDefinition.{LinkDefinition}
use Rattle.inline_links.specs.declared.text.LinkTexts.{LinkTexts}

abbrev pub part_of : Part → content.Part
part_of read = part (content_codes read.text.now) (content_codes read.rest.now)

abbrev pub found_part : Option Part → Option content.Part
found_part None = None
found_part (Some read) = Some (part_of read)

-- the codes of a title, where there is one
abbrev pub title_codes : Option (Bor (List ℕ)) → Option (List ℕ)
title_codes title = option_map (λ text. content_codes text.now) title

abbrev pub definition_of : LinkDefinition → link_definition.Definition
definition_of read =
    definition (content_codes read.label.now) (content_codes read.destination.now) (title_codes read.title) (content_codes read.rest.now)

abbrev pub found_definition : Option LinkDefinition → Option link_definition.Definition
found_definition None = None
found_definition (Some read) = Some (definition_of read)

abbrev pub resource_of : LinkResource → resource.LinkResource
resource_of read =
    record { destination = content_codes read.destination.now; title = title_codes read.title; rest = content_codes read.rest.now }

abbrev pub found_resource : Option LinkResource → Option resource.LinkResource
found_resource None = None
found_resource (Some read) = Some (resource_of read)

-- what was read of a content, if anything, leaves a rest of it that is shorter
abbrev pub LeavesShorterRest : List ℕ → Option Part → Type 0
LeavesShorterRest content found = IfSome found (λ read. IsShorterRest content read.rest.now)

-- where a link leads, by codes
abbrev pub link_texts_view : LinkTexts → inline.LinkTexts
link_texts_view l = link_texts (content_codes l.destination.now) (title_codes l.title)
