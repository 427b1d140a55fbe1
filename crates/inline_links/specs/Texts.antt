-- Contents that are texts.
use Rattle.std.specs.Prelude.{◌≡◌, ◌<◌, ◌-◌, ℕ, if◌then◌else◌, ◌==◌, List, [], ◌∷◌, Option, None, Some, drop, length}
use Rattle.std.specs.List.{flat_map}
use Rattle.std.specs.Option.{option_map}
use Rattle.std.specs.Str.{IsUtf8}
use Rattle.definition_text.specs.Ascii.{line_feed, carriage_return}
use Rattle.definition_text.specs.Columns.{code_byte}
use Rattle.definition_text.specs.Content.{return_and_feed, content_codes, part}
use Rattle.definition_text.specs.Content as content
use Rattle.definition_inline.specs.Definition.{definition}
use Rattle.definition_inline.specs.Definition as link_definition
use Rattle.definition_inline.specs.Resource as resource
use Rattle.inline_links.specs.Codes.{IsCut}
use Rattle.inline_links.specs.declared.text.TextDefinition.{TextDefinition}
use Rattle.inline_links.specs.declared.text.TextPart.{TextPart}
use Rattle.inline_links.specs.declared.text.TextResource.{TextResource}

-- the bytes of a code
abbrev pub code_text : ℕ → List ℕ
code_text code = if code == return_and_feed then carriage_return ∷ line_feed ∷ [] else code_byte code ∷ []

-- codes of a text
abbrev pub IsText : List ℕ → Type 0
IsText codes = IsUtf8 (flat_map code_text codes)

abbrev pub text_part : TextPart → content.Part
text_part read = part (content_codes read.text.now) (content_codes read.rest.now)

abbrev pub found_text_part : Option TextPart → Option content.Part
found_text_part None = None
found_text_part (Some read) = Some (text_part read)

abbrev pub text_resource : TextResource → resource.LinkResource
text_resource read =
    record {
      destination = content_codes read.destination.now;
      title = option_map (λ text. content_codes text.now) read.title;
      rest = content_codes read.rest.now;
    }

abbrev pub found_text_resource : Option TextResource → Option resource.LinkResource
found_text_resource None = None
found_text_resource (Some read) = Some (text_resource read)

abbrev pub text_definition : TextDefinition → link_definition.Definition
text_definition read =
    definition (content_codes read.label.now) (content_codes read.destination.now) (option_map (λ text. content_codes text.now) read.title)
    (content_codes read.rest.now)

abbrev pub found_text_definition : Option TextDefinition → Option link_definition.Definition
found_text_definition None = None
found_text_definition (Some read) = Some (text_definition read)

-- what follows the first codes of a content, at least one
pub record IsLater (content rest : List ℕ) : Type 0 where
  pub shorter : length rest < length content
  pub place : rest ≡ drop (length content - length rest) content
  pub cut : IsCut content (length content - length rest)
