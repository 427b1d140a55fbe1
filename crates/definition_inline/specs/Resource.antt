-- The resource of a link or an image (CommonMark 6.3): `(`, an optional destination with an optional title, `)`, with white space between.
use Rattle.std.specs.Prelude.{Bool, false, if◌then◌else◌, ◌==◌, ◌&&◌, ◌||◌, List, [], ◌∷◌, Option, None, Some}
use Rattle.definition_text.specs.Ascii.{double_quote, single_quote, left_parenthesis, right_parenthesis}
use Rattle.definition_text.specs.Columns.{Code}
use Rattle.definition_text.specs.Content.{Part}
use Rattle.definition_inline.specs.Parts.{after_part, after_code}
use Rattle.definition_inline.specs.Space.{after_white, begins_with_space}
use Rattle.definition_inline.specs.Destination.{destination_at}
use Rattle.definition_inline.specs.Title.{title_at}

-- a resource: its destination, empty where none is written, its title, and what follows its `)`
pub record LinkResource : Type 0 where
  pub destination : List Code
  pub title : Option (List Code)
  pub rest : List Code

-- a resource ends here with a `)` (CommonMark 6.3)
abbrev pub resource_end : List Code → Option (List Code) → List Code → Option LinkResource
resource_end destination title content =
    after_code right_parenthesis content (λ rest. Some (record { destination = destination; title = title; rest = rest }))

-- whether a title is opened here
abbrev pub opens_title : List Code → Bool
opens_title [] = false
opens_title (c ∷ cs) = (c == double_quote) || ((c == single_quote) || (c == left_parenthesis))

-- a title, where there is one, and the end; the title is set off from the destination by white space (CommonMark 6.3)
abbrev pub after_destination : Part → Option LinkResource
after_destination destination =
    let next = after_white destination.rest in
    if begins_with_space destination.rest && opens_title next then
    after_part (title_at next) (λ (title : Part). resource_end destination.text (Some title.text) (after_white title.rest))
    else resource_end destination.text None next

-- what a resource holds: nothing, or a destination, whose parentheses are at most 32 deep, and what follows it (CommonMark 6.3)
abbrev pub resource_inside : List Code → Option LinkResource
resource_inside [] = None
resource_inside (c ∷ cs) =
    if c == right_parenthesis then resource_end [] None (c ∷ cs) else after_part (destination_at (Some 32) (c ∷ cs)) after_destination

-- a resource: `(`, and what it holds after optional white space (CommonMark 6.3)
abbrev pub resource_at : List Code → Option LinkResource
resource_at content = after_code left_parenthesis content (λ rest. resource_inside (after_white rest))
