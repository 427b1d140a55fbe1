-- Link reference definitions (CommonMark 4.7).
use Rattle.std.specs.Prelude.{if◌then◌else◌, List, [], ◌∷◌, Option, None, Some}
use Rattle.std.specs.Option.{option_map, option_or}
use Rattle.definition_text.specs.Ascii.{colon}
use Rattle.definition_text.specs.Columns.{Code}
use Rattle.definition_text.specs.Content.{Part, is_eol}
use Rattle.definition_inline.specs.Parts.{after_part, after_code}
use Rattle.definition_inline.specs.Space.{after_spaces, after_white, begins_with_space}
use Rattle.definition_inline.specs.Label.{label_at}
use Rattle.definition_inline.specs.Destination.{destination_at}
use Rattle.definition_inline.specs.Title.{title_at}

-- a definition; `rest` is what follows the line ending of its last line, which belongs to no content
pub record Definition : Type 0 where
  pub label : List Code
  pub destination : List Code
  pub title : Option (List Code)
  pub rest : List Code

abbrev pub definition : List Code → List Code → Option (List Code) → List Code → Definition
definition label destination title rest = record { label = label; destination = destination; title = title; rest = rest }

-- what follows a line ending, or the end of the content
abbrev pub next_line_after : List Code → Option (List Code)
next_line_after [] = Some []
next_line_after (c ∷ cs) = if is_eol c then Some cs else None

-- what follows the ending of this line, where only spaces and tabs are left of it (CommonMark 4.7)
abbrev pub next_line : List Code → Option (List Code)
next_line content = next_line_after (after_spaces content)

-- without a title only spaces and tabs follow the destination on its line (CommonMark 4.7)
abbrev pub definition_without_title : List Code → Part → Option Definition
definition_without_title label destination = option_map (definition label destination.text None) (next_line destination.rest)

-- a title is set off by white space, and only spaces and tabs follow it on its line (CommonMark 4.7)
abbrev pub definition_with_title : List Code → Part → Option Definition
definition_with_title label destination =
    if begins_with_space destination.rest then
    after_part (title_at (after_white destination.rest)) (λ (title : Part).
    option_map (definition label destination.text (Some title.text)) (next_line title.rest))
    else None

-- a definition that begins here, at the start of a line: a label, `:`, a destination after optional white space, and a title, where there is one
-- (CommonMark 4.7)
abbrev pub definition_at : List Code → Option Definition
definition_at content =
    after_part (label_at (after_spaces content)) (λ (label : Part).
    after_code colon label.rest (λ rest.
    after_part (destination_at None (after_white rest)) (λ (destination : Part).
    option_or (definition_with_title label.text destination) (definition_without_title label.text destination))))
