-- Paragraphs (CommonMark 4.8).
use Rattle.std.specs.Prelude.{Bool, List}
use Rattle.definition_text.specs.BlockLines.{BlockLine}
use Rattle.definition_text.specs.Columns.{bare}
use Rattle.definition_text.specs.Content.{content_of}
use Rattle.definition_inline.specs.Inline.{Inlines}
use Rattle.definition_block.specs.Container.{Container}
use Rattle.definition_page.specs.Read.{Reading, read_paragraph}
use Rattle.engine_events.specs.declared.event.Name.{Name}
use Rattle.engine_events.specs.declared.event.Name.TheVariants as n
use Rattle.event_definition.specs.Context.{names_of, on_of}
use Rattle.event_definition.specs.Inlines.{content_pieces}
use Rattle.event_definition.specs.Woven.{woven_lines}
use Rattle.event_definition.specs.Written.{Left, Written, and_then, inside, white_ahead, written}

-- the white space that the content of lines begins with
abbrev pub content_white : List BlockLine → Left → Written
content_white ls left = written (white_ahead (content_of ls)) left

-- the content of lines after that white space, inside a name
abbrev pub content_written : Reading → List Container → Name → Inlines → List BlockLine → Left → Written
content_written r outer name parts ls left =
    inside name (woven_lines (on_of r) outer (content_pieces (on_of r) (names_of r) parts (bare (content_of ls))) left)

-- a paragraph, which may be the first block of an item
abbrev pub paragraph_written : Reading → List Container → Bool → List BlockLine → Left → Written
paragraph_written r outer first ls left = and_then (content_white ls left) (content_written r outer n.Paragraph (read_paragraph r first ls) ls)
