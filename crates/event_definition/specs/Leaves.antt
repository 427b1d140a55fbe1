-- The blocks that hold no other (CommonMark 4 and GFM 4.10): one line for each.
use Rattle.std.specs.Prelude.{ℕ, Bool, List, Option, None, Some, length}
use Rattle.definition_text.specs.BlockLines.{BlockLine}
use Rattle.definition_text.specs.Content.{content_of}
use Rattle.definition_block.specs.Blocks.{LeafBlock, Paragraph, Heading, Break, IndentedCode, FencedCode, Html, Table, Definition}
use Rattle.definition_block.specs.Container.{Container}
use Rattle.definition_block.specs.HeadingAtx.{Atx, heading_atx}
use Rattle.definition_page.specs.Read.{Reading}
use Rattle.event_definition.specs.Context.{names_of, on_of}
use Rattle.event_definition.specs.Paragraph.{paragraph_written}
use Rattle.event_definition.specs.HeadingAtx.{atx_written}
use Rattle.event_definition.specs.HeadingSetext.{setext_written}
use Rattle.event_definition.specs.ThematicBreak.{break_written}
use Rattle.event_definition.specs.CodeIndented.{indented_written}
use Rattle.event_definition.specs.CodeFenced.{fenced_written}
use Rattle.event_definition.specs.HtmlFlow.{html_written}
use Rattle.event_definition.specs.GfmTable.{table_written}
use Rattle.event_definition.specs.Definition.{definition_pieces}
use Rattle.event_definition.specs.Woven.{woven_lines}
use Rattle.event_definition.specs.Written.{Left, Written, rest_of}

-- a heading by its first line: with `#`, or with an underline (CommonMark 4.2 and 4.3)
abbrev pub heading_written : Reading → List Container → ℕ → List BlockLine → Left → Option Atx → Written
heading_written r outer rank ls left None = setext_written r outer ls left
heading_written r outer rank ls left (Some atx) = atx_written r rank ls left

-- a leaf that begins here, in these containers; a paragraph may be the first block of an item
abbrev pub leaf_written : Reading → List Container → Bool → LeafBlock → Left → Written
leaf_written r outer first (Paragraph ls) left = paragraph_written r outer first ls left
leaf_written r outer first (Heading rank ls) left = heading_written r outer rank ls left (heading_atx (on_of r) (rest_of left))
leaf_written r outer first Break left = break_written left
leaf_written r outer first (IndentedCode ls) left = indented_written (on_of r) outer (length ls) left
leaf_written r outer first (FencedCode info closed ls) left = fenced_written r outer closed (length ls) left
leaf_written r outer first (Html ls) left = html_written (on_of r) outer (length ls) left
leaf_written r outer first (Table ls) left = table_written r outer ls left
leaf_written r outer first (Definition ls label destination title) left =
    woven_lines (on_of r) outer (definition_pieces (on_of r) (names_of r) (content_of ls)) left
