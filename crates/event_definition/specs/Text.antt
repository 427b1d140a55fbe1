-- The pieces of a text (CommonMark 2.1, 3 and 5).
use Rattle.std.specs.Prelude.{ℕ, ◌-◌, List, [], length, take}
use Rattle.markdown_options.specs.declared.configuration.ParseOptions.{ParseOptions}
use Rattle.definition_text.specs.Lines.{kind_before_text, lines, without_mark}
use Rattle.definition_block.specs.Blocks.{Blocks}
use Rattle.definition_block.specs.Definitions.{document_targets}
use Rattle.definition_block.specs.Lists.{group_items}
use Rattle.definition_block.specs.Tree.{blocks}
use Rattle.definition_page.specs.Read.{Reading, on_page, reading}
use Rattle.definition_page.specs.TextTables.{TextTables}
use Rattle.engine_events.specs.declared.event.Name.TheVariants as n
use Rattle.event_definition.specs.Pieces.{Pieces, join, merged, token}
use Rattle.event_definition.specs.Context.{on_of}
use Rattle.event_definition.specs.Frontmatter.{front_written}
use Rattle.event_definition.specs.Blocks.{blocks_written}
use Rattle.event_definition.specs.Written.{Written, and_then}

-- frontmatter, and then the blocks that were read of the lines after it
abbrev pub lines_written : Reading → Blocks → List ℕ → Written
lines_written r bs text = and_then (front_written (on_of r) (lines text)) (blocks_written r [] on_page (group_items bs))

-- a byte order mark, if there is one
abbrev pub mark_pieces : List ℕ → Pieces
mark_pieces text = token n.ByteOrderMark (take (length text - length (without_mark text)) text)

-- the pieces of a text
abbrev pub pieces_of : TextTables → ParseOptions → List ℕ → Pieces
pieces_of tables options text =
    let bs = blocks options.constructs (kind_before_text text) (without_mark text) in
    let r = reading tables options (document_targets bs) in
    join (mark_pieces text) (merged (lines_written r bs (without_mark text)).pieces)
