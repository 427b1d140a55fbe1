-- Rows open and end containers and lists, and the blocks of all rows are those of the document (CommonMark 5.3).
use Rattle.std.specs.Prelude.{◌≡◌, false, []}
use Rattle.definition_block.specs.Definitions.{definitions, document_definitions}
use Rattle.definition_block.specs.Lists.{group_items}
use Rattle.definition_block.specs.Tree.{Blocks, Nil}
use Rattle.definition_page.specs.Read.{Reading, ends_blank, on_page, read_blocks}
use Rattle.block_rows.specs.Rows.{rows_of}
use Rattle.html_looseness.specs.Loose.{places_of}
use Rattle.html_looseness.specs.Printable.{CanBePrinted}
use Rattle.parse_open.specs.Open.{LeadTo, bare_blocks, opened}

-- The rows of blocks may come one after another, and lead to the blocks, put into lists.
abbrev pub RowsLeadToBlocks : Type 0
RowsLeadToBlocks = (bs : Blocks) → CanBePrinted bs → LeadTo (opened Nil [] (places_of (rows_of bs))) (rows_of bs) (group_items (bare_blocks bs))

-- Blocks as their rows have them are read as the blocks are, and have their definitions. Lists change nothing of whether a document ends with a blank line.
pub record BareBlocksReadTheSame : Type 0 where
  pub read : (r : Reading) (bs : Blocks) → read_blocks r on_page (group_items (bare_blocks bs)) ≡ read_blocks r on_page (group_items bs)
  pub defined : (bs : Blocks) → definitions (group_items (bare_blocks bs)) ≡ document_definitions bs
  pub blank : (bs : Blocks) → ends_blank false (group_items (bare_blocks bs)) ≡ ends_blank false bs
