-- The labels of the footnotes of a page are those of the footnotes among its blocks, in the order in which these end (in no standard; as GitHub prints them).
use Rattle.std.specs.Prelude.{◌≡◌, ℕ, List}
use Rattle.markdown_options.specs.declared.configuration.ParseOptions.{ParseOptions}
use Rattle.definition_page.specs.InlinePieces.{Meaning}
use Rattle.definition_page.specs.Page.{Blocks}
use Rattle.definition_page.specs.Read.{read}
use Rattle.definition_page.specs.TextTables.{TextTables}
use Rattle.event_meaning.specs.Spelled.{footnotes}
use Rattle.parse_alike.specs.Page.{AreBlocksAlike}
use Rattle.parse_alike.specs.Targets.{AreFootnotesAlike}

-- The footnotes of the page of a text are those of its blocks, and blocks that are alike have footnotes that are.
pub record FootnotesAreThoseOfBlocks : Type 0 where
  pub of_text : (tables : TextTables) (options : ParseOptions) (text : List ℕ)
      → footnotes (read tables options text).blocks ≡ (read tables options text).footnotes
  pub of_alike : (m m' : Meaning) (bs bs' : Blocks) → AreBlocksAlike m m' bs bs' → AreFootnotesAlike (footnotes bs) (footnotes bs')
