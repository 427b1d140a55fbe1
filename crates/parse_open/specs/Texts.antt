-- The nodes of a text spell its page.
use Rattle.std.specs.Prelude.{◌≡◌, ℕ, false, List, []}
use Rattle.markdown_options.specs.declared.configuration.ParseOptions.{ParseOptions}
use Rattle.definition_text.specs.Lines.{kind_before_text, without_mark}
use Rattle.definition_block.specs.Definitions.{document_targets}
use Rattle.definition_block.specs.Lists.{group_items}
use Rattle.definition_block.specs.Tree.{Blocks, blocks}
use Rattle.definition_page.specs.Read.{ends_blank, reading}
use Rattle.definition_page.specs.TextTables.{TextTables}
use Rattle.event_grammar.specs.Trees.{Nodes, growth}
use Rattle.event_meaning.specs.Spelled.{page_of}
use Rattle.parse_alike.specs.Spelled.{IsPageOfText}
use Rattle.parse_open.specs.Open.{bare_blocks, opened}
use Rattle.parse_open.specs.Fronts.{IsFront, ends_in_blank}
use Rattle.parse_open.specs.Levels.{Spells}

-- the blocks of a text
abbrev pub text_blocks : ParseOptions → List ℕ → Blocks
text_blocks options text = blocks options.constructs (kind_before_text text) (without_mark text)

-- Nodes spell the blocks of a text, after what is in front of them, and end with the ending of a blank line if these do. Then they spell the page of the text.
abbrev pub TextsAreSpelled : Type 0
TextsAreSpelled =
    (tables : TextTables) (options : ParseOptions) (text : List ℕ) (front ns : Nodes) (line : ℕ)
    → IsFront options.constructs tables.names text front (text_blocks options text)
    → Spells (reading tables options (document_targets (text_blocks options text))) text front
    (opened (group_items (bare_blocks (text_blocks options text))) [] []) (growth ns []) line
    → ends_in_blank ns ≡ ends_blank false (group_items (bare_blocks (text_blocks options text)))
    → IsPageOfText tables options text (page_of tables.names text ns)
