-- What is in front of the blocks of a document, and the page that all of its nodes spell.
use Rattle.std.specs.Prelude.{◌≡◌, ◌⊎◌, ℕ, Bool, true, false, List, []}
use Rattle.markdown_options.specs.declared.configuration.Constructs.{Constructs}
use Rattle.markdown_options.specs.declared.configuration.ParseOptions.{ParseOptions}
use Rattle.markdown_options.specs.declared.line_ending.LineEnding.{LineEnding}
use Rattle.engine_events.specs.declared.event.Name.TheVariants as n
use Rattle.definition_block.specs.Tree as tree
use Rattle.definition_inline.specs.CharacterReference.{Names}
use Rattle.definition_page.specs.InlinePieces.{Meaning}
use Rattle.definition_page.specs.Page as page
use Rattle.definition_page.specs.Read.{page_of}
use Rattle.definition_page.specs.TextTables.{TextTables}
use Rattle.event_grammar.specs.References.{named}
use Rattle.event_grammar.specs.Trees.{Nodes}
use Rattle.event_meaning.specs.Blocks.{blocks_of}
use Rattle.event_meaning.specs.Children.{ends_in}
use Rattle.parse_references.specs.Sound.{AreSound}
use Rattle.parse_alike.specs.Meanings.{AreMeanings}
use Rattle.parse_alike.specs.Page.{AreBlocksAlike, AreAlikeAfterFront}
use Rattle.parse_alike.specs.Targets.{AreDefinitionsAlike}

-- whether the last of these nodes is the ending of a blank line
abbrev pub ends_in_blank : Nodes → Bool
ends_in_blank ns = ends_in n.BlankLineEnding false ns

-- Nodes that spell nothing at the top, and hold no definition: a byte order mark, white space.
pub record SpellsNothing (on : Constructs) (names : Names) (text : List ℕ) (ns : Nodes) : Type 0 where
  pub blocks : blocks_of names text true ns ≡ page.Nil
  pub none : named n.Definition ns ≡ []
  pub other : ends_in_blank ns ≡ false
  pub sound : AreSound on names text ns

-- What is in front of these blocks spells nothing, as a byte order mark does, or frontmatter with the ending of its last line. Where that line has no ending,
-- there are no blocks. No definition is among these nodes, and no ending of a blank line is the last of them.
pub record IsFront (on : Constructs) (names : Names) (text : List ℕ) (front : Nodes) (bs : tree.Blocks) : Type 0 where
  pub blocks : (blocks_of names text true front ≡ page.Nil)
      ⊎ (((ending : LineEnding) × (blocks_of names text true front ≡ page.Cons (page.Leaf page.Definition) (page.Cons (page.Ending ending) page.Nil)))
      ⊎ ((blocks_of names text true front ≡ page.Cons (page.Leaf page.Definition) page.Nil) × (bs ≡ tree.Nil)))
  pub none : named n.Definition front ≡ []
  pub other : ends_in_blank front ≡ false
  pub sound : AreSound on names text front

-- A page that is spelled is alike to that of these blocks, in blocks and definitions.
pub record IsSpelledPage (tables : TextTables) (options : ParseOptions) (text : List ℕ) (bs : tree.Blocks) (spelled : page.Page) : Type 0 where
  pub blocks : (m m' : Meaning) → AreMeanings options.constructs tables.names m m'
      → AreBlocksAlike m m' (page_of tables options bs).blocks spelled.blocks ⊎ AreAlikeAfterFront m m' (page_of tables options bs).blocks spelled.blocks
  pub defined : (m m' : Meaning) → AreMeanings options.constructs tables.names m m'
      → AreDefinitionsAlike m m' (page_of tables options bs).definitions spelled.definitions
