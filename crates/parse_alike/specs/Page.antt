-- When two pages are alike, each by its own meaning.
use Rattle.std.specs.Prelude.{◌≡◌, ◌⊎◌}
use Rattle.definition_page.specs.InlinePieces.{Meaning}
use Rattle.definition_page.specs.Page.{Page, PageLeaf, Paragraph, Heading, Break, IndentedCode, FencedCode, Html, Table, Definition}
use Rattle.definition_page.specs.Page.{PageContainer, Quote, Item, Footnote, Block, Leaf, Holds, ItemList, Ending, Blank, Blocks, Nil, Cons}
use Rattle.definition_page.specs.Read.{without_ending}
use Rattle.parse_alike.specs.BlockLines.{has_lines, AreCodeLinesAlike, AreHtmlLinesAlike}
use Rattle.parse_alike.specs.GfmTable.{AreTablesAlike}
use Rattle.parse_alike.specs.Inline.{ArePartsAlike}
use Rattle.parse_alike.specs.Targets.{AreLabelsAlike, AreMeaningsAlike}

-- containers of one kind; footnote definitions have labels that match
abbrev pub AreContainersAlike : PageContainer → PageContainer → Type 0
AreContainersAlike Quote Quote = Unit {0}
AreContainersAlike Item Item = Unit {0}
AreContainersAlike (Footnote label) (Footnote label') = AreLabelsAlike label label'
AreContainersAlike c d = ⊥

module _ (m m' : Meaning) where
  -- leaves of one kind; fenced code without lines prints no fresh line
  abbrev pub AreLeavesAlike : PageLeaf → PageLeaf → Type 0
  AreLeavesAlike (Paragraph is) (Paragraph js) = ArePartsAlike m m' is js
  AreLeavesAlike (Heading rank is) (Heading rank' js) = (rank ≡ rank') × ArePartsAlike m m' is js
  AreLeavesAlike Break Break = Unit {0}
  AreLeavesAlike (IndentedCode ls) (IndentedCode ls') = AreCodeLinesAlike ls ls'
  AreLeavesAlike (FencedCode info is_closed ls) (FencedCode info' is_closed' ls') =
      (info ≡ info') × (is_closed ≡ is_closed') × AreCodeLinesAlike ls ls' × (has_lines ls ≡ has_lines ls')
  AreLeavesAlike (Html ls) (Html ls') = AreHtmlLinesAlike ls ls'
  AreLeavesAlike (Table t) (Table t') = AreTablesAlike m m' t t'
  AreLeavesAlike Definition Definition = Unit {0}
  AreLeavesAlike l l' = ⊥

  abbrev mutual
    -- blocks of one kind; the ending of a blank line isn't printed
    pub IsBlockAlike : Block → Block → Type 0
    IsBlockAlike (Leaf l) (Leaf l') = AreLeavesAlike l l'
    IsBlockAlike (Holds c kids) (Holds d kids') = AreContainersAlike c d × AreBlocksAlike kids kids'
    IsBlockAlike (ItemList number loose items) (ItemList number' loose' items') = (number ≡ number') × (loose ≡ loose') × AreBlocksAlike items items'
    IsBlockAlike (Ending ending) (Ending ending') = ending ≡ ending'
    IsBlockAlike (Blank ending) (Blank ending') = Unit {0}
    IsBlockAlike b c = ⊥

    -- siblings, one by one
    pub AreBlocksAlike : Blocks → Blocks → Type 0
    AreBlocksAlike Nil Nil = Unit {0}
    AreBlocksAlike (Cons b bs) (Cons c cs) = IsBlockAlike b c × AreBlocksAlike bs cs
    AreBlocksAlike bs cs = ⊥

  -- after a block that prints nothing, as frontmatter, with its ending
  abbrev pub AreAlikeAfterFront : Blocks → Blocks → Type 0
  AreAlikeAfterFront bs (Cons (Leaf Definition) cs) = AreBlocksAlike bs (without_ending cs)
  AreAlikeAfterFront bs cs = ⊥

  -- Pages are alike if their meanings are, and their blocks, but for frontmatter that only the second has among its blocks.
  pub record ArePagesAlike (p p' : Page) : Type 0 where
    pub meanings : AreMeaningsAlike m m'
    pub blocks : AreBlocksAlike p.blocks p'.blocks ⊎ AreAlikeAfterFront p.blocks p'.blocks
    pub ends_blank : p.ends_blank ≡ p'.ends_blank
