-- Parts of texts and blocks, one after another, are alike if each is.
use Rattle.std.specs.Prelude.{◌≡◌, Bool, true, false, not, if◌then◌else◌, List, ◌++◌, None}
use Rattle.definition_block.specs.Blocks as tree
use Rattle.definition_inline.specs.Definition.{Definition}
use Rattle.definition_inline.specs.Inline.{Inlines}
use Rattle.definition_page.specs.GfmTable.{in_cell}
use Rattle.definition_page.specs.InlinePieces.{Meaning}
use Rattle.definition_page.specs.Page.{Blocks}
use Rattle.definition_page.specs.Read.{Reading, Standing, next_standing, read_blocks, without_ending}
use Rattle.event_meaning.specs.Blocks.{join}
use Rattle.event_meaning.specs.Texts.{append}
use Rattle.parse_alike.specs.Inline.{ArePartsAlike}
use Rattle.parse_alike.specs.Page.{AreBlocksAlike}
use Rattle.parse_alike.specs.Targets.{AreDefinitionsAlike}

-- Parts that are alike stay so with others after them, and as they stand in a cell.
pub record AlikePartsCompose : Type 0 where
  pub joined : (m m' : Meaning) (is is' js js' : Inlines) → ArePartsAlike m m' is is' → ArePartsAlike m m' js js'
      → ArePartsAlike m m' (append is js) (append is' js')
  pub in_cells : (m m' : Meaning) (is is' : Inlines) → ArePartsAlike m m' is is' → ArePartsAlike m m' (in_cell is) (in_cell is')

-- where a block stands that comes after these
abbrev pub standing_after : Standing → tree.Blocks → Standing
standing_after standing tree.Nil = standing
standing_after standing (tree.Cons b bs) = standing_after (next_standing standing b) bs

-- fenced code that no fence closes
abbrev pub is_unclosed : tree.LeafBlock → Bool
is_unclosed (tree.FencedCode info is_closed ls) = not is_closed
is_unclosed leaf = false

-- whether blocks end with such code, so that the next ending is one of its content; `before` says it of the blocks before these
abbrev pub ends_unclosed : Bool → tree.Blocks → Bool
ends_unclosed before tree.Nil = before
ends_unclosed before (tree.Cons (tree.Leaf leaf) bs) = ends_unclosed (is_unclosed leaf) bs
ends_unclosed before (tree.Cons (tree.Ending None) bs) = ends_unclosed before bs
ends_unclosed before (tree.Cons (tree.Blank None) bs) = ends_unclosed before bs
ends_unclosed before (tree.Cons b bs) = ends_unclosed false bs

-- blocks after others
abbrev pub after_unclosed : Bool → Blocks → Blocks
after_unclosed unclosed bs = if unclosed then without_ending bs else bs

-- Blocks that are alike stay so with others after them. Those of a container are read one after another; so are those of a document, but for the ending after
-- fenced code that isn't closed. Definitions that are alike stay so with others after them.
pub record AlikeBlocksCompose : Type 0 where
  pub joined : (m m' : Meaning) (bs bs' cs cs' : Blocks) → AreBlocksAlike m m' bs bs' → AreBlocksAlike m m' cs cs'
      → AreBlocksAlike m m' (join bs cs) (join bs' cs')
  pub read : (r : Reading) (standing : Standing) (bs cs : tree.Blocks) → standing.top ≡ false
      → read_blocks r standing (tree.join bs cs) ≡ join (read_blocks r standing bs) (read_blocks r (standing_after standing bs) cs)
  pub read_top : (r : Reading) (standing : Standing) (bs cs : tree.Blocks) → standing.top ≡ true
      → read_blocks r standing (tree.join bs cs)
      ≡ join (read_blocks r standing bs) (after_unclosed (ends_unclosed false bs) (read_blocks r (standing_after standing bs) cs))
  pub defined : (m m' : Meaning) (ds ds' es es' : List Definition) → AreDefinitionsAlike m m' ds ds' → AreDefinitionsAlike m m' es es'
      → AreDefinitionsAlike m m' (ds ++ es) (ds' ++ es')
