-- What is written of a leaf, as the definition reads it (CommonMark 4).
use Rattle.std.specs.Prelude.{◌≡◌, ℕ, Bool, List}
use Rattle.markdown_options.specs.declared.configuration.Constructs.{Constructs}
use Rattle.definition_block.specs.Container.{Container}
use Rattle.definition_block.specs.Tree.{LeafBlock}
use Rattle.definition_inline.specs.Definition.{Definition}
use Rattle.definition_page.specs.Page as page
use Rattle.definition_page.specs.Read.{Reading, read_leaf}
use Rattle.parse_output.specs.Written.{IsInOrder}
use Rattle.parse_laid.specs.Places.{LineRest, Place, Within}
use Rattle.parse_laid.specs.Leaves.{IsLeafLaid}
use Rattle.parse_lines.specs.declared.walk.Walk.{Walk}
use Rattle.parse_lines.specs.Ends.{IsWrittenToRest}
use Rattle.parse_lines.specs.Standing.{StandsAt, around, standing}
use Rattle.parse_raw.specs.Written.{WritesLeaf}

-- Where a leaf is laid that begins on the line that is begun, and all before it is written, a leaf of a page is written, with these definitions in it. The walk
-- reads by the constructs of the text.
abbrev pub WritesWhere : {A : Type 0} → (Constructs → List Container → Place → Place → Type 0) → Reading → (Bool → page.PageLeaf) → List Definition
    → Walk A → Walk A → Type 0
WritesWhere IsLaid r leaf ds old new =
    (text : List ℕ) (top : Bool) (here : LineRest) (left : List LineRest) (to : Place) → StandsAt text (Within here left) (standing old)
    → IsWrittenToRest old → IsInOrder text old.out → old.on.now ≡ r.parse.constructs → IsLaid old.on.now (around (standing old)) (Within here left) to
    → WritesLeaf r.parse.constructs r.tables.names text top (leaf top) ds to old new

-- a leaf is written as the definition reads it, the first of an item or not
abbrev pub WritesReadLeaf : {A : Type 0} → Reading → Bool → LeafBlock → List Definition → Walk A → Walk A → Type 0
WritesReadLeaf r first leaf ds old new =
    WritesWhere (λ on around from to. IsLeafLaid on around leaf from to) r (λ top. read_leaf r (record { top = top; first = first }) leaf) ds old new
