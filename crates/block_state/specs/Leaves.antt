-- What the parser keeps of an open leaf.
use Rattle.std.specs.Prelude.{ℕ}
use Rattle.block_state.specs.declared.leaf.OpenLeaf.{OpenLeaf}
use Rattle.block_state.specs.declared.leaf.OpenLeaf.TheVariants as leaf
use Rattle.block_starts.specs.CodeFenced.{fence_view}
use Rattle.block_starts.specs.HtmlFlow.{number_of}
use Rattle.block_state.specs.Shows.{LeafState, InText, InIndented, InFenced, InHtml, InTable}

abbrev pub leaf_state : OpenLeaf → LeafState
leaf_state leaf.Text = InText
leaf_state (leaf.Indented count ending) = InIndented count ending
leaf_state (leaf.Fenced fence ending) = InFenced (fence_view fence) ending
leaf_state (leaf.Html kind ending) = InHtml (number_of kind) ending
leaf_state (leaf.Table ending) = InTable ending

-- how many lines an open leaf has at least
abbrev pub lines_needed : OpenLeaf → ℕ
lines_needed leaf.Text = 0
lines_needed (leaf.Indented count ending) = count
lines_needed (leaf.Fenced fence ending) = 1
lines_needed (leaf.Html kind ending) = 0
lines_needed (leaf.Table ending) = 0
