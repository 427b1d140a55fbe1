-- A row of delimiters has as many cells as the row of the table's head before it (GFM 4.10).
use Rattle.std.specs.Prelude.{◌≡◌, ℕ, true, if◌then◌else◌}
use Rattle.engine_events.specs.Names.{same_name}
use Rattle.engine_events.specs.declared.event.Name.TheVariants as n
use Rattle.event_grammar.specs.InGrammar.{cells_of, kids_of, node_name}
use Rattle.event_grammar.specs.Trees.{Node, Nodes, Around, Nil, Cons}

-- the cells of the last row, after one more node
abbrev pub cells_after : ℕ → Node → ℕ
cells_after cells node = if same_name (node_name node) n.GfmTableRow then cells_of (kids_of node) else cells

abbrev mutual
  -- the same of all that is in a node
  pub AgreesInside : Node → Type 0
  AgreesInside (Around enter kids exit) = AgreeInCells 0 kids

  -- these nodes agree, where the last row before them has so many cells
  pub AgreeInCells : ℕ → Nodes → Type 0
  AgreeInCells cells Nil = Unit {0}
  AgreeInCells cells (Cons node ns) =
      (same_name (node_name node) n.GfmTableDelimiterRow ≡ true → cells_of (kids_of node) ≡ cells) × AgreesInside node
      × AgreeInCells (cells_after cells node) ns
