-- When all texts of a leaf lead on (CommonMark 6.3).
use Rattle.std.specs.Prelude.{Bool, false, List, [], ◌∷◌}
use Rattle.definition_text.specs.Columns.{Code}
use Rattle.definition_inline.specs.Inline.{Inlines}
use Rattle.definition_page.specs.GfmTable.{TableRow}
use Rattle.definition_page.specs.Page as page
use Rattle.parse_references.specs.Leads.{PartsLead}

module _ (is_defined is_footnote : List Code → Bool) where
  abbrev pub TextLeads : Inlines → Type 0
  TextLeads is = PartsLead is_defined is_footnote false is

  abbrev pub CellsLead : List Inlines → Type 0
  CellsLead [] = Unit {0}
  CellsLead (c ∷ cs) = TextLeads c × CellsLead cs

  abbrev pub RowsLead : List TableRow → Type 0
  RowsLead [] = Unit {0}
  RowsLead (row ∷ rows) = CellsLead row.cells × RowsLead rows

  abbrev pub LeafLeads : page.PageLeaf → Type 0
  LeafLeads (page.Paragraph is) = TextLeads is
  LeafLeads (page.Heading rank is) = TextLeads is
  LeafLeads (page.Table t) = CellsLead t.head.cells × RowsLead t.rows
  LeafLeads leaf = Unit {0}
