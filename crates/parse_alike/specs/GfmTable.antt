-- When tables are alike (GFM 4.10).
use Rattle.std.specs.Prelude.{◌≡◌}
use Rattle.std.specs.List.{AllZip}
use Rattle.definition_page.specs.GfmTable.{Table, TableRow}
use Rattle.definition_page.specs.InlinePieces.{Meaning}
use Rattle.parse_alike.specs.Inline.{ArePartsAlike}

module _ (m m' : Meaning) where
  -- rows with the same endings, whose cells are alike one by one
  abbrev pub AreRowsAlike : TableRow → TableRow → Type 0
  AreRowsAlike row row' = AllZip (ArePartsAlike m m') row.cells row'.cells × (row.endings ≡ row'.endings)

  -- tables with the same alignment and the same endings before their bodies, whose rows are alike one by one
  abbrev pub AreTablesAlike : Table → Table → Type 0
  AreTablesAlike t t' = (t.aligns ≡ t'.aligns) × AreRowsAlike t.head t'.head × (t.endings ≡ t'.endings) × AllZip AreRowsAlike t.rows t'.rows
