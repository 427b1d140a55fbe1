-- Tables that are alike print the same.
use Rattle.std.proofs.Common.{◌≡◌, ℕ, List, [], ◌∷◌, ◌++◌, codes, flat_map, refl, ap, ◌∙◌}
use Rattle.std.specs.List.{AllZip}
use Rattle.markdown_options.specs.declared.align_kind.AlignKind.{AlignKind}
use Rattle.parse_alike.proofs.Prelude.{AreMeaningsAlike, ArePartsAlike, bare_tag, element, Fresh, inline_counts, inline_pieces, Inlines, LineEnding, Meaning}
use Rattle.parse_alike.proofs.Prelude.{Nil, Piece, tag}
use Rattle.definition_page.specs.GfmTable.{Table, TableRow, align_attributes, cell_pieces, cells_pieces, row_pieces, endings_pieces}
use Rattle.definition_page.specs.GfmTable.{body_row_pieces, head_pieces, body_pieces, table_pieces}
use Rattle.parse_alike.specs.GfmTable.{AreRowsAlike, AreTablesAlike}
use Rattle.parse_alike.proofs.Inline.{parts-printed, parts-counts}
use Rattle.parse_alike.proofs.Printed.{Other, printed}
use Rattle.parse_alike.proofs.Said.{both, both-printed, element-printed}

-- pieces on a line of their own
pub fresh-printed : (ps qs : List Piece) → printed ps ≡ printed qs → printed (Fresh ∷ ps) ≡ printed (Fresh ∷ qs)
fresh-printed ps qs p = ap (λ xs. Other Fresh ∷ xs) p

-- and an end of a line after them
pub ended-printed : (ps qs : List Piece) → printed ps ≡ printed qs → printed (ps ++ Fresh ∷ []) ≡ printed (qs ++ Fresh ∷ [])
ended-printed ps qs p = both-printed ps (Fresh ∷ []) qs (Fresh ∷ []) p refl

module _ (m m' : Meaning) (alike : AreMeaningsAlike m m') where
  cell-printed : (name : List ℕ) (align : AlignKind) (is js : Inlines) → ArePartsAlike m m' is js
      → printed (cell_pieces m name align is) ≡ printed (cell_pieces m' name align js)
  cell-printed name align is js p =
      let t = tag name (align_attributes align) in
      fresh-printed (element t (inline_pieces m is)) (element t (inline_pieces m' js))
      (element-printed t (inline_pieces m is) (inline_pieces m' js) (parts-printed m m' alike is js p))

  cells-counts : (cells cells' : List Inlines) → AllZip (ArePartsAlike m m') cells cells'
      → flat_map (inline_counts m) cells ≡ flat_map (inline_counts m') cells'
  cells-counts [] [] p = refl
  cells-counts [] (d ∷ ds) p = absurd p
  cells-counts (c ∷ cs) [] p = absurd p
  cells-counts (c ∷ cs) (d ∷ ds) p =
      both (inline_counts m c) (flat_map (inline_counts m) cs) (inline_counts m' d) (flat_map (inline_counts m') ds) (parts-counts m m' alike c d p.0)
      (cells-counts cs ds p.1)

  cells-printed : (name : List ℕ) (aligns : List AlignKind) (cells cells' : List Inlines) → AllZip (ArePartsAlike m m') cells cells'
      → printed (cells_pieces m name aligns cells) ≡ printed (cells_pieces m' name aligns cells')
  cells-printed name [] cells cells' p = ap printed (cells-counts cells cells' p)
  cells-printed name (align ∷ aligns) [] [] p =
      both-printed (cell_pieces m name align Nil) (cells_pieces m name aligns []) (cell_pieces m' name align Nil) (cells_pieces m' name aligns [])
      (cell-printed name align Nil Nil refl) (cells-printed name aligns [] [] p)
  cells-printed name (align ∷ aligns) [] (d ∷ ds) p = absurd p
  cells-printed name (align ∷ aligns) (c ∷ cs) [] p = absurd p
  cells-printed name (align ∷ aligns) (c ∷ cs) (d ∷ ds) p =
      both-printed (cell_pieces m name align c) (cells_pieces m name aligns cs) (cell_pieces m' name align d) (cells_pieces m' name aligns ds)
      (cell-printed name align c d p.0) (cells-printed name aligns cs ds p.1)

  row-printed : (name : List ℕ) (aligns : List AlignKind) (row row' : TableRow) → AreRowsAlike m m' row row'
      → printed (row_pieces m name aligns row) ≡ printed (row_pieces m' name aligns row')
  row-printed name aligns row row' p =
      let cells = cells_pieces m name aligns row.cells in
      let cells' = cells_pieces m' name aligns row'.cells in
      let t = bare_tag (codes "tr") in
      fresh-printed (element t (cells ++ Fresh ∷ [])) (element t (cells' ++ Fresh ∷ []))
      (element-printed t (cells ++ Fresh ∷ []) (cells' ++ Fresh ∷ [])
      (ended-printed cells cells' (cells-printed name aligns row.cells row'.cells p.0)))

  -- the endings are the same
  endings-printed : (a b : List LineEnding) → a ≡ b → printed (endings_pieces a) ≡ printed (endings_pieces b)
  endings-printed a b p = ap (λ endings. printed (endings_pieces endings)) p

  body_row-printed : (aligns : List AlignKind) (row row' : TableRow) → AreRowsAlike m m' row row'
      → printed (body_row_pieces m aligns row) ≡ printed (body_row_pieces m' aligns row')
  body_row-printed aligns row row' p =
      both-printed (row_pieces m (codes "td") aligns row) (endings_pieces row.endings) (row_pieces m' (codes "td") aligns row') (endings_pieces row'.endings)
      (row-printed (codes "td") aligns row row' p) (endings-printed row.endings row'.endings p.1)

  rows-printed : (aligns : List AlignKind) (rows rows' : List TableRow) → AllZip (AreRowsAlike m m') rows rows'
      → printed (flat_map (body_row_pieces m aligns) rows) ≡ printed (flat_map (body_row_pieces m' aligns) rows')
  rows-printed aligns [] [] p = refl
  rows-printed aligns [] (row' ∷ rows') p = absurd p
  rows-printed aligns (row ∷ rows) [] p = absurd p
  rows-printed aligns (row ∷ rows) (row' ∷ rows') p =
      both-printed (body_row_pieces m aligns row) (flat_map (body_row_pieces m aligns) rows) (body_row_pieces m' aligns row')
      (flat_map (body_row_pieces m' aligns) rows') (body_row-printed aligns row row' p.0) (rows-printed aligns rows rows' p.1)

  head-printed : (aligns : List AlignKind) (head head' : TableRow) → AreRowsAlike m m' head head'
      → printed (head_pieces m aligns head) ≡ printed (head_pieces m' aligns head')
  head-printed aligns head head' p =
      let row = row_pieces m (codes "th") aligns head in
      let row' = row_pieces m' (codes "th") aligns head' in
      let all = row ++ endings_pieces head.endings in
      let all' = row' ++ endings_pieces head'.endings in
      element-printed (bare_tag (codes "thead")) (all ++ Fresh ∷ []) (all' ++ Fresh ∷ [])
      (ended-printed all all'
      (both-printed row (endings_pieces head.endings) row' (endings_pieces head'.endings) (row-printed (codes "th") aligns head head' p)
      (endings-printed head.endings head'.endings p.1)))

  body-printed : (aligns : List AlignKind) (endings endings' : List LineEnding) (rows rows' : List TableRow) → endings ≡ endings'
      → AllZip (AreRowsAlike m m') rows rows' → printed (body_pieces m aligns endings rows) ≡ printed (body_pieces m' aligns endings' rows')
  body-printed aligns endings endings' [] [] e p = refl
  body-printed aligns endings endings' [] (row' ∷ rows') e p = absurd p
  body-printed aligns endings endings' (row ∷ rows) [] e p = absurd p
  body-printed aligns endings endings' (row ∷ rows) (row' ∷ rows') e p =
      let t = bare_tag (codes "tbody") in
      let ps = flat_map (body_row_pieces m aligns) (row ∷ rows) in
      let ps' = flat_map (body_row_pieces m' aligns) (row' ∷ rows') in
      both-printed (endings_pieces endings) (element t (ps ++ Fresh ∷ [])) (endings_pieces endings') (element t (ps' ++ Fresh ∷ []))
      (endings-printed endings endings' e)
      (element-printed t (ps ++ Fresh ∷ []) (ps' ++ Fresh ∷ []) (ended-printed ps ps' (rows-printed aligns (row ∷ rows) (row' ∷ rows') p)))

  -- tables with one alignment
  aligned-printed : (aligns : List AlignKind) (t t' : Table) → AreTablesAlike m m' t t'
      → printed (head_pieces m aligns t.head ++ body_pieces m aligns t.endings t.rows ++ Fresh ∷ [])
      ≡ printed (head_pieces m' aligns t'.head ++ body_pieces m' aligns t'.endings t'.rows ++ Fresh ∷ [])
  aligned-printed aligns t t' p =
      let head = head_pieces m aligns t.head in
      let head' = head_pieces m' aligns t'.head in
      let body = body_pieces m aligns t.endings t.rows in
      let body' = body_pieces m' aligns t'.endings t'.rows in
      ended-printed (head ++ body) (head' ++ body')
      (both-printed head body head' body' (head-printed aligns t.head t'.head p.1) (body-printed aligns t.endings t'.endings t.rows t'.rows p.2 p.3))

  -- tables that are alike print the same
  pub table-printed : (t t' : Table) → AreTablesAlike m m' t t' → printed (table_pieces m t) ≡ printed (table_pieces m' t')
  table-printed t t' p =
      let inner : List AlignKind → List Piece = λ aligns.
      Fresh ∷ head_pieces m aligns t.head ++ body_pieces m aligns t.endings t.rows ++ Fresh ∷ [] in
      let inner' : List Piece = Fresh ∷ head_pieces m' t'.aligns t'.head ++ body_pieces m' t'.aligns t'.endings t'.rows ++ Fresh ∷ [] in
      let tag_of = bare_tag (codes "table") in
      ap (λ aligns. printed (Fresh ∷ element tag_of (inner aligns))) p.0
      ∙ fresh-printed (element tag_of (inner t'.aligns)) (element tag_of inner')
      (element-printed tag_of (inner t'.aligns) inner'
      (fresh-printed (head_pieces m t'.aligns t.head ++ body_pieces m t'.aligns t.endings t.rows ++ Fresh ∷ [])
      (head_pieces m' t'.aligns t'.head ++ body_pieces m' t'.aligns t'.endings t'.rows ++ Fresh ∷ []) (aligned-printed t'.aligns t t' p)))
