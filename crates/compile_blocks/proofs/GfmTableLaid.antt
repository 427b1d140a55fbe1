-- Tables, laid out piece by piece.
use Rattle.std.proofs.Common.{◌≡◌, ℕ, ◌≤◌, Bool, true, false, if◌then◌else◌, is_some, List, [], ◌∷◌}
use Rattle.std.proofs.Common.{◌++◌, Option, None, Some, refl, sym, ap, ◌∙◌, subst, codes, drop, length}
use Rattle.std.specs.Prelude.{map}
use Rattle.compile_blocks.proofs.Prelude.{after_child, after_pieces, AlignKind, before_child, body_pieces, cell_of, cell_or_none, cell_pieces, cells_in}
use Rattle.compile_blocks.proofs.Prelude.{cells_pieces, child, end_tag, endings_in, endings_pieces, first_none, flat_map, head_pieces, inline_counts}
use Rattle.compile_blocks.proofs.Prelude.{inline_pieces, Inlines, kids_of, LayoutState, LineEnding, MatchOption, Meaning, more_rows_pieces, Node, Nodes, Piece}
use Rattle.compile_blocks.proofs.Prelude.{row_of, row_pieces, Table, with_bytes, with_fresh, with_tag}
use Rattle.std.proofs.lemmas.List.{append_assoc, drop_all}
use Rattle.engine_events.specs.Names.{same_name}
use Rattle.engine_events.specs.declared.event.Name.TheVariants as n
use Rattle.markdown_compile_options.specs.declared.configuration.CompileOptions.{CompileOptions}
use Rattle.definition_inline.specs.CharacterReference.{Names}
use Rattle.definition_inline.specs.Inline.{Nil as NoInline}
use Rattle.definition_page.specs.GfmTable.{TableRow, align_attributes, body_row_pieces}
use Rattle.definition_page.specs.GfmTable.{table_pieces}
use Rattle.definition_page.specs.InlinePieces.{element}
use Rattle.definition_page.specs.Pieces.{Close, Fresh}
use Rattle.definition_page.specs.Tags.{bare_tag, tag, start_tag}
use Rattle.event_grammar.specs.InGrammar.{node_name}
use Rattle.event_grammar.specs.Trees.{Nil, Cons}
use Rattle.event_meaning.specs.Children.{children}
use Rattle.event_meaning.specs.GfmTable.{rows_of, endings_before_row}
use Rattle.html_bytes.proofs.SameText.{laid_both}
use Rattle.compile_raw.proofs.Children.{first_child, first_some}

-- pieces, a fresh line, and an end tag
module _ (options : CompileOptions) (default : List ℕ) where
  ended : (out : LayoutState) (ps : List Piece) (name : List ℕ)
      → after_pieces options default out ((ps ++ Fresh ∷ []) ++ Close name ∷ []) ≡ with_tag default (end_tag name) (after_pieces options default out ps)
  ended out ps name =
      laid_both options default out (ps ++ Fresh ∷ []) (Close name ∷ [])
      ∙ ap (with_bytes (end_tag name)) (laid_both options default out ps (Fresh ∷ []))

module _ (m : Meaning) (default : List ℕ) where
  abbrev past : LayoutState → List Piece → LayoutState
  past out ps = after_pieces m.compile default out ps

  -- a cell
  pub cell_laid : (name : List ℕ) (align : AlignKind) (is : Inlines) (out : LayoutState)
      → with_bytes (end_tag name) (past (with_tag default (start_tag (tag name (align_attributes align))) out) (inline_pieces m is))
      ≡ past out (cell_pieces m name align is)
  cell_laid name align is out =
      sym (laid_both m.compile default (with_tag default (start_tag (tag name (align_attributes align))) out) (inline_pieces m is) (Close name ∷ []))

  -- a row
  pub row_laid : (name : List ℕ) (aligns : List AlignKind) (row : TableRow) (out : LayoutState)
      → with_tag default (codes "</tr>") (past (with_tag default (codes "<tr>") out) (cells_pieces m name aligns row.cells))
      ≡ past out (row_pieces m name aligns row)
  row_laid name aligns row out =
      sym (ended m.compile default (with_tag default (codes "<tr>") out) (cells_pieces m name aligns row.cells) (codes "tr"))

  -- a head
  pub head_laid : (aligns : List AlignKind) (row : TableRow) (out : LayoutState)
      → with_tag default (codes "</thead>")
      (past (past (with_bytes (codes "<thead>") out) (row_pieces m (codes "th") aligns row)) (endings_pieces row.endings))
      ≡ past out (head_pieces m aligns row)
  head_laid aligns row out =
      let opened = with_bytes (codes "<thead>") out in
      let own = row_pieces m (codes "th") aligns row in
      ap (with_tag default (codes "</thead>")) (sym (laid_both m.compile default opened own (endings_pieces row.endings)))
      ∙ sym (ended m.compile default opened (own ++ endings_pieces row.endings) (codes "thead"))

  module _ (names : Names) (bytes : List ℕ) where
    -- the cell of a column, and those after it
    more_by : (name : List ℕ) (align : AlignKind) (aligns : List AlignKind) (found : Option Node) (cs left : List Node) (ns : Nodes) (out : LayoutState)
        → MatchOption found ((cs ≡ []) × (ns ≡ Nil)) (λ node. cs ≡ node ∷ children n.GfmTableCell ns)
        → past (past out (cell_pieces m name align (cell_or_none names bytes found))) (cells_pieces m name aligns (cells_in names bytes ns))
        ≡ past out (cells_pieces m name (align ∷ aligns) (map (cell_of names bytes) cs))
    more_by name align aligns None cs left ns out h =
        ap (λ (x : Nodes). past (past out (cell_pieces m name align NoInline)) (cells_pieces m name aligns (cells_in names bytes x))) h.1
        ∙ sym (laid_both m.compile default out (cell_pieces m name align NoInline) (cells_pieces m name aligns []))
        ∙ sym (ap (λ (x : List Node). past out (cells_pieces m name (align ∷ aligns) (map (cell_of names bytes) x))) h.0)
    more_by name align aligns (Some node) cs left ns out h =
        sym (laid_both m.compile default out (cell_pieces m name align (cell_of names bytes node)) (cells_pieces m name aligns (cells_in names bytes ns)))
        ∙ sym (ap (λ (x : List Node). past out (cells_pieces m name (align ∷ aligns) (map (cell_of names bytes) x))) h)

    pub cells_more : (name : List ℕ) (align : AlignKind) (aligns : List AlignKind) (ns : Nodes) (out : LayoutState)
        → past (past out (cell_pieces m name align (cell_or_none names bytes (child n.GfmTableCell ns))))
        (cells_pieces m name aligns (cells_in names bytes (after_child n.GfmTableCell ns)))
        ≡ past out (cells_pieces m name (align ∷ aligns) (cells_in names bytes ns))
    cells_more name align aligns ns out =
        more_by name align aligns (child n.GfmTableCell ns) (children n.GfmTableCell ns) [] (after_child n.GfmTableCell ns) out (first_child n.GfmTableCell ns)

    -- after the last column
    pub no_columns : (name : List ℕ) (aligns : List AlignKind) (i : ℕ) (ns : Nodes) (out : LayoutState) → length aligns ≤ i
        → past out (flat_map (inline_counts m) (cells_in names bytes ns)) ≡ past out (cells_pieces m name (drop i aligns) (cells_in names bytes ns))
    no_columns name aligns i ns out le = sym (ap (λ left. past out (cells_pieces m name left (cells_in names bytes ns))) (drop_all i aligns le))

    -- the calls in one more cell that isn't printed
    pub counts_more : (ns : Nodes) (node : Node) (out : LayoutState) → child n.GfmTableCell ns ≡ Some node
        → past (past out (inline_counts m (cell_of names bytes node))) (flat_map (inline_counts m) (cells_in names bytes (after_child n.GfmTableCell ns)))
        ≡ past out (flat_map (inline_counts m) (cells_in names bytes ns))
    counts_more ns node out e =
        let counts = inline_counts m in
        sym (laid_both m.compile default out (counts (cell_of names bytes node)) (flat_map counts (cells_in names bytes (after_child n.GfmTableCell ns))))
        ∙ sym (ap (λ (x : List Node). past out (flat_map counts (map (cell_of names bytes) x))) (first_some n.GfmTableCell ns node e))

    pub no_counts : (ns : Nodes) (out : LayoutState) → child n.GfmTableCell ns ≡ None → out ≡ past out (flat_map (inline_counts m) (cells_in names bytes ns))
    no_counts ns out e =
        sym (ap (λ (x : List Node). past out (flat_map (inline_counts m) (map (cell_of names bytes) x))) (first_none n.GfmTableCell ns e).0)

    -- a row among siblings, and those after it
    abbrev rows : List AlignKind → List TableRow → List Piece
    rows aligns rs = flat_map (body_row_pieces m aligns) rs

    abbrev Rows : Nodes → Option Node → Type 0
    Rows ns o =
        MatchOption o (rows_of names bytes ns ≡ [])
        (λ node. rows_of names bytes ns
        ≡ row_of names bytes (kids_of node) (endings_before_row names bytes (after_child n.GfmTableRow ns))
        ∷ rows_of names bytes (after_child n.GfmTableRow ns))

    rows_by : (b : Bool) (node : Node) (ns : Nodes) → Rows ns (child n.GfmTableRow ns)
        → MatchOption (if b then Some node else child n.GfmTableRow ns)
        ((if b then row_of names bytes (kids_of node) (endings_before_row names bytes ns) ∷ rows_of names bytes ns else rows_of names bytes ns) ≡ [])
        (λ found. (if b then row_of names bytes (kids_of node) (endings_before_row names bytes ns) ∷ rows_of names bytes ns else rows_of names bytes ns)
        ≡ row_of names bytes (kids_of found) (endings_before_row names bytes (if b then ns else after_child n.GfmTableRow ns))
        ∷ rows_of names bytes (if b then ns else after_child n.GfmTableRow ns))
    rows_by true node ns h = refl
    rows_by false node ns h = h

    rows_first : (ns : Nodes) → Rows ns (child n.GfmTableRow ns)
    rows_first Nil = refl
    rows_first (Cons node ns) = rows_by (same_name (node_name node) n.GfmTableRow) node ns (rows_first ns)

    pub no_rows : (ns : Nodes) → child n.GfmTableRow ns ≡ None → rows_of names bytes ns ≡ []
    no_rows ns e = subst (Rows ns) e (rows_first ns)

    some_row : (ns : Nodes) (node : Node) → child n.GfmTableRow ns ≡ Some node
        → rows_of names bytes ns
        ≡ row_of names bytes (kids_of node) (endings_before_row names bytes (after_child n.GfmTableRow ns)) ∷ rows_of names bytes (after_child n.GfmTableRow ns)
    some_row ns node e = subst (Rows ns) e (rows_first ns)

    -- a row, and those after it, with the endings before each of these
    row_more : (aligns : List AlignKind) (ns : Nodes) (node : Node) (out : LayoutState) → child n.GfmTableRow ns ≡ Some node
        → past (past out (row_pieces m (codes "td") aligns (row_of names bytes (kids_of node) [])))
        (more_rows_pieces names bytes m aligns (after_child n.GfmTableRow ns))
        ≡ past out (rows aligns (rows_of names bytes ns))
    row_more aligns ns node out e =
        let others = after_child n.GfmTableRow ns in
        let row = row_pieces m (codes "td") aligns (row_of names bytes (kids_of node) []) in
        let endings = endings_pieces (endings_before_row names bytes others) in
        sym (laid_both m.compile default out row (more_rows_pieces names bytes m aligns others))
        ∙ ap (past out) (sym (append_assoc row endings (rows aligns (rows_of names bytes others))))
        ∙ sym (ap (λ (x : List TableRow). past out (rows aligns x)) (some_row ns node e))

    -- those after another
    pub rows_more : (aligns : List AlignKind) (ns : Nodes) (node : Node) (out : LayoutState) → child n.GfmTableRow ns ≡ Some node
        → past (past (past out (endings_pieces (endings_in names bytes (before_child n.GfmTableRow ns))))
        (row_pieces m (codes "td") aligns (row_of names bytes (kids_of node) [])))
        (more_rows_pieces names bytes m aligns (after_child n.GfmTableRow ns))
        ≡ past out (more_rows_pieces names bytes m aligns ns)
    rows_more aligns ns node out e =
        let before = endings_pieces (endings_in names bytes (before_child n.GfmTableRow ns)) in
        row_more aligns ns node (past out before) e
        ∙ sym (laid_both m.compile default out before (rows aligns (rows_of names bytes ns)))
        ∙ ap (λ (o : Option Node). past out (endings_pieces (if is_some o then endings_in names bytes (before_child n.GfmTableRow ns) else [])
        ++ rows aligns (rows_of names bytes ns))) (sym e)

    pub no_more_rows : (aligns : List AlignKind) (ns : Nodes) (out : LayoutState) → child n.GfmTableRow ns ≡ None
        → out ≡ past out (more_rows_pieces names bytes m aligns ns)
    no_more_rows aligns ns out e =
        ap (λ (x : List TableRow). past out (rows aligns x)) (sym (no_rows ns e))
        ∙ ap (λ (o : Option Node). past out (endings_pieces (if is_some o then endings_in names bytes (before_child n.GfmTableRow ns) else [])
        ++ rows aligns (rows_of names bytes ns))) (sym e)

    -- a body
    pub body_laid : (aligns : List AlignKind) (endings : List LineEnding) (ns : Nodes) (node : Node) (out : LayoutState) → child n.GfmTableRow ns ≡ Some node
        → with_tag default (codes "</tbody>")
        (past (past (with_bytes (codes "<tbody>") (past out (endings_pieces endings)))
        (row_pieces m (codes "td") aligns (row_of names bytes (kids_of node) [])))
        (more_rows_pieces names bytes m aligns (after_child n.GfmTableRow ns)))
        ≡ past out (body_pieces m aligns endings (rows_of names bytes ns))
    body_laid aligns endings ns node out e =
        let opened = with_bytes (codes "<tbody>") (past out (endings_pieces endings)) in
        let others = after_child n.GfmTableRow ns in
        let row = row_of names bytes (kids_of node) (endings_before_row names bytes others) in
        let all = row ∷ rows_of names bytes others in
        ap (with_tag default (codes "</tbody>"))
        (row_more aligns ns node opened e ∙ ap (λ (x : List TableRow). past opened (rows aligns x)) (some_row ns node e))
        ∙ sym (ended m.compile default opened (rows aligns all) (codes "tbody"))
        ∙ sym (laid_both m.compile default out (endings_pieces endings) (element (bare_tag (codes "tbody")) (rows aligns all ++ Fresh ∷ [])))
        ∙ sym (ap (λ (x : List TableRow). past out (body_pieces m aligns endings x)) (some_row ns node e))

    pub no_body : (aligns : List AlignKind) (endings : List LineEnding) (ns : Nodes) (out : LayoutState) → child n.GfmTableRow ns ≡ None
        → out ≡ past out (body_pieces m aligns endings (rows_of names bytes ns))
    no_body aligns endings ns out e = ap (λ (x : List TableRow). past out (body_pieces m aligns endings x)) (sym (no_rows ns e))

  -- a table
  pub table_laid : (t : Table) (out : LayoutState)
      → with_tag default (codes "</table>")
      (past (past (with_fresh default (with_tag default (codes "<table>") out)) (head_pieces m t.aligns t.head)) (body_pieces m t.aligns t.endings t.rows))
      ≡ past out (table_pieces m t)
  table_laid t out =
      let opened = with_tag default (codes "<table>") out in
      let head = head_pieces m t.aligns t.head in
      let body = body_pieces m t.aligns t.endings t.rows in
      ap (with_tag default (codes "</table>")) (sym (laid_both m.compile default opened (Fresh ∷ head) body))
      ∙ sym (ended m.compile default opened ((Fresh ∷ head) ++ body) (codes "table"))
