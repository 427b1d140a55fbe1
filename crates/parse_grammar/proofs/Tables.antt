-- A walk over a table: each node has a fact, by the text of the cell that it is (GFM 4.10).
use Rattle.std.proofs.Common.{inl, inr, ◌≡◌, ℕ, Bool, true, ◌||◌, List, [], ◌∷◌, map, refl, sym, ap, subst, ◌∙◌}
use Rattle.std.proofs.lemmas.Bool.{cases_Bool, cond-false, cond-true}
use Rattle.std.specs.List.{list_all}
use denote.Enum.Bare.{same_true}
use Rattle.engine_events.specs.contracts.event.Name.{the_type}
use Rattle.engine_events.specs.declared.event.Name.{Name}
use Rattle.engine_events.specs.declared.event.Name.TheVariants as n
use Rattle.engine_events.specs.Names.{same_name, is_listed}
use Rattle.definition_inline.specs.CharacterReference.{Names}
use Rattle.definition_inline.specs.Inline.{Inlines}
use Rattle.definition_page.specs.GfmTable.{TableRow}
use Rattle.event_grammar.specs.declared.slot.Between.{Between}
use Rattle.event_grammar.specs.declared.slot.Form.{Form}
use Rattle.event_grammar.specs.declared.slot.Form.TheVariants.{Plain}
use Rattle.event_grammar.specs.declared.slot.Slot.{Slot}
use Rattle.event_grammar.specs.Slots.{between_of, stands_between}
use Rattle.event_grammar.specs.Grammar.{line_names, one, opt, row, space_names}
use Rattle.event_grammar.specs.InGrammar.{kids_of, node_name}
use Rattle.event_grammar.specs.Trees.{Node, Nodes, Nil, Cons}
use Rattle.event_meaning.specs.Children.{children, kids_in}
use Rattle.event_meaning.specs.GfmTable.{cell_of, endings_before_row, row_of, rows_of}
use Rattle.parse_slots.specs.Left.{ends, is_filled, left_by}
use Rattle.parse_references.proofs.Rows.{between_passes}
use Rattle.parse_grammar.proofs.Defined.{inside_filled}
use Rattle.parse_grammar.proofs.Firsts.{between_other, child_here, child_later, first_is}
use Rattle.parse_grammar.proofs.Steps.{row_passes, Step, step}
use Rattle.parse_grammar.proofs.Walk.{AllHave}

-- what holds cells
abbrev pub table_names : List Name
table_names = n.GfmTableHead ∷ n.GfmTableBody ∷ n.GfmTableRow ∷ []

-- a child of this name, or one that is quiet
abbrev is_or_quiet : (Form → Name → Bool) → Name → Form → Name → Bool
is_or_quiet is_quiet own form name = same_name name own || is_quiet form name

-- What each cell has.
module _ (P : Inlines → Type 0) where
  abbrev pub CellsHave : List Inlines → Type 0
  CellsHave [] = Unit {0}
  CellsHave (c ∷ cs) = P c × CellsHave cs

  abbrev pub RowsHave : List TableRow → Type 0
  RowsHave [] = Unit {0}
  RowsHave (row ∷ rows) = CellsHave row.cells × RowsHave rows

module _ (Fact : Node → Type 0) (names : Names) (bytes : List ℕ) (P : Inlines → Type 0) (is_quiet : Form → Name → Bool) where
  -- What is quiet has the fact by its row, a cell by the text that it spells, and what holds cells by those in it.
  pub record CellFacts : Type 0 where
    pub spaces : list_all (is_quiet Plain) space_names ≡ true
    pub lines : list_all (is_quiet Plain) line_names ≡ true
    pub dividers : (form : Form) → row_passes (is_or_quiet is_quiet n.GfmTableCell) (row n.GfmTableRow form) ≡ true
    pub delimiters : row_passes is_quiet (one n.GfmTableDelimiterRow ∷ []) ≡ true
    pub quiet : (around : Between) (form : Form) (node : Node) → is_quiet form (node_name node) ≡ true → is_filled around form node ≡ true → Fact node
    pub cell : (around : Between) (form : Form) (node : Node) → node_name node ≡ n.GfmTableCell → is_filled around form node ≡ true
        → P (cell_of names bytes node) → Fact node
    pub holder : (name : Name) (node : Node) → is_listed table_names name ≡ true → node_name node ≡ name → AllHave Fact (kids_of node) → Fact node

  abbrev Cells : Nodes → Type 0
  Cells ns = CellsHave P (map (cell_of names bytes) (children n.GfmTableCell ns))

  abbrev Rows : Nodes → Type 0
  Rows ns = RowsHave P (rows_of names bytes ns)

  module _ (facts : CellFacts) where
    -- what stands between children
    between_has : (around : Between) (node : Node) → stands_between around (node_name node) ≡ true → is_filled around Plain node ≡ true → Fact node
    between_has around node between filled =
        facts.quiet around Plain node (between_passes (is_quiet Plain) facts.spaces facts.lines around (node_name node) between) filled

    all_quiet : (around : Between) (slots : List Slot) (ns : Nodes) → row_passes is_quiet slots ≡ true → ends (left_by around slots ns) ≡ true
        → AllHave Fact ns
    all_quiet around slots Nil passing e = tt
    all_quiet around slots (Cons node ns) passing e =
        let s : Step is_quiet around node ns = step is_quiet facts.spaces facts.lines around slots node ns passing e in
        (facts.quiet around s.form node s.passed s.filled, all_quiet around s.rest ns s.passing s.left)

    cells_have : (around : Between) (slots : List Slot) (ns : Nodes) → row_passes (is_or_quiet is_quiet n.GfmTableCell) slots ≡ true
        → ends (left_by around slots ns) ≡ true → Cells ns → AllHave Fact ns
    cells_have around slots Nil passing e h = tt
    cells_have around slots (Cons node ns) passing e h =
        let s : Step (is_or_quiet is_quiet n.GfmTableCell) around node ns =
        step (is_or_quiet is_quiet n.GfmTableCell) facts.spaces facts.lines around slots node ns passing e in
        elim (cases_Bool (same_name (node_name node) n.GfmTableCell)) [
          | inl same ↦
              let cells =
              subst (λ xs. CellsHave P (map (cell_of names bytes) xs))
              (cond-true (same_name (node_name node) n.GfmTableCell) (node ∷ children n.GfmTableCell ns) (children n.GfmTableCell ns) same) h in (
                facts.cell around s.form node (same_true the_type tt (node_name node) n.GfmTableCell same) s.filled cells.0,
                cells_have around s.rest ns s.passing s.left cells.1,
              )
          | inr other ↦ (
            facts.quiet around s.form node (ap (λ (b : Bool). b || is_quiet s.form (node_name node)) (sym other) ∙ s.passed) s.filled,
            cells_have around s.rest ns s.passing s.left
                (subst (λ xs. CellsHave P (map (cell_of names bytes) xs))
                (cond-false (same_name (node_name node) n.GfmTableCell) (node ∷ children n.GfmTableCell ns) (children n.GfmTableCell ns) other) h),
          )
        ]

    row_has : (around : Between) (form : Form) (node : Node) → node_name node ≡ n.GfmTableRow → is_filled around form node ≡ true → Cells (kids_of node)
        → Fact node
    row_has around form node is filled h =
        facts.holder n.GfmTableRow node refl is
        (cells_have (between_of (row n.GfmTableRow form) around n.GfmTableRow) (row n.GfmTableRow form) (kids_of node) (facts.dividers form)
        (inside_filled around form node n.GfmTableRow is filled) h)

    -- the rows of a body
    rows_have : (around : Between) (slots : List Slot) (ns : Nodes) → row_passes (is_or_quiet is_quiet n.GfmTableRow) slots ≡ true
        → ends (left_by around slots ns) ≡ true → Rows ns → AllHave Fact ns
    rows_have around slots Nil passing e h = tt
    rows_have around slots (Cons node ns) passing e h =
        let s : Step (is_or_quiet is_quiet n.GfmTableRow) around node ns =
        step (is_or_quiet is_quiet n.GfmTableRow) facts.spaces facts.lines around slots node ns passing e in
        let first = row_of names bytes (kids_of node) (endings_before_row names bytes ns) in
        elim (cases_Bool (same_name (node_name node) n.GfmTableRow)) [
          | inl same ↦
              let rows =
              subst (RowsHave P)
              (cond-true (same_name (node_name node) n.GfmTableRow) (first ∷ rows_of names bytes ns) (rows_of names bytes ns) same) h in (
                row_has around s.form node (same_true the_type tt (node_name node) n.GfmTableRow same) s.filled rows.0,
                rows_have around s.rest ns s.passing s.left rows.1,
              )
          | inr other ↦ (
            facts.quiet around s.form node (ap (λ (b : Bool). b || is_quiet s.form (node_name node)) (sym other) ∙ s.passed) s.filled,
            rows_have around s.rest ns s.passing s.left
                (subst (RowsHave P)
                (cond-false (same_name (node_name node) n.GfmTableRow) (first ∷ rows_of names bytes ns) (rows_of names bytes ns) other) h),
          )
        ]

    -- the head: its row, and the row of delimiters
    head_has : (around : Between) (ns : Nodes) → ends (left_by around (one n.GfmTableRow ∷ one n.GfmTableDelimiterRow ∷ []) ns) ≡ true
        → Cells (kids_in n.GfmTableRow ns) → AllHave Fact ns
    head_has around Nil e h = tt
    head_has around (Cons node ns) e h =
        elim (first_is n.GfmTableRow around (one n.GfmTableRow ∷ one n.GfmTableDelimiterRow ∷ []) (one n.GfmTableDelimiterRow ∷ []) node ns (λ other. refl) e) [
          | inl f ↦ (
            row_has around Plain node f.is_named f.filled (subst Cells (child_here n.GfmTableRow node ns f.same) h),
            all_quiet around (one n.GfmTableDelimiterRow ∷ []) ns facts.delimiters f.left,
          )
          | inr b ↦ (between_has around node b.between b.filled, head_has around ns b.left (subst Cells (child_later n.GfmTableRow node ns b.other) h))
        ]

    -- the body, if there is one
    body_has : (around : Between) (ns : Nodes) → ends (left_by around (opt n.GfmTableBody ∷ []) ns) ≡ true → Rows (kids_in n.GfmTableBody ns)
        → AllHave Fact ns
    body_has around Nil e h = tt
    body_has around (Cons node ns) e h =
        elim (first_is n.GfmTableBody around (opt n.GfmTableBody ∷ []) [] node ns (λ other. refl) e) [
          | inl f ↦ (
            facts.holder n.GfmTableBody node refl f.is_named
                (rows_have (between_of (row n.GfmTableBody Plain) around n.GfmTableBody) (row n.GfmTableBody Plain) (kids_of node) refl
                (inside_filled around Plain node n.GfmTableBody f.is_named f.filled)
                (subst Rows (child_here n.GfmTableBody node ns f.same) h)),
            all_quiet around [] ns refl f.left,
          )
          | inr b ↦ (between_has around node b.between b.filled, body_has around ns b.left (subst Rows (child_later n.GfmTableBody node ns b.other) h))
        ]

    -- a table
    pub table_has : (around : Between) (ns : Nodes) → ends (left_by around (one n.GfmTableHead ∷ opt n.GfmTableBody ∷ []) ns) ≡ true
        → Cells (kids_in n.GfmTableRow (kids_in n.GfmTableHead ns)) → Rows (kids_in n.GfmTableBody ns) → AllHave Fact ns
    table_has around Nil e cells rows = tt
    table_has around (Cons node ns) e cells rows =
        elim (first_is n.GfmTableHead around (one n.GfmTableHead ∷ opt n.GfmTableBody ∷ []) (opt n.GfmTableBody ∷ []) node ns (λ other. refl) e) [
          | inl f ↦ (
            facts.holder n.GfmTableHead node refl f.is_named
                (head_has (between_of (row n.GfmTableHead Plain) around n.GfmTableHead) (kids_of node)
                (inside_filled around Plain node n.GfmTableHead f.is_named f.filled)
                (subst (λ ms. Cells (kids_in n.GfmTableRow ms)) (child_here n.GfmTableHead node ns f.same) cells)),
            body_has around ns f.left
                (subst Rows (child_later n.GfmTableBody node ns (ap (λ x. same_name x n.GfmTableBody) f.is_named)) rows),
          )
          | inr b ↦ (
            between_has around node b.between b.filled,
            table_has around ns b.left
                (subst (λ ms. Cells (kids_in n.GfmTableRow ms)) (child_later n.GfmTableHead node ns b.other) cells)
                (subst Rows (child_later n.GfmTableBody node ns (between_other n.GfmTableBody refl refl around (node_name node) b.between)) rows),
          )
        ]
