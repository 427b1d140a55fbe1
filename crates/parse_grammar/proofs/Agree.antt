-- Rows of delimiters agree with the heads of their tables (GFM 4.10).
use Rattle.std.proofs.Common.{inl, inr, ◌≡◌, ℕ, Bool, true, false, List, [], ◌∷◌, length, refl, sym, ap, subst, ◌∙◌}
use Rattle.std.proofs.lemmas.Bool.{cond-true, cond-false, true≢false}
use Rattle.std.proofs.lemmas.List.{length-map}
use Rattle.std.proofs.lemmas.List.Elements.{length_all_zip}
use Rattle.engine_events.specs.declared.event.Name.{Name}
use Rattle.engine_events.specs.declared.event.Name.TheVariants as n
use Rattle.engine_events.specs.Names.{same_name, is_listed}
use Rattle.markdown_options.specs.declared.align_kind.AlignKind.{AlignKind}
use Rattle.definition_text.specs.Lines.{kind_before_text, without_mark}
use Rattle.definition_block.specs.Blocks as tree
use Rattle.definition_block.specs.Definitions.{document_targets}
use Rattle.definition_block.specs.GfmTable.{line_cells}
use Rattle.definition_block.specs.Lists.{group_items}
use Rattle.definition_block.specs.Tree.{blocks}
use Rattle.definition_inline.specs.CharacterReference.{Names}
use Rattle.definition_page.specs.GfmTable.{head_line}
use Rattle.definition_page.specs.InlinePieces.{Meaning}
use Rattle.definition_page.specs.Page as page
use Rattle.definition_page.specs.Read.{on_page, read_cell, read_leaf, Reading, reading, Standing}
use Rattle.event_check.specs.Align.{value_align}
use Rattle.event_grammar.specs.declared.slot.Between.{Between}
use Rattle.event_grammar.specs.declared.slot.Between.TheVariants.{Lines}
use Rattle.event_grammar.specs.declared.slot.Form.{Form}
use Rattle.event_grammar.specs.declared.slot.Form.TheVariants.{Plain, Ordered}
use Rattle.event_grammar.specs.declared.slot.Slot.{Slot}
use Rattle.event_grammar.specs.Slots.{between_of, stands_between}
use Rattle.event_grammar.specs.Grammar.{document_row, one, opt, row}
use Rattle.event_grammar.specs.InGrammar.{cells_of, kids_of, node_name}
use Rattle.event_grammar.specs.References.{named}
use Rattle.event_grammar.specs.Trees.{Node, Nodes, Around, Nil, Cons}
use Rattle.event_meaning.specs.Blocks.{block_of, blocks_of}
use Rattle.event_meaning.specs.Children.{children, kids_in, text_of}
use Rattle.event_meaning.specs.GfmTable.{cell_of}
use Rattle.event_meaning.specs.Spelled.{page_of}
use Rattle.parse_slots.specs.Left.{ends, is_filled, left_by}
use Rattle.parse_alike.specs.Inline.{ArePartsAlike}
use Rattle.parse_alike.specs.Page.{AreLeavesAlike}
use Rattle.parse_alike.specs.Spelled.{meaning_read, meaning_spelled, page_read}
use Rattle.parse_references.specs.Cells.{AgreeInCells, AgreesInside, cells_after}
use Rattle.parse_references.proofs.Bare.{without_kids}
use Rattle.parse_references.proofs.Rows.{between_passes}
use Rattle.parse_grammar.proofs.Defined.{inside_filled}
use Rattle.parse_grammar.specs.LeadingLaws.{DocumentsAgreeInCells}
use Rattle.parse_grammar.proofs.Calm.{agree_without, agrees_without, calm_kids, calm_node, column_names, is_calm, other_without}
use Rattle.parse_grammar.proofs.Columns.{calm_values, row_cells, row_columns, values, values_named}
use Rattle.parse_grammar.proofs.Firsts.{between_other, child_here, child_later, first_is}
use Rattle.parse_grammar.proofs.Laid.{Fits, text_fits}
use Rattle.parse_grammar.proofs.Leaves.{AllLeaves, Any, leaves_read, leaves_spelled}
use Rattle.parse_grammar.proofs.Steps.{row_passes}
use Rattle.parse_grammar.proofs.Walk.{all_have, AllHave, Facts, holder_names, is_part}

-- ---- what is around

-- no row of delimiters, with this in it
abbrev pub Agrees : Node → Type 0
Agrees node = (same_name (node_name node) n.GfmTableDelimiterRow ≡ false) × AgreesInside node

agrees_next : (cells : ℕ) (node : Node) (ns : Nodes) → Agrees node → AgreeInCells (cells_after cells node) ns → AgreeInCells cells (Cons node ns)
agrees_next cells node ns own others = (λ same. absurd (true≢false (sym same ∙ own.0)), own.1, others)

inside_agrees : (node : Node) → AgreeInCells 0 (kids_of node) → AgreesInside node
inside_agrees (Around enter kids exit) agree = agree

-- calm nodes agree
calm_agrees : (around : Between) (form : Form) (node : Node) → is_calm form (node_name node) ≡ true → is_filled around form node ≡ true → Agrees node
calm_agrees around form node calm filled =
    let without = calm_node around form node calm filled in
    (other_without column_names refl node without, agrees_without column_names refl node without)

-- what stands between is calm, and no row
between_calm : (around : Between) (node : Node) → stands_between around (node_name node) ≡ true → is_calm Plain (node_name node) ≡ true
between_calm around node between = between_passes (is_calm Plain) refl refl around (node_name node) between

between_keeps : (around : Between) (node : Node) (cells : ℕ) → stands_between around (node_name node) ≡ true → cells_after cells node ≡ cells
between_keeps around node cells between =
    cond-false (same_name (node_name node) n.GfmTableRow) (cells_of (kids_of node)) cells
    (between_other n.GfmTableRow refl refl around (node_name node) between)

between_next : (around : Between) (cells : ℕ) (node : Node) (ns : Nodes) → stands_between around (node_name node) ≡ true → is_filled around Plain node ≡ true
    → AgreeInCells cells ns → AgreeInCells cells (Cons node ns)
between_next around cells node ns between filled others =
    agrees_next cells node ns (calm_agrees around Plain node (between_calm around node between) filled)
    (subst (λ k. AgreeInCells k ns) (sym (between_keeps around node cells between)) others)

-- ---- a head

-- a row of delimiters with as many values
delimiters_agree : (around : Between) (cells : ℕ) (ns : Nodes) → ends (left_by around (one n.GfmTableDelimiterRow ∷ []) ns) ≡ true → values ns ≡ cells
    → AgreeInCells cells ns
delimiters_agree around cells Nil e same = tt
delimiters_agree around cells (Cons node ns) e same =
    elim (first_is n.GfmTableDelimiterRow around (one n.GfmTableDelimiterRow ∷ []) [] node ns (λ other. refl) e) [
      | inl f ↦
          let inside = inside_filled around Plain node n.GfmTableDelimiterRow f.is_named f.filled in
          let inner = between_of (row n.GfmTableDelimiterRow Plain) around n.GfmTableDelimiterRow in
          let columns = row_columns inner (row n.GfmTableDelimiterRow Plain) (kids_of node) refl inside in
          let later = calm_kids around [] ns refl f.left in (
            λ is. sym columns ∙ sym (values_named node ns f.is_named later) ∙ same,
            inside_agrees node
                (agree_without (n.GfmTableDelimiterRow ∷ []) refl 0 (kids_of node)
                (without_kids (n.GfmTableDelimiterRow ∷ []) refl refl inner (kids_of node) 4 (row n.GfmTableDelimiterRow Plain) refl inside)),
            agree_without column_names refl (cells_after cells node) ns later,
          )
      | inr b ↦
          between_next around cells node ns b.between b.filled
          (delimiters_agree around cells ns b.left (sym (calm_values around Plain node ns (between_calm around node b.between) b.filled) ∙ same))
    ]

abbrev head_row : List Slot
head_row = one n.GfmTableRow ∷ one n.GfmTableDelimiterRow ∷ []

head_agrees : (around : Between) (cells : ℕ) (ns : Nodes) → ends (left_by around head_row ns) ≡ true
    → values ns ≡ length (children n.GfmTableCell (kids_in n.GfmTableRow ns)) → AgreeInCells cells ns
head_agrees around cells Nil e same = tt
head_agrees around cells (Cons node ns) e same =
    elim (first_is n.GfmTableRow around head_row (one n.GfmTableDelimiterRow ∷ []) node ns (λ other. refl) e) [
      | inl f ↦
          let calm : is_calm Plain (node_name node) ≡ true = ap (is_calm Plain) f.is_named in
          let counted : length (children n.GfmTableCell (kids_of node)) ≡ cells_of (kids_of node) =
          row_cells (between_of (row n.GfmTableRow Plain) around n.GfmTableRow) (row n.GfmTableRow Plain) (kids_of node) refl
          (inside_filled around Plain node n.GfmTableRow f.is_named f.filled) in
          agrees_next cells node ns (calm_agrees around Plain node calm f.filled)
          (subst (λ k. AgreeInCells k ns) (sym (cond-true (same_name (node_name node) n.GfmTableRow) (cells_of (kids_of node)) cells f.same))
          (delimiters_agree around (cells_of (kids_of node)) ns f.left
          (sym (calm_values around Plain node ns calm f.filled) ∙ same
          ∙ ap (λ ms. length (children n.GfmTableCell ms)) (child_here n.GfmTableRow node ns f.same) ∙ counted)))
      | inr b ↦
          between_next around cells node ns b.between b.filled
          (head_agrees around cells ns b.left
          (sym (calm_values around Plain node ns (between_calm around node b.between) b.filled) ∙ same
          ∙ ap (λ ms. length (children n.GfmTableCell ms)) (child_later n.GfmTableRow node ns b.other)))
    ]

-- ---- a table

abbrev HeadFits : Nodes → Type 0
HeadFits head = values head ≡ length (children n.GfmTableCell (kids_in n.GfmTableRow head))

abbrev table_row : List Slot
table_row = one n.GfmTableHead ∷ opt n.GfmTableBody ∷ []

table_agrees : (around : Between) (cells : ℕ) (ns : Nodes) → ends (left_by around table_row ns) ≡ true → HeadFits (kids_in n.GfmTableHead ns)
    → AgreeInCells cells ns
table_agrees around cells Nil e fits = tt
table_agrees around cells (Cons node ns) e fits =
    elim (first_is n.GfmTableHead around table_row (opt n.GfmTableBody ∷ []) node ns (λ other. refl) e) [
      | inl f ↦
          agrees_next cells node ns (
            ap (λ x. same_name x n.GfmTableDelimiterRow) f.is_named,
            inside_agrees node
                (head_agrees (between_of (row n.GfmTableHead Plain) around n.GfmTableHead) 0 (kids_of node)
                (inside_filled around Plain node n.GfmTableHead f.is_named f.filled)
                (subst HeadFits (child_here n.GfmTableHead node ns f.same) fits)),
          )
          (agree_without column_names refl (cells_after cells node) ns (calm_kids around (opt n.GfmTableBody ∷ []) ns refl f.left))
      | inr b ↦
          between_next around cells node ns b.between b.filled
          (table_agrees around cells ns b.left (subst HeadFits (child_later n.GfmTableHead node ns b.other) fits))
    ]

-- ---- the walk

-- as many columns as cells in the head, where this is a table
abbrev pub HasColumns : page.PageLeaf → Type 0
HasColumns (page.Table t) = length t.aligns ≡ length t.head.cells
HasColumns leaf = Unit {0}

abbrev leaf_names : List Name
leaf_names = n.GfmTable ∷ []

holder_rows : (name : Name) (form : Form) → is_listed holder_names name ≡ true → row_passes (is_part is_calm leaf_names) (row name form) ≡ true
holder_rows n.BlockQuote form listed = refl
holder_rows n.ListItem Ordered listed = refl
holder_rows n.ListItem form listed = refl
holder_rows n.GfmFootnoteDefinition form listed = refl
holder_rows n.ListUnordered form listed = refl
holder_rows n.ListOrdered form listed = refl
holder_rows name form listed = absurd (true≢false (sym listed))

holder_other : (name : Name) → is_listed holder_names name ≡ true → same_name name n.GfmTableDelimiterRow ≡ false
holder_other n.BlockQuote listed = refl
holder_other n.ListItem listed = refl
holder_other n.GfmFootnoteDefinition listed = refl
holder_other n.ListUnordered listed = refl
holder_other n.ListOrdered listed = refl
holder_other name listed = absurd (true≢false (sym listed))

agree_all : (cells : ℕ) (ns : Nodes) → AllHave Agrees ns → AgreeInCells cells ns
agree_all cells Nil all = tt
agree_all cells (Cons node ns) all = agrees_next cells node ns all.0 (agree_all (cells_after cells node) ns all.1)

module _ (names : Names) (bytes : List ℕ) where
  table_leaf : (around : Between) (form : Form) (top : Bool) (text : List ℕ) (kids : Nodes) (inner : page.Blocks) (name : Name)
      → is_listed leaf_names name ≡ true → ends (left_by (between_of (row name form) around name) (row name form) kids) ≡ true
      → AllLeaves HasColumns Any (block_of names bytes top name text kids inner)
      → (same_name name n.GfmTableDelimiterRow ≡ false) × AgreeInCells 0 kids
  table_leaf around form top text kids inner n.GfmTable listed e all =
      let head = kids_in n.GfmTableHead kids in
      let fits : HeadFits head =
      sym (length-map (named n.GfmTableDelimiterCellValue head) value_align) ∙ all.0
      ∙ length-map (children n.GfmTableCell (kids_in n.GfmTableRow head)) (cell_of names bytes) in
      (refl, table_agrees (between_of (row n.GfmTable form) around n.GfmTable) 0 kids e fits)
  table_leaf around form top text kids inner name listed e all = absurd (true≢false (sym listed))

  facts : Facts Agrees names bytes HasColumns Any is_calm leaf_names
  facts = record {
    spaces = refl;
    lines = refl;
    rows = holder_rows;
    quiet = calm_agrees;
    leaf = λ around form top enter exit kids inner listed filled all.
        table_leaf around form top (text_of bytes (Around enter kids exit)) kids inner enter.name listed filled all;
    holder = λ top enter exit kids inner listed spelled all. (holder_other enter.name listed, agree_all 0 kids all);
  }

  nodes_agree : (ns : Nodes) → ends (left_by Lines document_row ns) ≡ true → AllLeaves HasColumns Any (blocks_of names bytes true ns) → AgreeInCells 0 ns
  nodes_agree ns e all = agree_all 0 ns (all_have Agrees names bytes HasColumns Any is_calm leaf_names facts Lines document_row true ns refl e all)

-- ---- the document

module _ (r : Reading) where
  columns_read : (standing : Standing) (l : tree.LeafBlock) → Fits l → HasColumns (read_leaf r standing l)
  columns_read standing (tree.Table ls) fits = fits ∙ sym (length-map (line_cells (head_line ls)) (read_cell r))
  columns_read standing leaf fits = tt

module _ (m m' : Meaning) where
  columns_alike : (l l' : page.PageLeaf) → HasColumns l → AreLeavesAlike m m' l l' → HasColumns l'
  columns_alike (page.Table t) (page.Table t') has alike =
      sym (ap (λ (xs : List AlignKind). length xs) alike.0) ∙ has ∙ length_all_zip (ArePartsAlike m m') t.head.cells t'.head.cells alike.1.0
  columns_alike (page.Table t) l' has alike = absurd alike
  columns_alike l (page.Table t') has alike = absurd alike
  columns_alike l l' has alike = tt

pub documents_agree : DocumentsAgreeInCells
documents_agree tables options text ns bytes of_text e =
    let bs = group_items (blocks options.constructs (kind_before_text text) (without_mark text)) in
    let r = reading tables options (document_targets (blocks options.constructs (kind_before_text text) (without_mark text))) in
    let spelled = page_of tables.names text ns in
    let m = meaning_read tables options text in
    let m' = meaning_spelled tables options text spelled in
    nodes_agree tables.names text ns e
    (leaves_spelled HasColumns HasColumns Any Any m m' (columns_alike m m') (λ c d own alike. tt) (page_read tables options text).blocks spelled.blocks tt
    (leaves_read Fits HasColumns r (columns_read r) on_page bs (text_fits options.constructs text bytes)) of_text.blocks)
