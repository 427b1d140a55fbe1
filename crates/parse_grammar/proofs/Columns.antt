-- The cells of a table's head and of its row of delimiters, counted (GFM 4.10).
use Rattle.std.proofs.Common.{inl, inr, ◌≡◌, ℕ, ◌+◌, Bool, true, false, ◌&&◌, ◌||◌, List, [], ◌∷◌, ◌++◌, None, Some, length, refl, sym, ap, ap₂, subst, ◌∙◌, arith}
use Rattle.std.proofs.lemmas.Bool.{and_parts, cases_Bool, cond-false, not-true, true≢false}
use Rattle.std.proofs.lemmas.List.{append-nil, length-append}
use Rattle.std.specs.Prelude.{if◌then◌else◌, not}
use denote.Enum.Bare.{same_true}
use Rattle.engine_events.specs.contracts.event.Name.{the_type}
use Rattle.engine_events.specs.declared.event.Name.{Name}
use Rattle.engine_events.specs.declared.event.Name.TheVariants as n
use Rattle.engine_events.specs.Names.{same_name, is_listed}
use Rattle.event_grammar.specs.declared.slot.Between.{Between}
use Rattle.event_grammar.specs.declared.slot.Child.TheVariants.{Only}
use Rattle.event_grammar.specs.declared.slot.Form.{Form}
use Rattle.event_grammar.specs.declared.slot.Slot.{Slot}
use Rattle.event_grammar.specs.Grammar.{cell_names, many, one, row}
use Rattle.event_grammar.specs.InGrammar.{cells_of, kids_of, node_name}
use Rattle.event_grammar.specs.References.{named, named_in}
use Rattle.event_grammar.specs.Slots.{take_child, taken, between_of}
use Rattle.event_grammar.specs.Trees.{Node, Nodes, Around, Nil, Cons}
use Rattle.event_meaning.specs.Children.{children}
use Rattle.parse_slots.specs.Left.{ends, is_filled, left_by}
use Rattle.parse_references.specs.Leads.{AreWithout}
use Rattle.parse_grammar.proofs.Defined.{inside_filled}
use Rattle.parse_grammar.proofs.Inside.{parts_filled, rest_after}
use Rattle.parse_grammar.proofs.Firsts.{apart_way}
use Rattle.parse_grammar.proofs.Calm.{calm_kids, calm_node, column_names, is_calm, none_in, none_named}
use Rattle.parse_grammar.proofs.Steps.{row_passes, Step, step}

-- ---- a row

-- what is a cell of a row, or of no kind
abbrev is_row_part : Form → Name → Bool
is_row_part form name = same_name name n.GfmTableCell || not (is_listed cell_names name)

-- one more is counted
count_here : (node : Node) (ns : Nodes) → node_name node ≡ n.GfmTableCell → length (children n.GfmTableCell ns) ≡ cells_of ns
    → length (children n.GfmTableCell (Cons node ns)) ≡ cells_of (Cons node ns)
count_here node ns is h =
    ap (λ x. length (if same_name x n.GfmTableCell then node ∷ children n.GfmTableCell ns else children n.GfmTableCell ns)) is
    ∙ omega (arith, h)
    ∙ sym (ap (λ x. if is_listed cell_names x then cells_of ns + 1 else cells_of ns) is)

count_later : (node : Node) (ns : Nodes) → same_name (node_name node) n.GfmTableCell ≡ false → is_listed cell_names (node_name node) ≡ false
    → length (children n.GfmTableCell ns) ≡ cells_of ns → length (children n.GfmTableCell (Cons node ns)) ≡ cells_of (Cons node ns)
count_later node ns other none h =
    ap length (cond-false (same_name (node_name node) n.GfmTableCell) (node ∷ children n.GfmTableCell ns) (children n.GfmTableCell ns) other) ∙ h
    ∙ sym (cond-false (is_listed cell_names (node_name node)) (cells_of ns + 1) (cells_of ns) none)

-- the cells among the children of a row are all that count
pub row_cells : (around : Between) (slots : List Slot) (ns : Nodes) → row_passes is_row_part slots ≡ true → ends (left_by around slots ns) ≡ true
    → length (children n.GfmTableCell ns) ≡ cells_of ns
row_cells around slots Nil passing e = refl
row_cells around slots (Cons node ns) passing e =
    let s : Step is_row_part around node ns = step is_row_part refl refl around slots node ns passing e in
    let others = row_cells around s.rest ns s.passing s.left in
    elim (cases_Bool (same_name (node_name node) n.GfmTableCell)) [
      | inl same ↦ count_here node ns (same_true the_type tt (node_name node) n.GfmTableCell same) others
      | inr other ↦
          count_later node ns other
          (not-true (is_listed cell_names (node_name node))
          (ap (λ (b : Bool). b || not (is_listed cell_names (node_name node))) (sym other) ∙ s.passed)) others
    ]

-- ---- a cell of delimiters

abbrev pub values : Nodes → ℕ
values ns = length (named n.GfmTableDelimiterCellValue ns)

abbrev cell_row : List Slot
cell_row = many n.GfmTableCellDivider ∷ one n.GfmTableDelimiterCellValue ∷ many n.GfmTableCellDivider ∷ []

-- the row takes a value, or stays as it is
value_rest : (name : Name) → same_name n.GfmTableDelimiterCellValue name ≡ false → rest_after (take_child cell_row name) cell_row ≡ cell_row
value_rest name other = stays (same_name n.GfmTableCellDivider name) (same_name n.GfmTableDelimiterCellValue name) other
  where
    stays : (a b : Bool) → b ≡ false
        → rest_after (if a then Some (taken (Only n.GfmTableCellDivider) cell_row)
        else if b then Some (taken (Only n.GfmTableDelimiterCellValue) (many n.GfmTableCellDivider ∷ [])) else None) cell_row ≡ cell_row
    stays true b none = refl
    stays false true none = absurd (true≢false none)
    stays false false none = refl

-- in a value is no other
value_alone : (around : Between) (form : Form) (node : Node) → node_name node ≡ n.GfmTableDelimiterCellValue → is_filled around form node ≡ true
    → named_in n.GfmTableDelimiterCellValue node ≡ node ∷ []
value_alone around form (Around enter kids exit) is filled =
    let none : named n.GfmTableDelimiterCellValue kids ≡ [] =
    none_named column_names n.GfmTableDelimiterCellValue refl kids
    (calm_kids (between_of (row n.GfmTableDelimiterCellValue form) around n.GfmTableDelimiterCellValue) (row n.GfmTableDelimiterCellValue form) kids refl
    (inside_filled around form (Around enter kids exit) n.GfmTableDelimiterCellValue is filled)) in
    ap (λ x. if same_name x n.GfmTableDelimiterCellValue then Around enter kids exit ∷ named n.GfmTableDelimiterCellValue kids
    else named n.GfmTableDelimiterCellValue kids) is
    ∙ ap (λ (xs : List Node). Around enter kids exit ∷ xs) none

-- in what has another name are the values of its children
values_within : (node : Node) → same_name (node_name node) n.GfmTableDelimiterCellValue ≡ false
    → named_in n.GfmTableDelimiterCellValue node ≡ named n.GfmTableDelimiterCellValue (kids_of node)
values_within (Around enter kids exit) other =
    cond-false (same_name enter.name n.GfmTableDelimiterCellValue) (Around enter kids exit ∷ named n.GfmTableDelimiterCellValue kids)
    (named n.GfmTableDelimiterCellValue kids) other

pub values_both : (node : Node) (ns : Nodes) → values (Cons node ns) ≡ length (named_in n.GfmTableDelimiterCellValue node) + values ns
values_both node ns = length-append (named_in n.GfmTableDelimiterCellValue node) (named n.GfmTableDelimiterCellValue ns)

-- a row of delimiters has all values, where none is after it
pub values_named : (node : Node) (ns : Nodes) → node_name node ≡ n.GfmTableDelimiterRow → AreWithout column_names ns
    → values (Cons node ns) ≡ values (kids_of node)
values_named node ns is none =
    ap₂ (λ (xs ys : List Node). length (xs ++ ys)) (values_within node (ap (λ x. same_name x n.GfmTableDelimiterCellValue) is))
    (none_named column_names n.GfmTableDelimiterCellValue refl ns none)
    ∙ ap length (append-nil (named n.GfmTableDelimiterCellValue (kids_of node)))

-- none is in what is calm
pub calm_values : (around : Between) (form : Form) (node : Node) (ns : Nodes) → is_calm form (node_name node) ≡ true → is_filled around form node ≡ true
    → values (Cons node ns) ≡ values ns
calm_values around form node ns calm filled =
    ap (λ (xs : List Node). length (xs ++ named n.GfmTableDelimiterCellValue ns))
    (none_in column_names n.GfmTableDelimiterCellValue refl node (calm_node around form node calm filled))

abbrev is_value_part : Form → Name → Bool
is_value_part form name = same_name name n.GfmTableDelimiterCellValue || is_calm form name

-- a cell of delimiters has one value
one_value : (around : Between) (ns : Nodes) → ends (left_by around cell_row ns) ≡ true → values ns ≡ 1
one_value around Nil e = absurd (true≢false (sym e))
one_value around (Cons node ns) e =
    let s : Step is_value_part around node ns = step is_value_part refl refl around cell_row node ns refl e in
    let parts = parts_filled around cell_row node ns e in
    elim (cases_Bool (same_name (node_name node) n.GfmTableDelimiterCellValue)) [
      | inl same ↦
          let is : node_name node ≡ n.GfmTableDelimiterCellValue = same_true the_type tt (node_name node) n.GfmTableDelimiterCellValue same in
          let left : ends (left_by around (many n.GfmTableCellDivider ∷ []) ns) ≡ true =
          subst (λ x. ends (left_by around (rest_after (take_child cell_row x) cell_row) ns) ≡ true) is parts.left in
          ap₂ (λ (xs ys : List Node). length (xs ++ ys)) (value_alone around s.form node is s.filled)
          (none_named column_names n.GfmTableDelimiterCellValue refl ns (calm_kids around (many n.GfmTableCellDivider ∷ []) ns refl left))
      | inr other ↦
          calm_values around s.form node ns (ap (λ (b : Bool). b || is_calm s.form (node_name node)) (sym other) ∙ s.passed) s.filled
          ∙ one_value around ns
          (subst (λ (slots : List Slot). ends (left_by around slots ns) ≡ true)
          (value_rest (node_name node) (apart_way (node_name node) n.GfmTableDelimiterCellValue other))
          parts.left)
    ]

-- ---- a row of delimiters

abbrev is_column_part : Form → Name → Bool
is_column_part form name = same_name name n.GfmTableDelimiterCell || (is_calm form name && not (is_listed cell_names name))

-- as many values as cells
pub row_columns : (around : Between) (slots : List Slot) (ns : Nodes) → row_passes is_column_part slots ≡ true → ends (left_by around slots ns) ≡ true
    → values ns ≡ cells_of ns
row_columns around slots Nil passing e = refl
row_columns around slots (Cons node ns) passing e =
    let s : Step is_column_part around node ns = step is_column_part refl refl around slots node ns passing e in
    let others = row_columns around s.rest ns s.passing s.left in
    elim (cases_Bool (same_name (node_name node) n.GfmTableDelimiterCell)) [
      | inl same ↦
          let is : node_name node ≡ n.GfmTableDelimiterCell = same_true the_type tt (node_name node) n.GfmTableDelimiterCell same in
          let here : length (named_in n.GfmTableDelimiterCellValue node) ≡ 1 =
          ap length (values_within node (ap (λ x. same_name x n.GfmTableDelimiterCellValue) is))
          ∙ one_value (between_of (row n.GfmTableDelimiterCell s.form) around n.GfmTableDelimiterCell) (kids_of node)
          (inside_filled around s.form node n.GfmTableDelimiterCell is s.filled) in
          let counted : cells_of (Cons node ns) ≡ cells_of ns + 1 = ap (λ x. if is_listed cell_names x then cells_of ns + 1 else cells_of ns) is in
          let both = values_both node ns in
          omega (arith, here, counted, both, others)
      | inr other ↦
          let parts =
          and_parts (is_calm s.form (node_name node)) (not (is_listed cell_names (node_name node)))
          (ap (λ (b : Bool). b || (is_calm s.form (node_name node) && not (is_listed cell_names (node_name node)))) (sym other) ∙ s.passed) in
          calm_values around s.form node ns parts.0 s.filled ∙ others
          ∙ sym (cond-false (is_listed cell_names (node_name node)) (cells_of ns + 1) (cells_of ns) (not-true (is_listed cell_names (node_name node)) parts.1))
    ]
