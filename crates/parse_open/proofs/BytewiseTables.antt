-- Tables and raw blocks, with their data cut into bytes.
use Rattle.std.proofs.Common.{◌≡◌, ℕ, false, List, [], ◌∷◌, ◌++◌, map, refl, sym, ap, ap₂, ◌∙◌}
use Rattle.parse_open.proofs.Prelude.{after_child, AreSound, Around, before_child, bytewise, children, Cons, Event, if◌then◌else◌, Inlines, IsSound}
use Rattle.parse_open.proofs.Prelude.{kids_in, Name, named, Names, Nil, Node, Nodes, raw_parts, same_name, text_of}
use Rattle.markdown_options.specs.declared.line_ending.LineEnding.{LineEnding}
use Rattle.engine_events.specs.declared.event.Name.TheVariants as n
use Rattle.definition_page.specs.GfmTable.{Table, TableRow, in_cell}
use Rattle.event_check.specs.Align.{marks, mark, align_of, marks_in, value_align, table_align}
use Rattle.event_check.specs.declared.align.Marks.{Marks}
use Rattle.event_meaning.specs.GfmTable.{cell_of, row_of, endings_in, endings_before_row, rows_of, table_of}
use Rattle.event_meaning.specs.Raw.{ending_of, raw_part}
use Rattle.parse_open.proofs.BytewiseNodes.{kept, by_cases, skipped}
use Rattle.parse_open.proofs.BytewiseChildren.{IsOther, not_data, has_same, kids_same, kids_sound, after_same, after_sound, before_same, before_sound}
use Rattle.parse_open.proofs.BytewiseChildren.{children_same, children_sound, AllSound}
use Rattle.parse_open.proofs.BytewiseLabels.{named_same, named_sound}
use Rattle.parse_open.proofs.BytewiseTexts.{within_same}

-- what nodes are mapped to, if that is the same for each with the data in it cut
pub mapped : {B : Type 0} (f : Node → B) → ((node : Node) → IsSound node → f (kept node) ≡ f node) → (nodes : List Node) → AllSound nodes
    → map f (map kept nodes) ≡ map f nodes
mapped f same [] sound = refl
mapped f same (node ∷ nodes) sound = ap₂ (λ first others. first ∷ others) (same node sound.0) (mapped f same nodes sound.1)

-- the children of a child's child
pub inner_same : (outer inner : Name) → IsOther outer → IsOther inner → (ns : Nodes) → AreSound ns
    → kids_in inner (kids_in outer (bytewise ns)) ≡ bytewise (kids_in inner (kids_in outer ns))
inner_same outer inner other another ns f =
    ap (kids_in inner) (kids_same outer other ns f) ∙ kids_same inner another (kids_in outer ns) (kids_sound outer ns f)

pub inner_sound : (outer inner : Name) (ns : Nodes) → AreSound ns → AreSound (kids_in inner (kids_in outer ns))
inner_sound outer inner ns f = kids_sound inner (kids_in outer ns) (kids_sound outer ns f)

-- ---- the marks of a delimiter cell

marks_same : (ns : Nodes) (m : Marks) → AreSound ns → marks_in (bytewise ns) m ≡ marks_in ns m
marks_same Nil m f = refl
marks_same (Cons (Around enter kids exit) ns) m f =
    by_cases (λ ms. marks_in ms m ≡ marks_in (Cons (Around enter kids exit) ns) m) enter kids exit ns f.0
    (λ k is none far. skipped (λ ms. marks_in ms m) (λ i ms. refl) _ k (bytewise ns)
    ∙ marks_same ns m f.1
    ∙ sym (ap₂ (λ a inside. marks_in ns (marks_in inside (mark a m))) is none))
    (ap (marks_in (bytewise ns)) (marks_same kids (mark enter.name m) f.0.1) ∙ marks_same ns (marks_in kids (mark enter.name m)) f.1)

value_same : (node : Node) → IsSound node → value_align (kept node) ≡ value_align node
value_same (Around enter kids exit) f = ap align_of (marks_same kids (marks false false false) f.1)

align_same : (ns : Nodes) → AreSound ns → table_align (bytewise ns) ≡ table_align ns
align_same ns f =
    ap (map value_align) (named_same n.GfmTableDelimiterCellValue refl ns f)
    ∙ mapped value_align value_same (named n.GfmTableDelimiterCellValue ns) (named_sound n.GfmTableDelimiterCellValue ns f)

-- ---- raw blocks

module _ (bytes : List ℕ) where
  raw_part_same : (name : Name) (enter : Event) (kids others : Nodes) (exit : Event)
      → raw_part bytes name (Around enter kids exit) ≡ raw_part bytes name (Around enter others exit)
  raw_part_same n.LineEnding enter kids others exit = refl
  raw_part_same n.CodeFlowChunk enter kids others exit = refl
  raw_part_same n.MathFlowChunk enter kids others exit = refl
  raw_part_same n.HtmlFlowData enter kids others exit = refl
  raw_part_same name enter kids others exit = refl

  pub raw_parts_same : (ns : Nodes) → AreSound ns → raw_parts bytes (bytewise ns) ≡ raw_parts bytes ns
  raw_parts_same Nil f = refl
  raw_parts_same (Cons (Around enter kids exit) ns) f =
      by_cases (λ ms. raw_parts bytes ms ≡ raw_parts bytes (Cons (Around enter kids exit) ns)) enter kids exit ns f.0
      (λ k is none far. skipped (raw_parts bytes) (λ i ms. refl) _ k (bytewise ns)
      ∙ raw_parts_same ns f.1
      ∙ sym (ap (λ a. raw_part bytes a (Around enter kids exit) ++ raw_parts bytes ns) is))
      (ap₂ (λ front back. front ++ back) (raw_part_same enter.name enter (bytewise kids) kids exit) (raw_parts_same ns f.1))

-- ---- tables

module _ (names : Names) (bytes : List ℕ) where
  cell_same : (node : Node) → IsSound node → cell_of names bytes (kept node) ≡ cell_of names bytes node
  cell_same (Around enter kids exit) f = ap in_cell (within_same names bytes false kids f.1)

  row_same : (ns : Nodes) (ends others : List LineEnding) → AreSound ns → ends ≡ others → row_of names bytes (bytewise ns) ends ≡ row_of names bytes ns others
  row_same ns ends others f same =
      let row : List Inlines → List LineEnding → TableRow = λ cells endings. record { cells = cells; endings = endings } in
      ap₂ row
      (ap (map (cell_of names bytes)) (children_same n.GfmTableCell refl ns f)
      ∙ mapped (cell_of names bytes) cell_same (children n.GfmTableCell ns) (children_sound n.GfmTableCell ns f))
      same

  ending_same : (node : Node) → IsSound node → ending_of (text_of bytes (kept node)) ≡ ending_of (text_of bytes node)
  ending_same (Around enter kids exit) f = refl

  endings_same : (ns : Nodes) → AreSound ns → endings_in names bytes (bytewise ns) ≡ endings_in names bytes ns
  endings_same ns f =
      let ending : Node → LineEnding = λ node. ending_of (text_of bytes node) in
      ap (map ending) (children_same n.LineEnding refl ns f) ∙ mapped ending ending_same (children n.LineEnding ns) (children_sound n.LineEnding ns f)

  -- the endings before the first child of a name
  before_endings : (name : Name) → IsOther name → (ns : Nodes) → AreSound ns
      → endings_in names bytes (before_child name (bytewise ns)) ≡ endings_in names bytes (before_child name ns)
  before_endings name other ns f = ap (endings_in names bytes) (before_same name other ns f) ∙ endings_same (before_child name ns) (before_sound name ns f)

  -- those between the first child of a name and that of another
  between_endings : (first second : Name) → IsOther first → IsOther second → (ns : Nodes) → AreSound ns
      → endings_in names bytes (before_child second (after_child first (bytewise ns))) ≡ endings_in names bytes (before_child second (after_child first ns))
  between_endings first second other another ns f =
      ap (λ ms. endings_in names bytes (before_child second ms)) (after_same first other ns f)
      ∙ before_endings second another (after_child first ns) (after_sound first ns f)

  row_endings_same : (ns : Nodes) → AreSound ns → endings_before_row names bytes (bytewise ns) ≡ endings_before_row names bytes ns
  row_endings_same ns f =
      ap₂ (λ b ends. if b then ends else []) (has_same n.GfmTableRow refl ns f) (before_endings n.GfmTableRow refl ns f)

  rows_same : (ns : Nodes) → AreSound ns → rows_of names bytes (bytewise ns) ≡ rows_of names bytes ns
  rows_same Nil f = refl
  rows_same (Cons (Around enter kids exit) ns) f =
      let row = row_of names bytes kids (endings_before_row names bytes ns) in
      by_cases (λ ms. rows_of names bytes ms ≡ rows_of names bytes (Cons (Around enter kids exit) ns)) enter kids exit ns f.0
      (λ k is none far. skipped (rows_of names bytes) (λ i ms. refl) _ k (bytewise ns)
      ∙ rows_same ns f.1
      ∙ sym (not_data n.GfmTableRow enter.name (row ∷ rows_of names bytes ns) (rows_of names bytes ns) is refl))
      (ap₂ (λ first others. if same_name enter.name n.GfmTableRow then first ∷ others else others)
      (row_same kids (endings_before_row names bytes (bytewise ns)) (endings_before_row names bytes ns) f.0.1 (row_endings_same ns f.1)) (rows_same ns f.1))

  head_same : (ns : Nodes) → AreSound ns
      → row_of names bytes (kids_in n.GfmTableRow (bytewise ns))
      (endings_in names bytes (before_child n.GfmTableDelimiterRow (after_child n.GfmTableRow (bytewise ns))))
      ≡ row_of names bytes (kids_in n.GfmTableRow ns) (endings_in names bytes (before_child n.GfmTableDelimiterRow (after_child n.GfmTableRow ns)))
  head_same ns f =
      let ends : Nodes → List LineEnding = λ ms. endings_in names bytes (before_child n.GfmTableDelimiterRow (after_child n.GfmTableRow ms)) in
      ap (λ ms. row_of names bytes ms (ends (bytewise ns))) (kids_same n.GfmTableRow refl ns f)
      ∙ row_same (kids_in n.GfmTableRow ns) (ends (bytewise ns)) (ends ns) (kids_sound n.GfmTableRow ns f)
      (between_endings n.GfmTableRow n.GfmTableDelimiterRow refl refl ns f)

  pub table_same : (ns : Nodes) → AreSound ns → table_of names bytes (bytewise ns) ≡ table_of names bytes ns
  table_same ns f =
      let head = kids_in n.GfmTableHead ns in
      let sound = kids_sound n.GfmTableHead ns f in
      let cut = kids_same n.GfmTableHead refl ns f in
      let row : Nodes → TableRow = λ ms. row_of names bytes (kids_in n.GfmTableRow ms)
      (endings_in names bytes (before_child n.GfmTableDelimiterRow (after_child n.GfmTableRow ms))) in
      let table : List _ → TableRow → List LineEnding → List TableRow → Table = λ aligns first endings rows.
      record { aligns = aligns; head = first; endings = endings; rows = rows } in
      let ends = endings_in names bytes (before_child n.GfmTableBody (after_child n.GfmTableHead (bytewise ns))) in
      ap₂ (λ aligns first. table aligns first ends (rows_of names bytes (kids_in n.GfmTableBody (bytewise ns))))
      (ap table_align cut ∙ align_same head sound) (ap row cut ∙ head_same head sound)
      ∙ ap₂ (table (table_align head) (row head)) (between_endings n.GfmTableHead n.GfmTableBody refl refl ns f)
      (ap (rows_of names bytes) (kids_same n.GfmTableBody refl ns f) ∙ rows_same (kids_in n.GfmTableBody ns) (kids_sound n.GfmTableBody ns f))
