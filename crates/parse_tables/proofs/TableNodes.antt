-- What the nodes of a table spell (GFM 4.10).
use Rattle.std.proofs.Common.{◌≡◌, ℕ, true, false, List, [], ◌∷◌, ◌++◌, Option, None, Some, drop, is_some, map, inl, inr, refl, sym, ap, ap₂, subst, ◌∙◌}
use Rattle.parse_tables.proofs.Prelude.{AlignKind, AllZip, append, append-nil, AreBody, AreEnding, AreMeanings, AreOnNextLine, ArePartsAlike, AreQuiet}
use Rattle.parse_tables.proofs.Prelude.{AreRowNodes, AreTablesAlike, Around, BlockLine, cases_Bool, cell_of, children, cond-false, cond-true, Cons, delimiters}
use Rattle.parse_tables.proofs.Prelude.{if◌then◌else◌, IsHeadNode, IsRowNode, kids_of, line_cells, LineEnding, map-append, Meaning, Name, named, named_both}
use Rattle.parse_tables.proofs.Prelude.{Nil, Node, node_name, Nodes, one, own_lines, read_cell, read_table, Reading, same_name, table_of, value_align}
use Rattle.std.specs.Prelude.{unwrap_or}
use Rattle.markdown_options.specs.declared.line_ending.LineEnding.TheVariants.{CarriageReturnLineFeed, CarriageReturn, LineFeed}
use Rattle.markdown_options.specs.LineEndings.{ending_bytes}
use Rattle.definition_inline.specs.CharacterReference.{Names}
use Rattle.definition_page.specs.GfmTable.{TableRow, delimiter_line, line_aligns}
use Rattle.definition_page.specs.Read.{ending_list, read_row}
use Rattle.engine_events.specs.Names.{is_listed}
use Rattle.engine_events.specs.declared.event.Name.TheVariants as n
use Rattle.event_check.specs.Align.{table_align}
use Rattle.event_grammar.specs.References.{named_in}
use Rattle.event_meaning.specs.Children.{after_child, before_child, child, inside_of, kids_in, text_of}
use Rattle.event_meaning.specs.GfmTable.{endings_before_row, endings_in, row_of, rows_of}
use Rattle.event_meaning.specs.Raw.{ending_of}
use Rattle.parse_lines.specs.Quiet.{IsQuiet, quiet_names}
use Rattle.parse_lines.proofs.Quiet.{quiet_named}
use Rattle.parse_alike.specs.GfmTable.{AreRowsAlike}
use Rattle.parse_raw.proofs.Nodes.{before_append, child_append}
use Rattle.parse_tables.proofs.CellNodes.{children_both, children_first, children_other}

-- ---- the first child of a name

child_first : (name : Name) (node : Node) (ns : Nodes) → same_name (node_name node) name ≡ true → child name (Cons node ns) ≡ Some node
child_first name node ns is = cond-true (same_name (node_name node) name) (Some node) (child name ns) is

before_first : (name : Name) (node : Node) (ns : Nodes) → same_name (node_name node) name ≡ true → before_child name (Cons node ns) ≡ Nil
before_first name node ns is = cond-true (same_name (node_name node) name) Nil (Cons node (before_child name ns)) is

after_first : (name : Name) (node : Node) (ns : Nodes) → same_name (node_name node) name ≡ true → after_child name (Cons node ns) ≡ ns
after_first name node ns is = cond-true (same_name (node_name node) name) ns (after_child name ns) is

child_other : (name : Name) (node : Node) (ns : Nodes) → same_name (node_name node) name ≡ false → child name (Cons node ns) ≡ child name ns
child_other name node ns is = cond-false (same_name (node_name node) name) (Some node) (child name ns) is

-- ---- nodes that spell nothing

-- a name that stands neither in them nor on endings
record IsApart (name : Name) : Type 0 where
  space : same_name n.SpaceOrTab name ≡ false
  prefix : same_name n.BlockQuotePrefix name ≡ false
  ending : same_name n.LineEnding name ≡ false

quiet_name : (name : Name) (node : Node) → IsQuiet node → same_name n.SpaceOrTab name ≡ false → same_name n.BlockQuotePrefix name ≡ false
    → same_name (node_name node) name ≡ false
quiet_name name node (inl h) space prefix = ap (λ (x : Name). same_name x name) h.0 ∙ space
quiet_name name node (inr h) space prefix = ap (λ (x : Name). same_name x name) h.0 ∙ prefix

quiet_child : (name : Name) (ns : Nodes) → AreQuiet ns → same_name n.SpaceOrTab name ≡ false → same_name n.BlockQuotePrefix name ≡ false → child name ns ≡ None
quiet_child name Nil are space prefix = refl
quiet_child name (Cons node ns) are space prefix =
    child_other name node ns (quiet_name name node are.0 space prefix) ∙ quiet_child name ns are.1 space prefix

quiet_children : (name : Name) (ns : Nodes) → AreQuiet ns → same_name n.SpaceOrTab name ≡ false → same_name n.BlockQuotePrefix name ≡ false
    → children name ns ≡ []
quiet_children name Nil are space prefix = refl
quiet_children name (Cons node ns) are space prefix =
    children_other name node ns (quiet_name name node are.0 space prefix) ∙ quiet_children name ns are.1 space prefix

-- ---- endings

ending_child : (text : List ℕ) (name : Name) (ending : Option LineEnding) (ns : Nodes) → AreEnding text n.LineEnding ending ns
    → same_name n.LineEnding name ≡ false → child name ns ≡ None
ending_child text name None ns are other = ap (child name) are
ending_child text name (Some ending) ns are other =
    ap (child name) are.1 ∙ child_other name are.0 Nil (ap (λ (x : Name). same_name x name) are.2 ∙ other)

void_named : (name : Name) (node : Node) → same_name (node_name node) name ≡ false → kids_of node ≡ Nil → named name (one node) ≡ []
void_named name (Around enter kids exit) other none =
    ap (λ (xs : List Node). xs ++ [])
    (cond-false (same_name enter.name name) (Around enter kids exit ∷ named name kids) (named name kids) other ∙ ap (named name) none)

ending_named : (text : List ℕ) (name : Name) (ending : Option LineEnding) (ns : Nodes) → AreEnding text n.LineEnding ending ns
    → same_name n.LineEnding name ≡ false → named name ns ≡ []
ending_named text name None ns are other = ap (named name) are
ending_named text name (Some ending) ns are other =
    ap (named name) are.1 ∙ void_named name are.0 (ap (λ (x : Name). same_name x name) are.2 ∙ other) are.3

ending_is : (ending : LineEnding) → ending_of (ending_bytes ending) ≡ ending
ending_is CarriageReturnLineFeed = refl
ending_is CarriageReturn = refl
ending_is LineFeed = refl

-- ---- nodes on the next line

module _ (names : Names) (text : List ℕ) (ending : Option LineEnding) where
  ending_ended : (ns : Nodes) → AreEnding text n.LineEnding ending ns → endings_in names text ns ≡ ending_list ending
  ending_ended ns are = by_ending ending are
    where
      by_ending : (e : Option LineEnding) → AreEnding text n.LineEnding e ns → endings_in names text ns ≡ ending_list e
      by_ending None is = ap (endings_in names text) is
      by_ending (Some e) is =
          ap (endings_in names text) is.1
          ∙ ap (map (λ node. ending_of (text_of text node)))
          (children_first n.LineEnding is.0 Nil (ap (λ (x : Name). same_name x n.LineEnding) is.2))
          ∙ ap (λ (bs : List ℕ). ending_of bs ∷ []) is.4
          ∙ ap (λ (x : LineEnding). x ∷ []) (ending_is e)

  -- up to some others, they have this ending and those of the others
  next_endings : (ns ms others : Nodes) → AreEnding text n.LineEnding ending ns → AreQuiet ms
      → endings_in names text (append ns (append ms others)) ≡ ending_list ending ++ endings_in names text others
  next_endings ns ms others are quiet =
      let own = λ (node : Node). ending_of (text_of text node) in
      let rest : children n.LineEnding (append ms others) ≡ children n.LineEnding others =
      children_both n.LineEnding ms others ∙ ap (λ (xs : List Node). xs ++ children n.LineEnding others) (quiet_children n.LineEnding ms quiet refl refl) in
      ap (map own) (children_both n.LineEnding ns (append ms others) ∙ ap (λ (xs : List Node). children n.LineEnding ns ++ xs) rest)
      ∙ map-append own (children n.LineEnding ns) (children n.LineEnding others)
      ∙ ap (λ (xs : List LineEnding). xs ++ endings_in names text others) (ending_ended ns are)

  module _ (name : Name) (apart : IsApart name) (others ns : Nodes) (on : AreOnNextLine text ending others ns) where
    next_child : child name ns ≡ child name others
    next_child =
        ap (child name) on.all
        ∙ child_append name on.ends (append on.quiet others) (ending_child text name ending on.ends on.are_ending apart.ending)
        ∙ child_append name on.quiet others (quiet_child name on.quiet on.are_quiet apart.space apart.prefix)

    next_before : endings_in names text (before_child name ns) ≡ ending_list ending ++ endings_in names text (before_child name others)
    next_before =
        let all : before_child name ns ≡ append on.ends (append on.quiet (before_child name others)) =
        ap (before_child name) on.all
        ∙ before_append name on.ends (append on.quiet others) (ending_child text name ending on.ends on.are_ending apart.ending)
        ∙ ap (append on.ends) (before_append name on.quiet others (quiet_child name on.quiet on.are_quiet apart.space apart.prefix)) in
        ap (endings_in names text) all ∙ next_endings on.ends on.quiet (before_child name others) on.are_ending on.are_quiet

    next_named : is_listed quiet_names name ≡ false → named name ns ≡ named name others
    next_named elsewhere =
        ap (named name) on.all
        ∙ named_both name on.ends (append on.quiet others)
        ∙ ap₂ (λ (xs ys : List Node). xs ++ ys) (ending_named text name ending on.ends on.are_ending apart.ending)
        (named_both name on.quiet others ∙ ap (λ (xs : List Node). xs ++ named name others) (quiet_named name on.quiet elsewhere on.are_quiet))

  -- before the first of a name
  next_before_first : (name : Name) (apart : IsApart name) (node : Node) (more ns : Nodes) → same_name (node_name node) name ≡ true
      → AreOnNextLine text ending (Cons node more) ns → endings_in names text (before_child name ns) ≡ ending_list ending
  next_before_first name apart node more ns is on =
      next_before name apart (Cons node more) ns on
      ∙ ap (λ (ms : Nodes). ending_list ending ++ endings_in names text ms) (before_first name node more is)
      ∙ append-nil (ending_list ending)

-- ---- rows

row_apart : IsApart n.GfmTableRow
row_apart = record { space = refl; prefix = refl; ending = refl }

module _ (r : Reading) (text : List ℕ) where
  is_row_name : (line : BlockLine) (node : Node) → IsRowNode r text line node → same_name (node_name node) n.GfmTableRow ≡ true
  is_row_name line node row = ap (λ (x : Name). same_name x n.GfmTableRow) row.name

  rows_first : (node : Node) (ns : Nodes) → same_name (node_name node) n.GfmTableRow ≡ true
      → rows_of r.tables.names text (Cons node ns)
      ≡ row_of r.tables.names text (kids_of node) (endings_before_row r.tables.names text ns) ∷ rows_of r.tables.names text ns
  rows_first node ns is =
      cond-true (same_name (node_name node) n.GfmTableRow)
      (row_of r.tables.names text (kids_of node) (endings_before_row r.tables.names text ns) ∷ rows_of r.tables.names text ns)
      (rows_of r.tables.names text ns) is

  rows_skip : (ns ms : Nodes) → child n.GfmTableRow ns ≡ None → rows_of r.tables.names text (append ns ms) ≡ rows_of r.tables.names text ms
  rows_skip Nil ms none = refl
  rows_skip (Cons node ns) ms none =
      elim (cases_Bool (same_name (node_name node) n.GfmTableRow)) [
        | inl is ↦ let some = sym (child_first n.GfmTableRow node ns is) ∙ none in absurd (cc)
        | inr is ↦
            cond-false (same_name (node_name node) n.GfmTableRow)
            (row_of r.tables.names text (kids_of node) (endings_before_row r.tables.names text (append ns ms)) ∷ rows_of r.tables.names text (append ns ms))
            (rows_of r.tables.names text (append ns ms)) is
            ∙ rows_skip ns ms (sym (child_other n.GfmTableRow node ns is) ∙ none)
      ]

  rows_next : (ending : Option LineEnding) (others ns : Nodes) → AreOnNextLine text ending others ns
      → rows_of r.tables.names text ns ≡ rows_of r.tables.names text others
  rows_next ending others ns on =
      ap (rows_of r.tables.names text) on.all
      ∙ rows_skip on.ends (append on.quiet others) (ending_child text n.GfmTableRow ending on.ends on.are_ending refl)
      ∙ rows_skip on.quiet others (quiet_child n.GfmTableRow on.quiet on.are_quiet refl refl)

  -- the endings before the next row
  endings_next : (ending : Option LineEnding) (line : BlockLine) (node : Node) (more ns : Nodes) → AreOnNextLine text ending (Cons node more) ns
      → IsRowNode r text line node → endings_before_row r.tables.names text ns ≡ ending_list ending
  endings_next ending line node more ns on row =
      let is = is_row_name line node row in
      let found : child n.GfmTableRow ns ≡ Some node =
      next_child r.tables.names text ending n.GfmTableRow row_apart (Cons node more) ns on ∙ child_first n.GfmTableRow node more is in
      ap (λ (o : Option Node). if is_some o then endings_in r.tables.names text (before_child n.GfmTableRow ns) else []) found
      ∙ next_before_first r.tables.names text ending n.GfmTableRow row_apart node more ns is on

  module _ (m m' : Meaning) (are : AreMeanings r.parse.constructs r.tables.names m m') where
    -- rows, the first of which is here
    pub rows_spell : (line : BlockLine) (others : List BlockLine) (node : Node) (more : Nodes) → IsRowNode r text line node
        → AreRowNodes r text line.ending others more
        → AllZip (AreRowsAlike m m') (map (read_row r) (own_lines (line ∷ others))) (rows_of r.tables.names text (Cons node more))
    rows_spell line [] node more row none =
        subst (λ (rows : List TableRow). AllZip (AreRowsAlike m m') (map (read_row r) (own_lines (line ∷ []))) rows)
        (sym (ap (λ ns. rows_of r.tables.names text (Cons node ns)) none ∙ rows_first node Nil (is_row_name line node row)))
        ((row.spell m m' are, refl), tt)
    rows_spell line (next ∷ others) node more row rows =
        let is = is_row_name line node row in
        let endings : endings_before_row r.tables.names text more ≡ ending_list line.ending = endings_next line.ending next rows.0 rows.1 more rows.2 rows.3 in
        let all : rows_of r.tables.names text (Cons node more)
        ≡ row_of r.tables.names text (kids_of node) (ending_list line.ending) ∷ rows_of r.tables.names text (Cons rows.0 rows.1) =
        rows_first node more is
        ∙ ap₂ (λ (es : List LineEnding) (xs : List TableRow). row_of r.tables.names text (kids_of node) es ∷ xs) endings
        (rows_next line.ending (Cons rows.0 rows.1) more rows.2) in
        subst (λ (xs : List TableRow). AllZip (AreRowsAlike m m') (map (read_row r) (own_lines (line ∷ next ∷ others))) xs) (sym all)
        ((row.spell m m' are, refl), rows_spell next others rows.0 rows.1 rows.3 rows.4)

-- ---- definitions

module _ (r : Reading) (text : List ℕ) (name : Name) (apart : IsApart name) (elsewhere : is_listed quiet_names name ≡ false)
    (none_in_rows : (line : BlockLine) (node : Node) → IsRowNode r text line node → named name (one node) ≡ []) where
  none_in_row : (line : BlockLine) (node : Node) → IsRowNode r text line node → named_in name node ≡ []
  none_in_row line node row = sym (append-nil (named_in name node)) ∙ none_in_rows line node row

  none_named : (ending : Option LineEnding) (lines : List BlockLine) (ns : Nodes) → AreRowNodes r text ending lines ns → named name ns ≡ []
  none_named ending [] ns are = ap (named name) are
  none_named ending (line ∷ others) ns are =
      next_named r.tables.names text ending name apart (Cons are.0 are.1) ns are.2 elsewhere
      ∙ ap₂ (λ (xs ys : List Node). xs ++ ys) (none_in_row line are.0 are.3) (none_named line.ending others are.1 are.4)

-- what is in a node of another name
named_inside : (name : Name) (node : Node) → same_name (node_name node) name ≡ false → named name (one node) ≡ named name (kids_of node)
named_inside name (Around enter kids exit) other =
    append-nil (named_in name (Around enter kids exit))
    ∙ cond-false (same_name enter.name name) (Around enter kids exit ∷ named name kids) (named name kids) other

-- ---- the head

column_apart : IsApart n.GfmTableDelimiterCellValue
column_apart = record { space = refl; prefix = refl; ending = refl }

definition_apart : IsApart n.Definition
definition_apart = record { space = refl; prefix = refl; ending = refl }

delimiters_apart : IsApart n.GfmTableDelimiterRow
delimiters_apart = record { space = refl; prefix = refl; ending = refl }

body_apart : IsApart n.GfmTableBody
body_apart = record { space = refl; prefix = refl; ending = refl }

module _ (r : Reading) (text : List ℕ) (line : BlockLine) (ending : Option LineEnding) (columns : List AlignKind) (node : Node)
    (head : IsHeadNode r text line ending columns node) where
  head_kids : (name : Name) → IsApart name → is_listed quiet_names name ≡ false → named name (one head.row) ≡ []
      → named name (kids_of node) ≡ named name (one head.delimiters)
  head_kids name apart elsewhere none =
      ap (named name) head.kids
      ∙ ap₂ (λ (xs ys : List Node). xs ++ ys) (sym (append-nil (named_in name head.row)) ∙ none)
      (next_named r.tables.names text ending name apart (append head.space (one head.delimiters)) head.others head.on_next elsewhere
      ∙ named_both name head.space (one head.delimiters)
      ∙ ap (λ (xs : List Node). xs ++ named name (one head.delimiters)) (quiet_named name head.space elsewhere head.are_quiet))

  head_aligns : table_align (kids_of node) ≡ columns
  head_aligns = ap (map value_align) (head_kids n.GfmTableDelimiterCellValue column_apart refl head.is_row.in_row.columns) ∙ head.aligns

  head_definitions : named n.Definition (one node) ≡ []
  head_definitions =
      named_inside n.Definition node (ap (λ (x : Name). same_name x n.Definition) head.name)
      ∙ head_kids n.Definition definition_apart refl head.is_row.in_row.definitions ∙ head.definitions

  head_row : kids_in n.GfmTableRow (kids_of node) ≡ kids_of head.row
  head_row =
      ap (kids_in n.GfmTableRow) head.kids ∙ ap inside_of (child_first n.GfmTableRow head.row head.others (is_row_name r text line head.row head.is_row))

  head_endings : endings_in r.tables.names text (before_child n.GfmTableDelimiterRow (after_child n.GfmTableRow (kids_of node))) ≡ ending_list ending
  head_endings =
      let own = endings_in r.tables.names text in
      let delimiters_first = ap (λ (x : Name). same_name x n.GfmTableDelimiterRow) head.delimiters_name in
      let nothing : own (append head.space Nil) ≡ [] =
      ap (map (λ (x : Node). ending_of (text_of text x)))
      (children_both n.LineEnding head.space Nil ∙ ap (λ (xs : List Node). xs ++ []) (quiet_children n.LineEnding head.space head.are_quiet refl refl)) in
      ap (λ (ns : Nodes). own (before_child n.GfmTableDelimiterRow (after_child n.GfmTableRow ns))) head.kids
      ∙ ap (λ (ns : Nodes). own (before_child n.GfmTableDelimiterRow ns))
      (after_first n.GfmTableRow head.row head.others (is_row_name r text line head.row head.is_row))
      ∙ next_before r.tables.names text ending n.GfmTableDelimiterRow delimiters_apart (append head.space (one head.delimiters)) head.others head.on_next
      ∙ ap (λ (ns : Nodes). ending_list ending ++ own ns)
      (before_append n.GfmTableDelimiterRow head.space (one head.delimiters) (quiet_child n.GfmTableDelimiterRow head.space head.are_quiet refl refl)
      ∙ ap (append head.space) (before_first n.GfmTableDelimiterRow head.delimiters Nil delimiters_first))
      ∙ ap (λ (xs : List LineEnding). ending_list ending ++ xs) nothing
      ∙ append-nil (ending_list ending)

-- ---- the body

module _ (r : Reading) (text : List ℕ) where
  body_rows : (ending : Option LineEnding) (lines : List BlockLine) (ns : Nodes) → AreBody r text ending lines ns
      → (m m' : Meaning) → AreMeanings r.parse.constructs r.tables.names m m'
      → AllZip (AreRowsAlike m m') (map (read_row r) (own_lines lines)) (rows_of r.tables.names text (kids_in n.GfmTableBody ns))
  body_rows ending [] ns body m m' are =
      subst (λ (xs : Nodes). AllZip (AreRowsAlike m m') [] (rows_of r.tables.names text (kids_in n.GfmTableBody xs))) (sym body) tt
  body_rows ending (line ∷ others) ns body m m' are =
      let found : kids_in n.GfmTableBody ns ≡ Cons body.1 body.2 =
      ap inside_of (next_child r.tables.names text ending n.GfmTableBody body_apart (one body.0) ns body.3
      ∙ child_first n.GfmTableBody body.0 Nil (ap (λ (x : Name). same_name x n.GfmTableBody) body.4)) ∙ body.5 in
      subst (λ (xs : Nodes). AllZip (AreRowsAlike m m') (map (read_row r) (own_lines (line ∷ others))) (rows_of r.tables.names text xs)) (sym found)
      (rows_spell r text m m' are line others body.1 body.2 body.6 body.7)

  body_endings : (head row : BlockLine) (lines : List BlockLine) (ns : Nodes) → AreBody r text row.ending lines ns
      → endings_in r.tables.names text (before_child n.GfmTableBody ns) ≡ ending_list (delimiter_line (own_lines (head ∷ row ∷ lines))).ending
  body_endings head row [] ns body = ap (λ (xs : Nodes). endings_in r.tables.names text (before_child n.GfmTableBody xs)) body
  body_endings head row (line ∷ others) ns body =
      next_before_first r.tables.names text row.ending n.GfmTableBody body_apart body.0 Nil ns (ap (λ (x : Name). same_name x n.GfmTableBody) body.4) body.3

  body_definitions : (ending : Option LineEnding) (lines : List BlockLine) (ns : Nodes) → AreBody r text ending lines ns → named n.Definition ns ≡ []
  body_definitions ending [] ns body = ap (named n.Definition) body
  body_definitions ending (line ∷ others) ns body =
      let in_rows = λ (l : BlockLine) (x : Node) (row : IsRowNode r text l x). row.in_row.definitions in
      next_named r.tables.names text ending n.Definition definition_apart (one body.0) ns body.3 refl
      ∙ named_inside n.Definition body.0 (ap (λ (x : Name). same_name x n.Definition) body.4)
      ∙ ap (named n.Definition) body.5
      ∙ ap₂ (λ (xs ys : List Node). xs ++ ys) (none_in_row r text n.Definition definition_apart refl in_rows line body.1 body.6)
      (none_named r text n.Definition definition_apart refl in_rows line.ending others body.2 body.7)

-- ---- the table

own_columns : (head row : BlockLine) (others : List BlockLine) (columns : List AlignKind) → delimiters row.codes ≡ Some columns
    → line_aligns (delimiter_line (own_lines (head ∷ row ∷ others))) ≡ columns
own_columns head row [] columns is = ap (λ (o : Option (List AlignKind)). unwrap_or o []) is
own_columns head row (line ∷ others) columns is = ap (λ (o : Option (List AlignKind)). unwrap_or o []) is

own_rows : (row : BlockLine) (others : List BlockLine) → drop 1 (own_lines (row ∷ others)) ≡ own_lines others
own_rows row [] = refl
own_rows row (line ∷ others) = refl

module _ (r : Reading) (text : List ℕ) (head row : BlockLine) (others : List BlockLine) (columns : List AlignKind) (first : Node) (ns : Nodes)
    (is_head : IsHeadNode r text head head.ending columns first) (is_body : AreBody r text row.ending others ns) where
  pub table_spells : (m m' : Meaning) → AreMeanings r.parse.constructs r.tables.names m m' → delimiters row.codes ≡ Some columns
      → AreTablesAlike m m' (read_table r (own_lines (head ∷ row ∷ others))) (table_of r.tables.names text (Cons first ns))
  table_spells m m' are found =
      let names = r.tables.names in
      let is = ap (λ (x : Name). same_name x n.GfmTableHead) is_head.name in
      let kids : kids_in n.GfmTableHead (Cons first ns) ≡ kids_of first = ap inside_of (child_first n.GfmTableHead first ns is) in
      let after : after_child n.GfmTableHead (Cons first ns) ≡ ns = after_first n.GfmTableHead first ns is in
      let cells : kids_in n.GfmTableRow (kids_in n.GfmTableHead (Cons first ns)) ≡ kids_of is_head.row =
      ap (kids_in n.GfmTableRow) kids ∙ head_row r text head head.ending columns first is_head in (
        own_columns head row others columns found ∙ sym (ap table_align kids ∙ head_aligns r text head head.ending columns first is_head),
        (
          subst (λ (xs : Nodes). AllZip (ArePartsAlike m m') (map (read_cell r) (line_cells head)) (map (cell_of names text) (children n.GfmTableCell xs)))
              (sym cells) (is_head.is_row.spell m m' are),
          sym (ap (λ (xs : Nodes). endings_in names text (before_child n.GfmTableDelimiterRow (after_child n.GfmTableRow xs))) kids
              ∙ head_endings r text head head.ending columns first is_head),
        ),
        sym (ap (λ (xs : Nodes). endings_in names text (before_child n.GfmTableBody xs)) after ∙ body_endings r text head row others ns is_body),
        subst (λ (xs : List BlockLine). AllZip (AreRowsAlike m m') (map (read_row r) xs) (rows_of names text (kids_in n.GfmTableBody (Cons first ns))))
            (sym (own_rows row others))
            (subst (λ (o : Option Node). AllZip (AreRowsAlike m m') (map (read_row r) (own_lines others)) (rows_of names text (inside_of o)))
            (sym (child_other n.GfmTableBody first ns (ap (λ (x : Name). same_name x n.GfmTableBody) is_head.name)))
            (body_rows r text row.ending others ns is_body m m' are)),
      )

  pub table_definitions : named n.Definition (Cons first ns) ≡ []
  table_definitions =
      ap₂ (λ (xs ys : List Node). xs ++ ys)
      (sym (append-nil (named_in n.Definition first)) ∙ head_definitions r text head head.ending columns first is_head)
      (body_definitions r text row.ending others ns is_body)
