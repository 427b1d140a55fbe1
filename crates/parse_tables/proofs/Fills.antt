-- The nodes of a table fill rows of the grammar (GFM 4.10).
use Rattle.std.proofs.Common.{◌≡◌, ◌<◌, ◌++◌, ℕ, List, [], ◌∷◌, Option, None, Some, inl, inr, refl, sym, ap₂, subst}
use Rattle.parse_tables.proofs.Prelude.{AlignKind, append, AreBody, AreEnding, AreOnNextLine, AreRowNodes, BlockLine, Cons, End, IsHeadNode, kids_of}
use Rattle.parse_tables.proofs.Prelude.{LineEnding, Nil, Node, node_name, Nodes, one, Reading, void_nodes}
use Rattle.engine_events.specs.declared.event.Name.TheVariants as n
use Rattle.event_grammar.specs.declared.slot.Between.TheVariants.{Lines, Spaces}
use Rattle.event_grammar.specs.declared.slot.Form.TheVariants.{Plain}
use Rattle.event_grammar.specs.declared.slot.Slot.{Slot}
use Rattle.event_grammar.specs.Grammar.{many, one as one_slot, opt, row, text_row}
use Rattle.parse_slots.specs.Left.{Fill, IsFilled, TakesNoBetween}
use Rattle.parse_slots.proofs.Steps.{fill_between, fill_both, fill_none, fill_taken, filled_by, filled_void}
use Rattle.parse_slots.proofs.Voids.{further_apart, void_again, void_between, void_taken}
use Rattle.parse_lines.proofs.Quiet.{quiet_fill}
use Rattle.parse_links.specs.Tails.{FillsTo, MayEnd}
use Rattle.parse_leaves.proofs.Fills.{text_filled}
use Rattle.parse_tables.specs.Cells.{AreRowParts, cells_row}
use Rattle.parse_tables.specs.Columns.{AreFirstColumns, delimiters_rest, FillColumns}

-- ---- cells

-- white space in a cell
pub cell_space : (text : List ℕ) (from to : End) → FillsTo (row n.GfmTableCell Plain) MayEnd Spaces (void_nodes text n.SpaceOrTab from to)
cell_space text from to = record {
  rest = row n.GfmTableCell Plain;
  fill = void_between Spaces (row n.GfmTableCell Plain) n.SpaceOrTab text from to refl refl refl refl;
  ends = refl;
}

-- the text of a cell
pub cell_text : (node : Node) → node_name node ≡ n.GfmTableCellText → Fill Spaces text_row (kids_of node) text_row
    → FillsTo (row n.GfmTableCell Plain) MayEnd Spaces (one node)
cell_text node is fill =
    let bars = many n.GfmTableCellDivider ∷ [] in
    record {
      rest = bars;
      fill =
          fill_taken Spaces (row n.GfmTableCell Plain) n.GfmTableCellText Plain bars node is refl
          (text_filled Spaces n.GfmTableCellText node is refl fill);
      ends = refl;
    }

-- the parts of a row
pub space_part : (text : List ℕ) (from to : End) → AreRowParts (void_nodes text n.SpaceOrTab from to)
space_part text from to = void_between Spaces cells_row n.SpaceOrTab text from to refl refl refl refl

pub bar_part : (text : List ℕ) (from to : End) → AreRowParts (void_nodes text n.GfmTableCellDivider from to)
bar_part text from to = void_again Spaces cells_row n.GfmTableCellDivider Plain text from to refl refl refl

pub cell_part : (node : Node) → node_name node ≡ n.GfmTableCell → IsFilled Spaces Plain node → AreRowParts (one node)
cell_part node is filled = fill_taken Spaces cells_row n.GfmTableCell Plain cells_row node is refl filled

pub row_filled : (node : Node) → node_name node ≡ n.GfmTableRow → AreRowParts (kids_of node) → IsFilled Lines Plain node
row_filled node is parts = filled_by Lines Plain n.GfmTableRow cells_row node is parts refl

-- ---- delimiters

abbrev all_delimiters : List Slot
all_delimiters = row n.GfmTableDelimiterRow Plain

pub no_columns : FillColumns [] Nil
no_columns = record { first = inl (refl, fill_none Spaces all_delimiters); more = fill_none Spaces delimiters_rest }

pub space_columns : (text : List ℕ) (from to : End) → FillColumns [] (void_nodes text n.SpaceOrTab from to)
space_columns text from to = record {
  first = inl (refl, void_between Spaces all_delimiters n.SpaceOrTab text from to refl refl refl refl);
  more = void_between Spaces delimiters_rest n.SpaceOrTab text from to refl refl refl refl;
}

pub bar_columns : (text : List ℕ) (from to : End) → from.index < to.index → FillColumns [] (void_nodes text n.GfmTableCellDivider from to)
bar_columns text from to further = record {
  first =
      inr (void_taken Spaces all_delimiters n.GfmTableCellDivider Plain delimiters_rest text from to (further_apart from to further) refl refl refl);
  more = void_again Spaces delimiters_rest n.GfmTableCellDivider Plain text from to refl refl refl;
}

pub cell_columns : (columns : List AlignKind) (node : Node) → node_name node ≡ n.GfmTableDelimiterCell → IsFilled Spaces Plain node
    → FillColumns columns (one node)
cell_columns columns node is filled = record {
  first = inr (fill_taken Spaces all_delimiters n.GfmTableDelimiterCell Plain delimiters_rest node is refl filled);
  more = fill_taken Spaces delimiters_rest n.GfmTableDelimiterCell Plain delimiters_rest node is refl filled;
}

first_both : (cs ds : List AlignKind) (ns ms : Nodes) → AreFirstColumns cs ns → AreFirstColumns ds ms → Fill Spaces delimiters_rest ms delimiters_rest
    → AreFirstColumns (cs ++ ds) (append ns ms)
first_both cs ds ns ms (inl a) (inl b) more = inl (ap₂ (λ (xs ys : List AlignKind). xs ++ ys) a.0 b.0, fill_both a.1 b.1)
first_both cs ds ns ms (inl a) (inr b) more = inr (fill_both a.1 b)
first_both cs ds ns ms (inr a) b more = inr (fill_both a more)

pub columns_both : (cs ds : List AlignKind) (ns ms : Nodes) → FillColumns cs ns → FillColumns ds ms → FillColumns (cs ++ ds) (append ns ms)
columns_both cs ds ns ms a b = record { first = first_both cs ds ns ms a.first b.first b.more; more = fill_both a.more b.more }

-- the row of delimiters, which has columns
pub delimiters_filled : (columns : List AlignKind) (node : Node) → node_name node ≡ n.GfmTableDelimiterRow → (columns ≡ [] → ⊥)
    → FillColumns columns (kids_of node) → IsFilled Lines Plain node
delimiters_filled columns node is some fill =
    elim (fill.first) [
      | inl empty ↦ absurd (some empty.0)
      | inr first ↦ filled_by Lines Plain n.GfmTableDelimiterRow delimiters_rest node is first refl
    ]

-- ---- lines

-- the ending of a line, nodes that spell nothing, and then others
endings_fill : (slots : List Slot) (text : List ℕ) (ending : Option LineEnding) (ns : Nodes) → TakesNoBetween slots → AreEnding text n.LineEnding ending ns
    → Fill Lines slots ns slots
endings_fill slots text None ns takes are = subst (λ (ms : Nodes). Fill Lines slots ms slots) (sym are) (fill_none Lines slots)
endings_fill slots text (Some ending) ns takes are =
    subst (λ (ms : Nodes). Fill Lines slots ms slots) (sym are.1)
    (fill_between Lines slots n.LineEnding are.0 are.2 takes.ending refl (filled_void Lines Plain n.LineEnding are.0 are.2 are.3 refl))

next_fill : (slots rest : List Slot) (text : List ℕ) (ending : Option LineEnding) (others ns : Nodes) → TakesNoBetween slots
    → AreOnNextLine text ending others ns → Fill Lines slots others rest → Fill Lines slots ns rest
next_fill slots rest text ending others ns takes on fill =
    subst (λ (ms : Nodes). Fill Lines slots ms rest) (sym on.all)
    (fill_both (endings_fill slots text ending on.ends takes on.are_ending) (fill_both (quiet_fill slots on.quiet takes.space takes.quote on.are_quiet) fill))

-- ---- tables

abbrev more_rows : List Slot
more_rows = many n.GfmTableRow ∷ []

abbrev under_row : List Slot
under_row = one_slot n.GfmTableDelimiterRow ∷ []

abbrev body_row : List Slot
body_row = opt n.GfmTableBody ∷ []

rows_fill : (r : Reading) (text : List ℕ) (ending : Option LineEnding) (lines : List BlockLine) (ns : Nodes) → AreRowNodes r text ending lines ns
    → Fill Lines more_rows ns more_rows
rows_fill r text ending [] ns are = subst (λ (ms : Nodes). Fill Lines more_rows ms more_rows) (sym are) (fill_none Lines more_rows)
rows_fill r text ending (line ∷ others) ns are =
    next_fill more_rows more_rows text ending (Cons are.0 are.1) ns (record { space = refl; ending = refl; blank = refl; quote = refl }) are.2
    (fill_both (fill_taken Lines more_rows n.GfmTableRow Plain more_rows are.0 are.3.name refl are.3.filled)
    (rows_fill r text line.ending others are.1 are.4))

head_filled : (r : Reading) (text : List ℕ) (line : BlockLine) (ending : Option LineEnding) (columns : List AlignKind) (node : Node)
    → IsHeadNode r text line ending columns node → IsFilled Lines Plain node
head_filled r text line ending columns node head =
    filled_by Lines Plain n.GfmTableHead [] node head.name
    (subst (λ (ns : Nodes). Fill Lines (row n.GfmTableHead Plain) ns []) (sym head.kids)
    (fill_both (fill_taken Lines (row n.GfmTableHead Plain) n.GfmTableRow Plain under_row head.row head.is_row.name refl head.is_row.filled)
    (next_fill under_row [] text ending (append head.space (one head.delimiters)) head.others
    (record { space = refl; ending = refl; blank = refl; quote = refl }) head.on_next
    (fill_both (quiet_fill under_row head.space refl refl head.are_quiet)
    (fill_taken Lines under_row n.GfmTableDelimiterRow Plain [] head.delimiters head.delimiters_name refl head.delimiters_filled))))) refl

body_fill : (r : Reading) (text : List ℕ) (ending : Option LineEnding) (lines : List BlockLine) (ns : Nodes) → AreBody r text ending lines ns
    → FillsTo body_row MayEnd Lines ns
body_fill r text ending [] ns are = record {
  rest = body_row;
  fill = subst (λ (ms : Nodes). Fill Lines body_row ms body_row) (sym are) (fill_none Lines body_row);
  ends = refl;
}
body_fill r text ending (line ∷ others) ns are = record {
  rest = [];
  fill =
      next_fill body_row [] text ending (one are.0) ns (record { space = refl; ending = refl; blank = refl; quote = refl }) are.3
      (fill_taken Lines body_row n.GfmTableBody Plain [] are.0 are.4 refl
      (filled_by Lines Plain n.GfmTableBody more_rows are.0 are.4
      (subst (λ (ms : Nodes). Fill Lines (row n.GfmTableBody Plain) ms more_rows) (sym are.5)
      (fill_both (fill_taken Lines (row n.GfmTableBody Plain) n.GfmTableRow Plain more_rows are.1 are.6.name refl are.6.filled)
      (rows_fill r text line.ending others are.2 are.7))) refl));
  ends = refl;
}

pub table_fill : (r : Reading) (text : List ℕ) (line : BlockLine) (ending last : Option LineEnding) (columns : List AlignKind) (others : List BlockLine)
    (head : Node) (body : Nodes) → IsHeadNode r text line ending columns head → AreBody r text last others body
    → FillsTo (row n.GfmTable Plain) MayEnd Lines (append (one head) body)
table_fill r text line ending last columns others head body is_head is_body =
    let up = body_fill r text last others body is_body in
    record {
      rest = up.rest;
      fill =
          fill_both
          (fill_taken Lines (row n.GfmTable Plain) n.GfmTableHead Plain body_row head is_head.name refl
          (head_filled r text line ending columns head is_head)) up.fill;
      ends = up.ends;
    }
