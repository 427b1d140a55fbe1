-- Tables: the cells of a line, the row of delimiters under a head, and the head above it (GFM 4.10).
use Rattle.std.specs.Prelude.{ℕ, Bool, true, false, not, if◌then◌else◌, ◌==◌, ◌&&◌, ◌||◌, List, [], ◌∷◌, Option, None, Some, codes, drop, length}
use Rattle.std.specs.List.{list_any}
use Rattle.std.specs.Option.{option_map}
use Rattle.markdown_options.specs.declared.configuration.Constructs.{Constructs}
use Rattle.definition_text.specs.Ascii.{hyphen, colon, vertical_bar}
use Rattle.markdown_options.specs.declared.beside.Kind.{Kind}
use Rattle.markdown_options.specs.declared.beside.Kind.TheVariants.{Whitespace, Punctuation}
use Rattle.definition_text.specs.BlockLines.{BlockLine}
use Rattle.definition_text.specs.Columns.{Code, Rest, is_blank, trim, bare, bytes_of}
use Rattle.definition_text.specs.Indents.{small_indent}
use Rattle.definition_text.specs.Runs.{run, after_run}
use Rattle.definition_text.specs.Bytes.{begins_with}
use Rattle.definition_text.specs.Content.{may_escape}
use Rattle.markdown_options.specs.declared.align_kind.AlignKind.{AlignKind}
use Rattle.markdown_options.specs.declared.align_kind.AlignKind.TheVariants as align

-- ---- cells

-- a cell of a line: its codes, and the kinds of the characters before and after them in the text
pub record Cell : Type 0 where
  pub codes : List Code
  pub before : Kind
  pub after : Kind

abbrev pub cell : List Code → Kind → Kind → Cell
cell codes before after = record { codes = codes; before = before; after = after }

-- cells of which the first has one more code in front, after a character of this kind
abbrev pub in_first_cell : Code → Kind → List Cell → List Cell
in_first_cell code before [] = []
in_first_cell code before (first ∷ others) = cell (code ∷ first.codes) before first.after ∷ others

-- a bar that divides cells, where it is given whether a backslash escapes it
abbrev pub is_bar : Bool → Code → Bool
is_bar escaped code = (code == vertical_bar) && not escaped

-- the parts of a line between its bars, after a character of this kind, and after a backslash that escapes or not
abbrev pub parts : Kind → Bool → List Code → List Cell
parts before escaped [] = cell [] before Whitespace ∷ []
parts before escaped (c ∷ cs) =
    if is_bar escaped c then cell [] before Punctuation ∷ parts Punctuation false cs
    else in_first_cell c before (parts before (may_escape escaped c) cs)

abbrev pub without_blank_first : List Cell → List Cell
without_blank_first [] = []
without_blank_first (c ∷ cs) = if is_blank c.codes then cs else c ∷ cs

abbrev pub without_blank_last : List Cell → List Cell
without_blank_last [] = []
without_blank_last (c ∷ []) = if is_blank c.codes then [] else c ∷ []
without_blank_last (c ∷ d ∷ cs) = c ∷ without_blank_last (d ∷ cs)

-- the cells of a line after a character of this kind: its parts, but for a blank one before the first bar and a blank one after the last (GFM 4.10)
abbrev pub cells : Kind → List Code → List Cell
cells before codes = without_blank_last (without_blank_first (parts before false codes))

-- the cells of a line of a block
abbrev pub line_cells : BlockLine → List Cell
line_cells line = cells line.before line.codes

-- ---- delimiters

-- how a column is aligned, by a colon at the left of its delimiter and one at the right
abbrev pub alignment : Bool → Bool → AlignKind
alignment true true = align.Center
alignment true false = align.Left
alignment false true = align.Right
alignment false false = align.None

-- a colon alone, or nothing, which says whether there is a colon
abbrev pub right_colon : List Code → Option Bool
right_colon [] = Some false
right_colon (c ∷ []) = if c == colon then Some true else None
right_colon (c ∷ d ∷ cs) = None

-- dashes, at least one, and then a colon or not
abbrev pub after_dashes : Bool → List Code → Option AlignKind
after_dashes left text = if run hyphen text == 0 then None else option_map (alignment left) (right_colon (after_run hyphen text))

-- how a column is aligned, where this is a delimiter: dashes, at least one, with a colon at either end or not (GFM 4.10)
abbrev pub column_delimiter : List Code → Option AlignKind
column_delimiter text = if begins_with (codes ":") text then after_dashes true (drop 1 text) else after_dashes false text

-- one more alignment before others, if all of these are there
abbrev pub and_alignment : Option AlignKind → Option (List AlignKind) → Option (List AlignKind)
and_alignment None others = None
and_alignment (Some first) others = option_map (λ more. first ∷ more) others

-- how columns are aligned, where all these cells are delimiters
abbrev pub alignments_of : List Cell → Option (List AlignKind)
alignments_of [] = Some []
alignments_of (c ∷ cs) = and_alignment (column_delimiter (trim c.codes)) (alignments_of cs)

abbrev pub is_bar_or_colon : Code → Bool
is_bar_or_colon code = (code == vertical_bar) || (code == colon)

-- the alignments, if there are any
abbrev pub some_alignments : Option (List AlignKind) → Option (List AlignKind)
some_alignments None = None
some_alignments (Some []) = None
some_alignments (Some (first ∷ others)) = Some (first ∷ others)

-- how columns are aligned, where this is a row of delimiters: there is a cell, all cells are delimiters, and it holds a bar or a colon (GFM 4.10)
abbrev pub delimiters : List Code → Option (List AlignKind)
delimiters text = if list_any is_bar_or_colon text then some_alignments (alignments_of (cells Whitespace text)) else None

-- the same for a line (GFM 4.10)
abbrev pub delimiter_row : Constructs → Rest → Option (List AlignKind)
delimiter_row on rest = if on.gfm_table && small_indent on rest then delimiters (bytes_of (bare rest)) else None

-- ---- the head

-- whether the last of some lines has so many cells
abbrev pub is_head : ℕ → List BlockLine → Bool
is_head count [] = false
is_head count (line ∷ []) = length (line_cells line) == count
is_head count (line ∷ next ∷ others) = is_head count (next ∷ others)
