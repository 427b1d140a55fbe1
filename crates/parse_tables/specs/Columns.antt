-- What is written of a row of delimiters (GFM 4.10).
use Rattle.std.specs.Prelude.{◌≡◌, ◌⊎◌, ◌<◌, ℕ, Bool, true, List, [], ◌∷◌, ◌++◌, Option, Some, drop, length, map, replicate}
use Rattle.markdown_options.specs.declared.align_kind.AlignKind.{AlignKind}
use Rattle.markdown_options.specs.declared.line_ending.LineEnding.{LineEnding}
use Rattle.definition_text.specs.Ascii.{hyphen}
use Rattle.definition_text.specs.Columns.{bare, bytes_of}
use Rattle.definition_block.specs.GfmTable.{alignment, delimiters}
use Rattle.engine_events.specs.declared.event.Name.TheVariants as n
use Rattle.event_check.specs.Align.{value_align}
use Rattle.event_grammar.specs.declared.slot.Between.TheVariants.{Lines, Spaces}
use Rattle.event_grammar.specs.declared.slot.Child.TheVariants.{Either}
use Rattle.event_grammar.specs.declared.slot.Form.TheVariants.{Plain}
use Rattle.event_grammar.specs.declared.slot.Slot.{Slot}
use Rattle.event_grammar.specs.declared.slot.Slot.TheVariants.{Many}
use Rattle.event_grammar.specs.Grammar.{row}
use Rattle.event_grammar.specs.InGrammar.{node_name}
use Rattle.event_grammar.specs.References.{named}
use Rattle.event_grammar.specs.Trees.{Node, Nodes}
use Rattle.parse_output.specs.Forest.{append, one}
use Rattle.parse_output.specs.Written.{IsInOrder}
use Rattle.parse_slots.specs.Left.{Fill, IsFilled}
use Rattle.parse_laid.specs.Places.{LineRest, Within}
use Rattle.parse_lines.specs.declared.walk.Walk.{Walk}
use Rattle.parse_lines.specs.Ends.{IsWrittenToRest}
use Rattle.parse_lines.specs.Quiet.{AreQuiet}
use Rattle.parse_lines.specs.Standing.{StandsAt, standing}
use Rattle.parse_tables.specs.Before.{IsBefore, WritesTo}
use Rattle.parse_tables.specs.Delimiters.{AreDelimiters, begins_other, colon_if}

-- what is left of the row of the grammar for delimiters, after the first delimiter or bar
abbrev pub delimiters_rest : List Slot
delimiters_rest = Many (Either n.GfmTableDelimiterCell n.GfmTableCellDivider) ∷ []

-- nodes are the first of a row of delimiters, or white space before them, in which no column is
abbrev pub AreFirstColumns : List AlignKind → Nodes → Type 0
AreFirstColumns columns ns =
    ((columns ≡ []) × Fill Spaces (row n.GfmTableDelimiterRow Plain) ns (row n.GfmTableDelimiterRow Plain))
    ⊎ Fill Spaces (row n.GfmTableDelimiterRow Plain) ns delimiters_rest

-- nodes are delimiters, bars and white space of a row
pub record FillColumns (columns : List AlignKind) (ns : Nodes) : Type 0 where
  pub first : AreFirstColumns columns ns
  pub more : Fill Spaces delimiters_rest ns delimiters_rest

-- nodes are written whose delimiters align columns so, and no definition is among them
pub record WritesColumns {A : Type 0} (text line : List ℕ) (ending : Option LineEnding) (left : List LineRest) (columns : List AlignKind) (old new : Walk A)
    : Type 0 where
  pub nodes : Nodes
  pub writes : WritesTo text line ending left nodes old new
  pub aligns : map value_align (named n.GfmTableDelimiterCellValue nodes) ≡ columns
  pub definitions : named n.Definition nodes ≡ []
  pub fill : FillColumns columns nodes

-- so many bytes are those of a delimiter, which is written
pub record WritesColumn {A : Type 0} (text bs : List ℕ) (size : ℕ) (ending : Option LineEnding) (left : List LineRest) (column : AlignKind) (bytes : List ℕ)
    (old new : Walk A) : Type 0 where
  pub some : 0 < size
  pub rest : drop size bytes ≡ bs
  pub writes : WritesColumns text bs ending left (column ∷ []) old new

abbrev pub WritesColumnHere : {A : Type 0} → List ℕ → ℕ → Walk A → Walk A → Type 0
WritesColumnHere bytes size old new =
    (text bs : List ℕ) (ending : Option LineEnding) (left : List LineRest) (first last : Bool) (n : ℕ)
    → bytes ≡ colon_if first ++ (hyphen ∷ (replicate n hyphen ++ (colon_if last ++ bs))) → begins_other bs ≡ true → IsBefore text bytes ending left old
    → WritesColumn text bs size ending left (alignment first last) bytes old new

-- so many bytes are those of a bar, of white space or of a delimiter, which is written
pub record WritesPart {A : Type 0} (text bytes : List ℕ) (size : ℕ) (ending : Option LineEnding) (left : List LineRest) (columns : List AlignKind)
    (old new : Walk A) : Type 0 where
  pub some : 0 < size
  pub now : List AlignKind
  pub later : List AlignKind
  pub all : columns ≡ now ++ later
  pub rest : AreDelimiters (drop size bytes) later
  pub writes : WritesColumns text (drop size bytes) ending left now old new

abbrev pub WritesPartHere : {A : Type 0} → List ℕ → ℕ → Walk A → Walk A → Type 0
WritesPartHere bytes size old new =
    (text : List ℕ) (ending : Option LineEnding) (left : List LineRest) (columns : List AlignKind) → 0 < length bytes → AreDelimiters bytes columns
    → IsBefore text bytes ending left old → WritesPart text bytes size ending left columns old new

-- a row of delimiters is written after white space
pub record WritesDelimiters {A : Type 0} (text : List ℕ) (ending : Option LineEnding) (left : List LineRest) (columns : List AlignKind) (old new : Walk A)
    : Type 0 where
  pub space : Nodes
  pub are_quiet : AreQuiet space
  pub node : Node
  pub name : node_name node ≡ n.GfmTableDelimiterRow
  pub writes : WritesTo text [] ending left (append space (one node)) old new
  pub aligns : map value_align (named n.GfmTableDelimiterCellValue (one node)) ≡ columns
  pub definitions : named n.Definition (one node) ≡ []
  pub filled : IsFilled Lines Plain node

abbrev pub WritesDelimiterRow : {A : Type 0} → Walk A → Walk A → Type 0
WritesDelimiterRow old new =
    (text : List ℕ) (here : LineRest) (left : List LineRest) (columns : List AlignKind) → StandsAt text (Within here left) (standing old)
    → IsWrittenToRest old → IsInOrder text old.out → delimiters (bytes_of (bare here.rest)) ≡ Some columns
    → WritesDelimiters text here.beside.ending left columns old new
