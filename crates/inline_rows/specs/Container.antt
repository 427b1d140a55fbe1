-- The rows of one container, before and after its runs are told apart (CommonMark 6.2).
use Rattle.std.specs.Prelude.{◌≡◌, ◌≤◌, ◌<◌, ◌+◌, ℕ, List, [], ◌∷◌, ◌++◌, map, length, take, drop, replicate, slice_index, slice_index_or}
use Rattle.std.specs.List.{flat_map}
use Rattle.definition_inline.specs.Inline.{Target, Inline}
use Rattle.definition_inline.specs.Inline as inline
use Rattle.inline_rows.specs.InlineRows.{part_rows, inline_rows}
use Rattle.definition_inline.specs.Spans.{Token, Item, Delimiters, with_spans}
use Rattle.inline_runs.specs.View.{run_view}
use Rattle.inline_runs.specs.declared.run.Run.{Run}
use Rattle.inline_rows.specs.View.{rows_view}
use Rattle.inline_rows.specs.declared.row.InlineRow.{InlineRow}
use Rattle.inline_rows.specs.declared.row.InlineRow.TheVariants.{Text}

-- the text that a row is; none of any other row
abbrev pub text_of : InlineRow → List ℕ
text_of (Text text) = text.now
text_of row = []

-- so many rows of text, each of this one byte
abbrev pub AreBytes : ℕ → ℕ → List InlineRow → Type 0
AreBytes marker size rows = map text_of rows ≡ replicate size (marker ∷ [])

-- rows from a place on that stand for tokens: the rows of parts, and one row for each byte of a run, of which the first has the run's slot
pub data IsContainer (leads : Target → inline.LinkTexts) (at : ℕ → inline.LinkTexts) : List InlineRow → ℕ → List Run → List ℕ → List Token → Type 0 where
  -- no rows
  NoRows : (base : ℕ) → IsContainer leads at [] base [] [] []
  -- parts that are read whole, and what follows them
  Parts : (more rows : List InlineRow) (base : ℕ) (runs : List Run) (slots : List ℕ) (items : List Inline) (tokens : List Token)
      → rows_view at more ≡ flat_map (part_rows leads) items
      → IsContainer leads at rows (base + length more) runs slots tokens
      → IsContainer leads at (more ++ rows) base runs slots (map Item items ++ tokens)
  -- a run, and what follows it
  Bytes : (more rows : List InlineRow) (base : ℕ) (run : Run) (runs : List Run) (slots : List ℕ) (tokens : List Token)
      → AreBytes run.marker run.size more
      → IsContainer leads at rows (base + length more) runs slots tokens
      → IsContainer leads at (more ++ rows) base (run ∷ runs) (base ∷ slots) (Delimiters (run_view run) ∷ tokens)

-- the rows of each run stand among so many
pub record AreWithin (runs : List Run) (slots : List ℕ) (count : ℕ) : Type 0 where
  pub same : length slots ≡ length runs
  pub ends : (i : ℕ) (d : Run) → i < length runs → slice_index slots i + (slice_index_or runs i d).size ≤ count

-- the rows before a container as they were, and then those of its inline structure
pub record AreTold (leads : Target → inline.LinkTexts) (at : ℕ → inline.LinkTexts) (outer : List InlineRow) (tokens : List Token)
    (rows : List InlineRow) : Type 0 where
  pub before : take (length outer) rows ≡ outer
  pub told : rows_view at (drop (length outer) rows) ≡ inline_rows leads (with_spans tokens)
