-- Rows of the inline structure of a content are laid in it (CommonMark 6).
use Rattle.std.specs.Prelude.{◌≡◌, ◌<◌, ℕ, List, [], ◌++◌, drop, map, replicate, slice_index}
use Rattle.definition_text.specs.Ascii.{backtick, dollar}
use Rattle.markdown_options.specs.declared.line_ending.LineEnding.{LineEnding}
use Rattle.definition_text.specs.Columns.{indent}
use Rattle.definition_text.specs.Content.{content_codes, line_ending_code}
use Rattle.definition_text.specs.InlineCode.{InlineCode}
use Rattle.definition_inline.specs.Inline.{Target, LinkTexts, Inlines}
use Rattle.definition_inline.specs.Scan.{InlineContext, inlines_from}
use Rattle.inline_rows.specs.InlineRows.{inline_rows}
use Rattle.inline_rows.specs.InlineRows as seen
use Rattle.inline_rows.specs.View.{row_view, rows_view}
use Rattle.inline_rows.specs.declared.row.InlineRow.{InlineRow}
use Rattle.parse_written.specs.Laid.{Open, Step, AreLaid, steps_of}
use Rattle.inline_leaves.specs.declared.leaf.LeafPart.{LeafPart}
use Rattle.inline_runs.specs.View.{span_view}
use Rattle.inline_runs.specs.declared.pair.Span.{Span}
use Rattle.parse_written.specs.Written.{AreCodes, EndNoLine, StartsSpan, call_codes}
use Rattle.parse_written.specs.Leaves.{IsReference, IsRaw, AreAllSpaces}
use Rattle.parse_written.specs.Marks.{sequence_size, call_text}
use Rattle.parse_written.specs.Bytes.{AreBytesAt, Passes, IsFront, IsRawInBytes, IsReferenceInBytes, EndsLineInBytes}
use Rattle.parse_written.specs.Parts.{EndsLine, HasPartForm}
use Rattle.parse_written.specs.Rows.{step_row, IsPartLaid, AreRowsLaid, IsFirstLaid}

-- the rows of inline structure are those of its steps
abbrev pub RowsOfSteps : Type 0
RowsOfSteps = (leads : Target → LinkTexts) (is : Inlines) → inline_rows leads is ≡ map (step_row leads) (steps_of is)

-- rows that stand for the inline structure of a content that begins anywhere are laid in it, from its first code to its end
abbrev pub RowsLaw : Type 0
RowsLaw =
    (context : InlineContext) (leads : Target → LinkTexts) (at : ℕ → LinkTexts) (content : List InlineCode) (rows : List InlineRow)
    → rows_view at rows ≡ inline_rows leads (inlines_from context content)
    → AreRowsLaid context [] rows content []

-- of rows that stand for steps that are laid, the first is laid by its own steps
abbrev pub FirstRowLaw : Type 0
FirstRowLaw =
    (context : InlineContext) (leads : Target → LinkTexts) (at : ℕ → LinkTexts) (row : InlineRow) (others : List seen.InlineRow) (before : List Open)
    (steps : List Step) (from to : List InlineCode) → row_view at row ++ others ≡ map (step_row leads) steps → AreLaid context before steps from to
    → IsFirstLaid context leads row others before steps from to

-- a row of a leaf has its form where it is laid
abbrev pub PartsLaw : Type 0
PartsLaw = (context : InlineContext) (part : LeafPart) (from to : List InlineCode) → IsPartLaid context part from to → HasPartForm context part from to

-- codes that end no line are as many bytes
abbrev pub InlineBytesLaw : Type 0
InlineBytesLaw =
    (text bytes : List ℕ) (from to : List InlineCode) → AreBytesAt bytes from → AreCodes text from to → EndNoLine text → Passes text bytes to

-- bytes whose codes begin with those of a text begin with it, also where lines end in it
abbrev pub FrontBytesLaw : Type 0
FrontBytesLaw =
    (text bytes rest : List ℕ) → ((k : ℕ) → slice_index text k < 256) → ((k : ℕ) → slice_index bytes k < 256)
    → content_codes bytes ≡ content_codes text ++ rest → IsFront text bytes rest

-- so the codes of a text at a place are its bytes
abbrev pub TextBytesLaw : Type 0
TextBytesLaw =
    (text bytes : List ℕ) (from to : List InlineCode) → ((k : ℕ) → slice_index text k < 256) → ((k : ℕ) → slice_index bytes k < 256)
    → AreBytesAt bytes from → AreCodes (content_codes text) from to → Passes text bytes to

-- raw text between runs of a byte is so in bytes, too
abbrev pub IsRawByBytes : ℕ → Type 0
IsRawByBytes marker =
    (text bytes : List ℕ) (from to : List InlineCode) → IsRaw marker text from to → AreBytesAt bytes from → IsRawInBytes marker text bytes to

-- so code and math end in bytes where they end in codes
abbrev pub RawBytesLaw : Type 0
RawBytesLaw = IsRawByBytes backtick × IsRawByBytes dollar

-- the sequence of a span has a size that the span and the bytes tell, and ends no line
abbrev pub SequenceLaw : Type 0
SequenceLaw =
    (context : InlineContext) (span : Span) (marker size : ℕ) (bytes : List ℕ) (from to : List InlineCode)
    → StartsSpan context.options (span_view span) marker size from to → AreBytesAt bytes from
    → (size ≡ sequence_size span bytes) × EndNoLine (replicate size marker)

-- the bytes of a call are its label between brackets
abbrev pub CallBytesLaw : Type 0
CallBytesLaw =
    (label bytes : List ℕ) (from to : List InlineCode) → ((k : ℕ) → slice_index label k < 256) → ((k : ℕ) → slice_index bytes k < 256)
    → AreBytesAt bytes from → AreCodes (call_codes (content_codes label)) from to → Passes (call_text label) bytes to

-- a reference ends in bytes at its first `;`
abbrev pub ReferenceBytesLaw : Type 0
ReferenceBytesLaw =
    (context : InlineContext) (text bytes : List ℕ) (from to : List InlineCode) → IsReference context text from to → AreBytesAt bytes from
    → IsReferenceInBytes bytes to

-- a line ending has all spaces and tabs of the bytes around it
abbrev pub LineBytesLaw : Type 0
LineBytesLaw =
    (ending : LineEnding) (bytes : List ℕ) (from to : List InlineCode) → ((k : ℕ) → slice_index bytes k < 256) → AreBytesAt bytes from
    → EndsLine (line_ending_code ending) from to → EndsLineInBytes ending bytes to

-- a hard break by spaces has all of the bytes that come next
abbrev pub BreakBytesLaw : Type 0
BreakBytesLaw = (bytes : List ℕ) (from to : List InlineCode) → AreBytesAt bytes from → AreAllSpaces from to → AreBytesAt (drop (indent bytes) bytes) to
