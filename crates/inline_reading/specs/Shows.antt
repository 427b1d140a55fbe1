-- What is read so far, as the definition has it.
use Rattle.std.specs.Prelude.{◌≡◌, ◌<◌, ◌≤◌, ℕ, false, List, [], ◌∷◌, ◌++◌, length, reverse, take, OnOk, Option, None, Result}
use Rattle.std.specs.List.{All}
use Rattle.definition_text.specs.Content.{content_codes}
use Rattle.definition_inline.specs.Inline.{Target}
use Rattle.definition_inline.specs.Inline as inline
use Rattle.definition_inline.specs.Scan as scan
use Rattle.definition_inline.specs.Scan.{InlineContext, LinkStart, ImageStart, ended_by, start_bytes, with_plain_start, with_link_or_call}
use Rattle.definition_inline.specs.LabelEnd.{LinkOrCall}
use Rattle.definition_inline.specs.Spans.{Token}
use Rattle.inline_links.specs.Codes.{IsRest}
use Rattle.inline_runs.specs.declared.run.Run.{Run}
use Rattle.inline_rows.specs.declared.row.LinkTarget.{LinkTarget}
use Rattle.inline_rows.specs.declared.row.InlineRow.{InlineRow}
use Rattle.inline_rows.specs.declared.row.InlineRow.TheVariants.{EnterLink, EnterImage}
use Rattle.inline_rows.specs.View.{row_view, data_rows}
use Rattle.inline_rows.specs.Container.{IsContainer, AreWithin}
use Rattle.inline_reading.specs.declared.label.LabelStart.{LabelStart}
use Rattle.inline_reading.specs.declared.label.LabelStart.TheVariants.{Link, Image}
use Rattle.inline_reading.specs.declared.label.OpenLabel.{OpenLabel}
use Rattle.inline_reading.specs.declared.reading.Reading.{Reading}

abbrev pub start_view : LabelStart → scan.LabelStart
start_view Link = LinkStart
start_view Image = ImageStart

-- the row that starts what is formed
abbrev pub enter_row : LabelStart → LinkTarget → InlineRow
enter_row Link target = EnterLink target
enter_row Image target = EnterImage target

-- the bytes of a label start
abbrev pub OpensAt : LabelStart → List ℕ → Type 0
OpensAt start text = text ≡ start_bytes (start_view start)

-- ---- what the definition reads

-- a label start before these bytes
abbrev pub with_open_label : LabelStart → List ℕ → scan.Reading → scan.Reading
with_open_label start from r =
    scan.reading (scan.text [] false) (record { start = start_view start; from = content_codes from; outer = r.now } ∷ r.open_labels)

abbrev pub unformed_in : List scan.OpenLabel → scan.Text → scan.Reading
unformed_in [] now = scan.reading now []
unformed_in (label ∷ others) now = scan.reading (with_plain_start label now) others

-- the innermost label start forms nothing
abbrev pub unformed_last : scan.Reading → scan.Reading
unformed_last r = unformed_in r.open_labels r.now

abbrev pub formed_in : LinkOrCall → List scan.OpenLabel → scan.Text → scan.Reading
formed_in found [] now = scan.reading now []
formed_in found (label ∷ others) now = scan.reading (with_link_or_call label found now) others

-- the innermost label start forms this
abbrev pub formed_last : LinkOrCall → scan.Reading → scan.Reading
formed_last found r = formed_in found r.open_labels r.now

-- what a `]` forms with the innermost label start that is open, if there is one
abbrev pub ended_here : InlineContext → List ℕ → List scan.OpenLabel → scan.Text → Option LinkOrCall
ended_here context content [] inner = None
ended_here context content (label ∷ others) inner = ended_by context content label inner

-- ---- how rows show it

-- a label start that is open, after so many rows and runs
pub record IsOpen (o : OpenLabel) (label : scan.OpenLabel) (row_count run_count : ℕ) : Type 0 where
  pub start : start_view o.start ≡ label.start
  pub row : o.row ≡ row_count
  pub runs : o.runs ≡ run_count
  pub from : content_codes o.from.now ≡ label.from
  pub holds_link : o.holds_link ≡ label.outer.holds_link

-- the rows, the runs and their slots up to the innermost label start that is open, the innermost first
pub data AreOpen (leads : Target → inline.LinkTexts) (at : ℕ → inline.LinkTexts) : List InlineRow → List Run → List ℕ → List OpenLabel → List scan.OpenLabel
    → Type 0 where
  NoneOpen : AreOpen leads at [] [] [] [] []
  Inside : (rows more : List InlineRow) (runs more_runs : List Run) (slots more_slots : List ℕ) (opens : List OpenLabel) (labels : List scan.OpenLabel)
      (o : OpenLabel) (label : scan.OpenLabel) (row : InlineRow)
      → AreOpen leads at rows runs slots opens labels
      → IsContainer leads at more (length rows) more_runs more_slots label.outer.tokens
      → IsOpen o label (length (rows ++ more)) (length (runs ++ more_runs))
      → row_view at row ≡ data_rows (start_bytes label.start)
      → AreOpen leads at ((rows ++ more) ++ row ∷ []) (runs ++ more_runs) (slots ++ more_slots) (o ∷ opens) (label ∷ labels)

-- rows, runs, slots and open label starts that stand for those of the definition, and the tokens after the innermost
pub record ShowsBy (leads : Target → inline.LinkTexts) (at : ℕ → inline.LinkTexts) (rows : List InlineRow) (runs : List Run) (slots : List ℕ)
    (opens : List OpenLabel)
    (labels : List scan.OpenLabel) (tokens : List Token) : Type 0 where
  pub outer_rows : List InlineRow
  pub now_rows : List InlineRow
  pub outer_runs : List Run
  pub now_runs : List Run
  pub outer_slots : List ℕ
  pub now_slots : List ℕ
  pub rows_are : rows ≡ outer_rows ++ now_rows
  pub runs_are : runs ≡ outer_runs ++ now_runs
  pub slots_are : slots ≡ outer_slots ++ now_slots
  pub outer : AreOpen leads at outer_rows outer_runs outer_slots opens labels
  pub now : IsContainer leads at now_rows (length outer_rows) now_runs now_slots tokens

pub record Shows {A : Type 0} (leads : Target → inline.LinkTexts) (at : ℕ → inline.LinkTexts) (s : Reading A) (r : scan.Reading) : Type 0 where
  pub by : ShowsBy leads at s.rows.items s.runs.items s.slots.items (reverse s.labels.items) r.open_labels r.now.tokens
  pub holds_link : s.holds_link ≡ r.now.holds_link

-- where the old reading shows what was read, the new one shows this, unless memory ran out
abbrev pub ShowsThen : {A B C : Type 0} → Reading A → Result B C → Reading A → (scan.Reading → scan.Reading) → Type 0
ShowsThen old result new next = (leads : Target → inline.LinkTexts) (at : ℕ → inline.LinkTexts) (r : scan.Reading) → Shows leads at old r
    → OnOk result (Shows leads at new (next r))

-- ---- places

-- this is the rest of what stands after each label start that is open
abbrev pub StartsBefore : {A : Type 0} → List ℕ → Reading A → Type 0
StartsBefore rest s = All (λ (o : OpenLabel). IsRest o.from.now rest) s.labels.items

-- what was such a rest still is one, unless memory ran out
abbrev pub KeepsStarts : {A B C : Type 0} → Reading A → Result B C → Reading A → Type 0
KeepsStarts old result new = (rest : List ℕ) → StartsBefore rest old → OnOk result (StartsBefore rest new)

-- the rows and the runs of open label starts stand before those inside of them, the innermost first, and the rows of the runs before each stand before its own
abbrev pub AreOutside : List OpenLabel → ℕ → List Run → List ℕ → Type 0
AreOutside [] rows runs slots = Unit {0}
AreOutside (o ∷ others) rows runs slots =
    (o.row < rows) × (o.runs ≤ length runs)
    × AreWithin (take o.runs runs) (take o.runs slots) o.row × AreOutside others o.row (take o.runs runs) (take o.runs slots)

pub record IsSound {A : Type 0} (s : Reading A) : Type 0 where
  pub within : AreWithin s.runs.items s.slots.items (length s.rows.items)
  pub outside : AreOutside (reverse s.labels.items) (length s.rows.items) s.runs.items s.slots.items
