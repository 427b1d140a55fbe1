-- A content that is being read, as the definition reads it.
use Rattle.std.specs.Prelude.{◌≡◌, ◌<◌, ◌≤◌, ℕ, Bool, false, List, [], ◌∷◌, OnOk, Result, Option, None, drop, take, length, slice_index}
use Rattle.std.specs.Str.{IsCharBoundary}
use Rattle.markdown_options.specs.declared.configuration.ParseOptions.{ParseOptions}
use Rattle.markdown_options.specs.declared.tables.Tables as tables
use Rattle.definition_text.specs.Ascii.{carriage_return}
use Rattle.definition_text.specs.Content.{content_codes}
use Rattle.definition_inline.specs.Targets.{leads_to}
use Rattle.definition_inline.specs.Attention.{run_at}
use Rattle.definition_inline.specs.Scan as scan
use Rattle.definition_inline.specs.Scan.{InlineContext, leaf_here}
use Rattle.definition_inline.specs.Targets.{Targets, is_label_of, is_footnote_of, labels_of, linked_at, linked_by}
use Rattle.inline_content.specs.declared.content.Content.{Content}
use Rattle.inline_content.specs.View.{view_at}
use Rattle.inline_leaves.specs.Leaves.{size_before, IsAfter, IsEnd}
use Rattle.inline_leaves.specs.Scanned.{leaf_in, without_labels}
use Rattle.inline_labels.specs.declared.table.LabelTable.{LabelTable}
use Rattle.inline_labels.specs.Table.{HasLabels}
use Rattle.inline_links.specs.Codes.{IsRest}
use Rattle.inline_literals.specs.Literals.{KnowsNames}
use Rattle.inline_runs.specs.declared.run.Run.{Run}
use Rattle.inline_parser.specs.declared.scan.Scanner.{Scanner}
use Rattle.inline_parser.specs.declared.scan.Source.{Source}
use Rattle.inline_reading.specs.Shows.{Shows, IsSound, StartsBefore}

-- tables with the labels of link reference definitions and of footnote definitions
pub record HasTargets {A : Type 0} (labels footnotes : LabelTable A) (ds : Targets) : Type 0 where
  pub defined : HasLabels labels (labels_of ds.definitions)
  pub noted : HasLabels footnotes ds.footnotes

-- the context of a document whose labels lead to these targets
abbrev pub context_by : ParseOptions → (List ℕ → Option (List ℕ)) → Targets → InlineContext
context_by options names ds = record { options = options; names = names; is_defined = is_label_of ds.definitions; is_footnote = is_footnote_of ds.footnotes }

-- what was read, and that the scan of what is left gives this in the end
pub record Follows {A : Type 0} (options : ParseOptions) (names : List ℕ → Option (List ℕ)) (is_punctuation : ℕ
    → Bool) (ds : Targets) (content : Content) (s : Scanner A) (final : scan.Reading) : Type 0 where
  pub now : scan.Reading
  pub shows : Shows (leads_to (linked_by ds.definitions)) (linked_at ds.definitions) s.reading now
  pub same : scan.scan (context_by options names ds) 0 now (view_at is_punctuation content s.rest.now) ≡ final

-- a rest of a content, whose codes are the last of the content's
pub record IsPlace (content rest : List ℕ) : Type 0 where
  pub rest_of : IsRest content rest
  pub fewer : length (content_codes rest) ≤ length (content_codes content)
  pub codes : content_codes rest ≡ drop (size_before content rest) (content_codes content)

-- what is left, of the content and of what stands after each label start that is open, and names that are known to begin in vain
pub record IsPlaced {A : Type 0} (is_punctuation : ℕ → Bool) (content : Content) (s : Scanner A) : Type 0 where
  pub searched : s.searches.content ≡ content.text
  pub known : KnowsNames is_punctuation content.text.now s.names
  pub place : IsPlace content.text.now s.rest.now
  pub labels : StartsBefore s.rest.now s.reading
  pub sound : IsSound s.reading

-- so it is in a source, by the punctuation of its tables
abbrev pub IsPlacedBy : {T A : Type 0} → tables.Ghosts T → Source T A → Scanner A → Type 0
IsPlacedBy g source s = IsPlaced (g.punctuation_of source.tables.now) source.content s

-- a byte that is a code of one byte
pub record IsSingle (bytes : List ℕ) : Type 0 where
  pub ascii : slice_index bytes 0 < 128
  pub apart : slice_index bytes 0 ≡ carriage_return → ⊥
  pub boundary : IsCharBoundary bytes 1
  pub next : IsAfter bytes (drop 1 bytes)
  pub code : content_codes bytes ≡ slice_index bytes 0 ∷ content_codes (drop 1 bytes)

-- a run comes first
pub record IsRunFront (bytes : List ℕ) (run : Run) : Type 0 where
  pub end : IsEnd bytes run.size
  pub first : take 1 bytes ≡ run.marker ∷ []

-- what a content is read as from a place on
abbrev pub scan_from : ParseOptions → (List ℕ → Option (List ℕ)) → (ℕ → Bool) → Targets → Content → List ℕ → scan.Reading
scan_from options names is_punctuation ds content start =
    scan.scan (context_by options names ds) 0 (scan.reading (scan.text [] false) []) (view_at is_punctuation content start)

-- a content that is being read from this place to this end
pub record IsScanning {A : Type 0} (options : ParseOptions) (names : List ℕ → Option (List ℕ)) (is_punctuation : ℕ
    → Bool) (labels footnotes : LabelTable A) (content : Content) (start : List ℕ) (s : Scanner A) : Type 0 where
  pub placed : IsPlaced is_punctuation content s
  pub follows : (ds : Targets) → HasTargets labels footnotes ds
      → Follows options names is_punctuation ds content s (scan_from options names is_punctuation ds content start)

-- whatever the document's definitions are and whatever is read in the end, the new state leads there as the old one did, unless memory ran out
abbrev pub GoesOn : {T A B C : Type 0} → (List ℕ → Option (List ℕ)) → (ℕ → Bool) → Source T A → Scanner A → Result B C → Scanner A → Type 0
GoesOn names is_punctuation source old result new =
    (ds : Targets) (final : scan.Reading) → HasTargets source.labels.now source.footnotes.now ds →
    Follows source.options.now names is_punctuation ds source.content old final
    → OnOk result (Follows source.options.now names is_punctuation ds source.content new final)

-- so it is by the names and the punctuation of a source's tables
abbrev pub GoesOnBy : {T A B C : Type 0} → tables.Ghosts T → Source T A → Scanner A → Result B C → Scanner A → Type 0
GoesOnBy g source old result new = GoesOn (g.reference_of source.tables.now) (g.punctuation_of source.tables.now) source old result new

-- what is left stays a rest of the content, unless memory ran out
abbrev pub StaysPlaced : {A B C : Type 0} → Scanner A → Result B C → Scanner A → Type 0
StaysPlaced old result new = (is_punctuation : ℕ → Bool) (content : Content) → IsPlaced is_punctuation content old
    → OnOk result (IsPlaced is_punctuation content new)

-- less is left, unless memory ran out
abbrev pub Shortens : {A B C : Type 0} → Scanner A → Result B C → Scanner A → Type 0
Shortens old result new = OnOk result (length new.rest.now < length old.rest.now)

-- the content of this source begins with no construct that holds no other, by these names
abbrev pub HasNoLeaf : {T A : Type 0} → (List ℕ → Option (List ℕ)) → Source T A → List ℕ → Type 0
HasNoLeaf names source rest = leaf_in source.options.now names (content_codes rest) ≡ None

-- and with no literal, by this punctuation
abbrev pub HasNoLeafHere : {T A : Type 0} → (List ℕ → Option (List ℕ)) → (ℕ → Bool) → Source T A → List ℕ → Type 0
HasNoLeafHere names is_punctuation source rest =
    leaf_here (without_labels source.options.now names) (view_at is_punctuation source.content rest) ≡ None

-- and with no run of `*`, `_` or `~`
abbrev pub HasNoRun : {T A : Type 0} → (ℕ → Bool) → Source T A → List ℕ → Type 0
HasNoRun is_punctuation source rest = run_at source.options.now (view_at is_punctuation source.content rest) ≡ None
