-- Rows of inline structure as they are written in a content (CommonMark 6): what code that goes over rows finds at each of them.
use Rattle.std.specs.Prelude.{◌≡◌, ℕ, List, [], ◌∷◌, ◌++◌, map, replicate}
use Rattle.definition_text.specs.Columns.{Code}
use Rattle.definition_text.specs.Content.{content_codes}
use Rattle.definition_text.specs.InlineCode.{InlineCode}
use Rattle.definition_inline.specs.Inline.{Target, LinkTexts, LinkedKind, InlineLeaf}
use Rattle.definition_inline.specs.Inline as inline
use Rattle.definition_inline.specs.Scan.{InlineContext}
use Rattle.inline_leaves.specs.Leaves.{parts_of}
use Rattle.inline_leaves.specs.declared.leaf.LeafPart.{LeafPart}
use Rattle.inline_leaves.specs.declared.leaf.LeafPart.TheVariants.{Unclosed}
use Rattle.inline_rows.specs.InlineRows.{Part, Leave, CallRow}
use Rattle.inline_rows.specs.InlineRows as seen
use Rattle.inline_rows.specs.View.{line_leaf, spelled_view}
use Rattle.inline_rows.specs.declared.row.InlineRow.{InlineRow}
use Rattle.inline_rows.specs.declared.row.InlineRow.TheVariants.{Text, Verbatim, Leaf, Spelled, EnterSpan, EnterLink, EnterImage, Call, Exit}
use Rattle.inline_runs.specs.View.{span_view}
use Rattle.inline_runs.specs.declared.pair.Span.{Span}
use Rattle.parse_written.specs.Laid.{Open, OpenSpan, OpenLinked, MayBeSpaces, IsLeafLaid, AreLaid}
use Rattle.parse_written.specs.Laid.{Step, Holds, EntersSpan, EntersLinked, Leaves, HoldsCall}
use Rattle.parse_written.specs.Written.{AreCodes, EndNoLine, StartsSpan, linked_start, EndsLinked, call_codes}

-- bytes of text, which end no line; there may be none
pub record IsData (text : List Code) (from to : List InlineCode) : Type 0 where
  pub codes : AreCodes text from to
  pub inline : EndNoLine text

-- leaves, one after another, each as the definition finds it
abbrev pub AreLeavesLaid : InlineContext → List InlineLeaf → List InlineCode → List InlineCode → Type 0
AreLeavesLaid context [] from to = from ≡ to
AreLeavesLaid context (part ∷ parts) from to = (next : List InlineCode) × IsLeafLaid context part from next × AreLeavesLaid context parts next to

-- a construct that holds no other: a run that nothing closes is text, spaces have no leaf, and any other one has its leaves
abbrev pub IsPartLaid : InlineContext → LeafPart → List InlineCode → List InlineCode → Type 0
IsPartLaid context (Unclosed text) from to = IsData text.now from to
IsPartLaid context part from to = AreLeavesLaid context (parts_of part) from to

-- the start of a span (CommonMark 6.2 and GFM 6.5)
pub record IsSpanStart (context : InlineContext) (span : Span) (before : List Open) (from : List InlineCode) (after : List Open) (to : List InlineCode)
    : Type 0 where
  pub marker : ℕ
  pub size : ℕ
  pub starts : StartsSpan context.options (span_view span) marker size from to
  pub opened : after ≡ OpenSpan marker size ∷ before

-- the start of a link or an image (CommonMark 6.3 and 6.4)
pub record IsLinkedStart (kind : LinkedKind) (before : List Open) (from : List InlineCode) (after : List Open) (to : List InlineCode) : Type 0 where
  pub target : Target
  pub codes : AreCodes (linked_start kind) from to
  pub opened : after ≡ OpenLinked target to ∷ before

-- the end of the innermost that is open: its sequence, or the `]` and what follows it
abbrev pub IsInnermostEnd : InlineContext → List Open → List InlineCode → List Open → List InlineCode → Type 0
IsInnermostEnd context [] from after to = ⊥
IsInnermostEnd context (OpenSpan marker size ∷ others) from after to = (after ≡ others) × AreCodes (replicate size marker) from to
IsInnermostEnd context (OpenLinked target inside ∷ others) from after to = (after ≡ others) × EndsLinked context target inside from to

-- a row: what is open before it, and from which place, to what is open after it, and which place
abbrev pub IsRowLaid : InlineContext → InlineRow → List Open → List InlineCode → List Open → List InlineCode → Type 0
IsRowLaid context (Text text) before from after to = (after ≡ before) × IsData text.now from to
IsRowLaid context (Verbatim verbatim) before from after to = (after ≡ before) × AreLeavesLaid context (map line_leaf verbatim.text.now) from to
IsRowLaid context (Leaf part) before from after to = (after ≡ before) × IsPartLaid context part from to
IsRowLaid context (Spelled leaf) before from after to = (after ≡ before) × IsLeafLaid context (spelled_view leaf) from to
IsRowLaid context (EnterSpan span) before from after to = IsSpanStart context span before from after to
IsRowLaid context (EnterLink target) before from after to = IsLinkedStart inline.Link before from after to
IsRowLaid context (EnterImage target) before from after to = IsLinkedStart inline.Image before from after to
IsRowLaid context (Call label) before from after to = (after ≡ before) × AreCodes (call_codes (content_codes label.now)) from to
IsRowLaid context Exit before from after to = IsInnermostEnd context before from after to

-- at the end of rows all are closed, and spaces that aren't printed may be left
abbrev pub IsEnd : InlineContext → List Open → List InlineCode → List InlineCode → Type 0
IsEnd context [] from to = MayBeSpaces context.options.constructs from to
IsEnd context (o ∷ os) from to = ⊥

-- rows, one after another, where these are open, the innermost first
abbrev pub AreRowsLaid : InlineContext → List Open → List InlineRow → List InlineCode → List InlineCode → Type 0
AreRowsLaid context os [] from to = IsEnd context os from to
AreRowsLaid context os (row ∷ rows) from to =
    (after : List Open) × (next : List InlineCode) × IsRowLaid context row os from after next × AreRowsLaid context after rows next to

-- ---- rows with the steps that they stand for

-- the row of a step, where it is known where targets lead
abbrev pub step_row : (Target → LinkTexts) → Step → seen.InlineRow
step_row leads (Holds part) = Part part
step_row leads (EntersSpan kind) = seen.EnterSpan kind
step_row leads (EntersLinked kind target) = seen.EnterLinked kind (leads target)
step_row leads Leaves = Leave
step_row leads (HoldsCall label) = CallRow label

-- so many leaves first
abbrev pub AreHeld : List InlineLeaf → List Step → List Step → Type 0
AreHeld parts steps left = steps ≡ map Holds parts ++ left

-- the start of a link or an image first, which leads where what is open after it does
abbrev pub AreEntered : LinkedKind → List Open → List Step → List Step → Type 0
AreEntered kind (OpenLinked target inside ∷ after) steps left = steps ≡ EntersLinked kind target ∷ left
AreEntered kind after steps left = ⊥

-- the steps of a row come first, and these are left
abbrev pub AreStepsOf : InlineRow → List Open → List Step → List Step → Type 0
AreStepsOf (Text text) after steps left = AreHeld (map inline.Data text.now) steps left
AreStepsOf (Verbatim verbatim) after steps left = AreHeld (map line_leaf verbatim.text.now) steps left
AreStepsOf (Leaf part) after steps left = AreHeld (parts_of part) steps left
AreStepsOf (Spelled leaf) after steps left = steps ≡ Holds (spelled_view leaf) ∷ left
AreStepsOf (EnterSpan span) after steps left = steps ≡ EntersSpan (span_view span) ∷ left
AreStepsOf (EnterLink target) after steps left = AreEntered inline.Link after steps left
AreStepsOf (EnterImage target) after steps left = AreEntered inline.Image after steps left
AreStepsOf (Call label) after steps left = steps ≡ HoldsCall (content_codes label.now) ∷ left
AreStepsOf Exit after steps left = steps ≡ Leaves ∷ left

-- the first of some rows is laid, by its steps, and the others stand for the steps that are left, which are laid, too
pub record IsFirstLaid (context : InlineContext) (leads : Target → LinkTexts) (row : InlineRow) (others : List seen.InlineRow) (before : List Open)
    (steps : List Step) (from to : List InlineCode) : Type 0 where
  pub after : List Open
  pub next : List InlineCode
  pub left : List Step
  pub here : IsRowLaid context row before from after next
  pub own : AreStepsOf row after steps left
  pub same : others ≡ map (step_row leads) left
  pub laid : AreLaid context after left next to
