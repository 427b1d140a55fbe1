-- Rows are laid where the steps that they stand for are.
use Rattle.std.proofs.Common.{◌≡◌, ℕ, List, [], ◌∷◌, ◌++◌, map, refl, sym, ap, ◌∙◌, subst}
use Rattle.definition_text.specs.Columns.{Code}
use Rattle.definition_text.specs.Content.{content_codes}
use Rattle.definition_text.specs.InlineCode.{InlineCode}
use Rattle.definition_inline.specs.Inline.{Target, LinkTexts, InlineLeaf, Data, SpanKind, LinkedKind}
use Rattle.definition_inline.specs.Inline as inline
use Rattle.definition_inline.specs.Scan.{InlineContext, inlines_from}
use Rattle.inline_leaves.specs.Leaves.{parts_of}
use Rattle.inline_leaves.specs.declared.leaf.LeafPart.{LeafPart}
use Rattle.inline_leaves.specs.declared.leaf.LeafPart.TheVariants.{Unclosed}
use Rattle.inline_rows.specs.InlineRows.{inline_rows}
use Rattle.inline_rows.specs.InlineRows as seen
use Rattle.inline_rows.specs.View.{data_rows, line_leaf, row_view, rows_view, spelled_view, target_texts}
use Rattle.inline_rows.specs.declared.row.InlineRow.{InlineRow}
use Rattle.inline_rows.specs.declared.row.InlineRow.TheVariants.{Text, Verbatim, Leaf, Spelled, EnterSpan, EnterLink, EnterImage, Call, Exit}
use Rattle.inline_runs.specs.View.{span_view}
use Rattle.inline_runs.specs.declared.pair.Span.{Span}
use Rattle.parse_written.specs.Laid.{Step, Holds, EntersSpan, EntersLinked, Leaves, HoldsCall, steps_of, Open, OpenSpan, OpenLinked, IsLeafLaid, AreLaid}
use Rattle.parse_written.specs.Written.{AreCodes, StartsSpan, linked_start, call_codes}
use Rattle.parse_written.proofs.Contents.{written_from_law}
use Rattle.parse_written.proofs.Laid.{laid_law}
use Rattle.parse_written.specs.RowLaws.{FirstRowLaw, RowsLaw}
use Rattle.parse_written.specs.Rows.{step_row, IsData, AreHeld, AreLeavesLaid, AreRowsLaid, IsFirstLaid, IsPartLaid}
use Rattle.parse_written.proofs.Steps.{rows_of_steps}

-- ---- bytes of text

data_laid : (context : InlineContext) (text : List ℕ) (from to : List InlineCode) → AreLeavesLaid context (map Data text) from to → IsData text from to
data_laid context [] from to p = record { codes = p; inline = tt }
data_laid context (b ∷ bs) [] to (next, is, p) = absurd is.codes
data_laid context (b ∷ bs) (c ∷ cs) to (next, is, p) =
    let first = is.codes in
    let here = is.inline in
    let others = data_laid context bs next to p in
    record { codes = (first.0, subst (λ k. AreCodes bs k to) (sym first.1) others.codes); inline = (here.0, others.inline) }

part_laid : (context : InlineContext) (part : LeafPart) (from to : List InlineCode) → AreLeavesLaid context (parts_of part) from to
    → IsPartLaid context part from to
part_laid context (Unclosed text) from to p = data_laid context text.now from to p
part_laid context part from to p = p

module _ (context : InlineContext) (leads : Target → LinkTexts) (at : ℕ → LinkTexts) where
  abbrev rows_by : List Step → List seen.InlineRow
  rows_by ss = map (step_row leads) ss

  -- leaves, and the steps after them
  record AfterLeaves (parts : List InlineLeaf) (os : List Open) (rows : List seen.InlineRow) (ss : List Step) (from to : List InlineCode) : Type 0 where
    next : List InlineCode
    left : List Step
    held : AreHeld parts ss left
    leaves : AreLeavesLaid context parts from next
    same : rows ≡ rows_by left
    laid : AreLaid context os left next to

  after_leaves : (parts : List InlineLeaf) (os : List Open) (rows : List seen.InlineRow) (ss : List Step) (from to : List InlineCode)
      → map seen.Part parts ++ rows ≡ rows_by ss → AreLaid context os ss from to → AfterLeaves parts os rows ss from to
  after_leaves [] os rows ss from to is p = record { next = from; left = ss; held = refl; leaves = refl; same = is; laid = p }
  after_leaves (part ∷ parts) os rows [] from to is p = absurd cc
  after_leaves (part ∷ parts) os rows (Holds other ∷ ss) from to is (mid, here, p) =
      let same : other ≡ part = cc in
      let later : map seen.Part parts ++ rows ≡ rows_by ss = cc in
      let after = after_leaves parts os rows ss mid to later p in
      record {
        next = after.next;
        left = after.left;
        held = ap (λ x. Holds x ∷ ss) same ∙ ap (λ xs. Holds part ∷ xs) after.held;
        leaves = (mid, subst (λ x. IsLeafLaid context x from mid) same here, after.leaves);
        same = after.same;
        laid = after.laid;
      }
  after_leaves (part ∷ parts) os rows (EntersSpan kind ∷ ss) from to is p = absurd cc
  after_leaves (part ∷ parts) os rows (EntersLinked kind target ∷ ss) from to is p = absurd cc
  after_leaves (part ∷ parts) os rows (Leaves ∷ ss) from to is p = absurd cc
  after_leaves (part ∷ parts) os rows (HoldsCall label ∷ ss) from to is p = absurd cc

  -- a row, and the steps after it
  abbrev AfterRow : InlineRow → List Open → List seen.InlineRow → List Step → List InlineCode → List InlineCode → Type 0
  AfterRow row os others ss from to = IsFirstLaid context leads row others os ss from to

  data_row : (text : List ℕ) (os : List Open) (others : List seen.InlineRow) (ss : List Step) (from to : List InlineCode)
      → data_rows text ++ others ≡ rows_by ss → AreLaid context os ss from to
      → (next : List InlineCode) × (left : List Step) × IsData text from next × AreHeld (map Data text) ss left × (others ≡ rows_by left)
      × AreLaid context os left next to
  data_row text os others ss from to is p =
      let found = after_leaves (map Data text) os others ss from to is p in
      (found.next, found.left, data_laid context text from found.next found.leaves, found.held, found.same, found.laid)

  span_row : (span : Span) (os : List Open) (others : List seen.InlineRow) (ss : List Step) (from to : List InlineCode)
      → seen.EnterSpan (span_view span) ∷ others ≡ rows_by ss → AreLaid context os ss from to → AfterRow (EnterSpan span) os others ss from to
  span_row span os others [] from to is p = absurd cc
  span_row span os others (Holds part ∷ ss) from to is p = absurd cc
  span_row span os others (EntersSpan kind ∷ ss) from to is (marker, size, next, starts, p) =
      let same : kind ≡ span_view span = cc in
      let starts_here = subst (λ k. StartsSpan context.options k marker size from next) same starts in
      record {
        after = OpenSpan marker size ∷ os;
        next = next;
        left = ss;
        here = record { marker = marker; size = size; starts = starts_here; opened = refl };
        own = ap (λ k. EntersSpan k ∷ ss) same;
        same = cc;
        laid = p;
      }
  span_row span os others (EntersLinked kind target ∷ ss) from to is p = absurd cc
  span_row span os others (Leaves ∷ ss) from to is p = absurd cc
  span_row span os others (HoldsCall label ∷ ss) from to is p = absurd cc

  linked_row : (kind : LinkedKind) (texts : LinkTexts) (os : List Open) (others : List seen.InlineRow) (ss : List Step) (from to : List InlineCode)
      → seen.EnterLinked kind texts ∷ others ≡ rows_by ss → AreLaid context os ss from to
      → (target : Target) × (next : List InlineCode) × (left : List Step) × AreCodes (linked_start kind) from next
      × (ss ≡ EntersLinked kind target ∷ left) × (others ≡ rows_by left) × AreLaid context (OpenLinked target next ∷ os) left next to
  linked_row kind texts os others [] from to is p = absurd cc
  linked_row kind texts os others (Holds part ∷ ss) from to is p = absurd cc
  linked_row kind texts os others (EntersSpan other ∷ ss) from to is p = absurd cc
  linked_row kind texts os others (EntersLinked other target ∷ ss) from to is (next, codes, p) =
      let same : other ≡ kind = cc in
      let later : others ≡ rows_by ss = cc in
      (target, next, ss, subst (λ k. AreCodes (linked_start k) from next) same codes, ap (λ k. EntersLinked k target ∷ ss) same, later, p)
  linked_row kind texts os others (Leaves ∷ ss) from to is p = absurd cc
  linked_row kind texts os others (HoldsCall label ∷ ss) from to is p = absurd cc

  call_row : (label : List Code) (os : List Open) (others : List seen.InlineRow) (ss : List Step) (from to : List InlineCode)
      → seen.CallRow label ∷ others ≡ rows_by ss → AreLaid context os ss from to
      → (next : List InlineCode) × (left : List Step) × AreCodes (call_codes label) from next × (ss ≡ HoldsCall label ∷ left) × (others ≡ rows_by left)
      × AreLaid context os left next to
  call_row label os others [] from to is p = absurd cc
  call_row label os others (Holds part ∷ ss) from to is p = absurd cc
  call_row label os others (EntersSpan kind ∷ ss) from to is p = absurd cc
  call_row label os others (EntersLinked kind target ∷ ss) from to is p = absurd cc
  call_row label os others (Leaves ∷ ss) from to is p = absurd cc
  call_row label os others (HoldsCall other ∷ ss) from to is (next, codes, p) =
      let same : other ≡ label = cc in
      let later : others ≡ rows_by ss = cc in
      (next, ss, subst (λ k. AreCodes (call_codes k) from next) same codes, ap (λ k. HoldsCall k ∷ ss) same, later, p)

  exit_row : (os : List Open) (others : List seen.InlineRow) (ss : List Step) (from to : List InlineCode)
      → seen.Leave ∷ others ≡ rows_by ss → AreLaid context os ss from to → AfterRow Exit os others ss from to
  exit_row os others [] from to is p = absurd cc
  exit_row os others (Holds part ∷ ss) from to is p = absurd cc
  exit_row os others (EntersSpan kind ∷ ss) from to is p = absurd cc
  exit_row os others (EntersLinked kind target ∷ ss) from to is p = absurd cc
  exit_row [] others (Leaves ∷ ss) from to is p = absurd p
  exit_row (OpenSpan marker size ∷ os) others (Leaves ∷ ss) from to is (next, codes, p) =
      record { after = os; next = next; left = ss; here = (refl, codes); own = refl; same = cc; laid = p }
  exit_row (OpenLinked target inside ∷ os) others (Leaves ∷ ss) from to is (next, ends, p) =
      record { after = os; next = next; left = ss; here = (refl, ends); own = refl; same = cc; laid = p }
  exit_row os others (HoldsCall label ∷ ss) from to is p = absurd cc

  row_laid : (row : InlineRow) (os : List Open) (others : List seen.InlineRow) (ss : List Step) (from to : List InlineCode)
      → row_view at row ++ others ≡ rows_by ss → AreLaid context os ss from to → AfterRow row os others ss from to
  row_laid (Text text) os others ss from to is p =
      let (next, left, text_laid, held, same, laid) = data_row text.now os others ss from to is p in
      record { after = os; next = next; left = left; here = (refl, text_laid); own = held; same = same; laid = laid }
  row_laid (Verbatim verbatim) os others ss from to is p =
      let found = after_leaves (map line_leaf verbatim.text.now) os others ss from to is p in
      record { after = os; next = found.next; left = found.left; here = (refl, found.leaves); own = found.held; same = found.same; laid = found.laid }
  row_laid (Leaf part) os others ss from to is p =
      let found = after_leaves (parts_of part) os others ss from to is p in
      record {
        after = os;
        next = found.next;
        left = found.left;
        here = (refl, part_laid context part from found.next found.leaves);
        own = found.held;
        same = found.same;
        laid = found.laid;
      }
  row_laid (Spelled leaf) os others ss from to is p =
      let found = after_leaves (spelled_view leaf ∷ []) os others ss from to is p in
      let (end, here, last) = found.leaves in
      record {
        after = os;
        next = found.next;
        left = found.left;
        here = (refl, subst (λ k. IsLeafLaid context (spelled_view leaf) from k) last here);
        own = found.held;
        same = found.same;
        laid = found.laid;
      }
  row_laid (EnterSpan span) os others ss from to is p = span_row span os others ss from to is p
  row_laid (EnterLink target) os others ss from to is p =
      let (leading, next, left, codes, entered, same, laid) = linked_row inline.Link (target_texts at target) os others ss from to is p in
      record {
        after = OpenLinked leading next ∷ os;
        next = next;
        left = left;
        here = record { target = leading; codes = codes; opened = refl };
        own = entered;
        same = same;
        laid = laid;
      }
  row_laid (EnterImage target) os others ss from to is p =
      let (leading, next, left, codes, entered, same, laid) = linked_row inline.Image (target_texts at target) os others ss from to is p in
      record {
        after = OpenLinked leading next ∷ os;
        next = next;
        left = left;
        here = record { target = leading; codes = codes; opened = refl };
        own = entered;
        same = same;
        laid = laid;
      }
  row_laid (Call label) os others ss from to is p =
      let (next, left, codes, first, same, laid) = call_row (content_codes label.now) os others ss from to is p in
      record { after = os; next = next; left = left; here = (refl, codes); own = first; same = same; laid = laid }
  row_laid Exit os others ss from to is p = exit_row os others ss from to is p

  rows_laid : (rows : List InlineRow) (os : List Open) (ss : List Step) (from to : List InlineCode) → rows_view at rows ≡ rows_by ss
      → AreLaid context os ss from to → AreRowsLaid context os rows from to
  rows_laid [] [] [] from to is p = p
  rows_laid [] (o ∷ os) [] from to is p = absurd p
  rows_laid [] os (s ∷ ss) from to is p = absurd cc
  rows_laid (row ∷ rows) os ss from to is p =
      let found = row_laid row os (rows_view at rows) ss from to is p in
      (found.after, found.next, found.here, rows_laid rows found.after found.left found.next to found.same found.laid)

pub first_row_law : FirstRowLaw
first_row_law context leads at row others before steps from to is p = row_laid context leads at row before others steps from to is p

pub rows_law : RowsLaw
rows_law context leads at content rows is =
    let kids = inlines_from context content in
    rows_laid context leads at rows [] (steps_of kids) content [] (is ∙ rows_of_steps leads kids)
    (laid_law context kids content [] (written_from_law context content))
