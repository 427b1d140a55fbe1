-- Where a walk is among the rows of a text: what is written of the inline structure, and what is left of it (CommonMark 6).
use Rattle.std.specs.Prelude.{◌≡◌, ◌⊎◌, ◌<◌, ℕ, Bool, true, false, List, [], ◌∷◌, ◌++◌, None, Some, length, map, replicate, reverse}
use Rattle.markdown_options.specs.declared.configuration.Constructs.{Constructs}
use Rattle.engine_events.specs.declared.event.Name.{Name}
use Rattle.engine_events.specs.declared.event.Name.TheVariants as n
use Rattle.definition_text.specs.Ascii.{right_bracket}
use Rattle.definition_text.specs.Columns.{Code}
use Rattle.definition_text.specs.Content.{content_codes}
use Rattle.definition_text.specs.InlineCode.{InlineCode}
use Rattle.definition_inline.specs.CharacterReference.{Names}
use Rattle.definition_inline.specs.Inline.{Target, Resource, Reference, LinkTexts, LinkedKind, Link, Image, Inline, Span, Linked, Inlines}
use Rattle.definition_inline.specs.Resource.{LinkResource}
use Rattle.definition_inline.specs.Scan.{InlineContext}
use Rattle.definition_page.specs.InlinePieces.{Meaning}
use Rattle.inline_rows.specs.InlineRows as seen
use Rattle.inline_rows.specs.View.{lines_rows, row_view}
use Rattle.inline_rows.specs.declared.row.InlineRow.{InlineRow}
use Rattle.inline_rows.specs.declared.row.InlineRow.TheVariants.{Exit}
use Rattle.inline_runs.specs.View.{span_view}
use Rattle.inline_runs.specs.declared.pair.Span as runs
use Rattle.event_grammar.specs.declared.slot.Between.{Between}
use Rattle.event_grammar.specs.declared.slot.Form.TheVariants.{Plain}
use Rattle.event_grammar.specs.InGrammar.{node_name}
use Rattle.event_tokens.specs.Tokens.{is_token}
use Rattle.event_grammar.specs.References.{label_text, named, own}
use Rattle.event_grammar.specs.Trees.{Node, Nodes}
use Rattle.event_meaning.specs.Texts.{inlines_of}
use Rattle.parse_output.specs.Forest.{one, void_nodes}
use Rattle.parse_output.specs.Written.{end_in}
use Rattle.parse_lines.specs.declared.walk.Walk.{Walk}
use Rattle.parse_lines.specs.Content.{end_after}
use Rattle.parse_lines.specs.InContent.{EntersInContent, ExitsInContent, IsWhole, Stop, WritesInContent}
use Rattle.parse_links.specs.Tails.{FillsTail, SpellsResource}
use Rattle.parse_slots.specs.Left.{IsFilled, MayEndLines}
use Rattle.parse_references.specs.Sound.{AreSound}
use Rattle.parse_strings.specs.Plain.{ArePlain}
use Rattle.parse_alike.specs.Inline.{ArePartsAlike}
use Rattle.parse_alike.specs.LabelMatch.{HaveSameWords}
use Rattle.parse_alike.specs.Strings.{HaveTextsOfBytes}
use Rattle.parse_written.specs.Bytes.{AreBytesAt}
use Rattle.parse_written.specs.Rows.{step_row}
use Rattle.parse_written.specs.Laid.{AreLaid, Open, OpenSpan, OpenLinked, Step}
use Rattle.parse_written.specs.Written.{EndNoLine}
use Rattle.parse_inline.specs.declared.opened.Open as opened
use Rattle.parse_inline.specs.declared.opened.Open.TheVariants as held
use Rattle.parse_inline.specs.Holes.{AreLinkable, Hole, filled, hole, in_link}
use Rattle.parse_inline.specs.Leaving.{sequence_name, span_name, text_name}
use Rattle.parse_inline.specs.Texts.{AreMeanings, FillsText, StandsInText}

-- ---- starts and ends

-- what holds no other, of the next bytes, so many
abbrev pub void_next : {A : Type 0} → List ℕ → Name → ℕ → Walk A → Nodes
void_next text name size w = void_nodes text name (end_in w.out) (end_after (end_in w.out) size)

-- a span is entered, and after its sequence the text in it
pub record EntersSpan {A : Type 0} (text : List ℕ) (span : runs.Span) (front content : List ℕ) (stop : Stop) (old new : Walk A) : Type 0 where
  pub outer : Walk A
  pub inner : Walk A
  pub enters : EntersInContent text (span_name span) (front ++ content) stop old outer
  pub sequence : WritesInContent text front (void_next text (sequence_name span) (length front) outer) content stop outer inner
  pub starts : EntersInContent text (text_name span) content stop inner new
  pub whole : IsWhole new

-- the text in a span is exited, and after the sequence the span
pub record LeavesSpan {A : Type 0} (text : List ℕ) (span : runs.Span) (front content : List ℕ) (stop : Stop) (old new : Walk A) : Type 0 where
  pub inner : Walk A
  pub outer : Walk A
  pub ends : ExitsInContent text (text_name span) (front ++ content) stop old inner
  pub sequence : WritesInContent text front (void_next text (sequence_name span) (length front) inner) content stop inner outer
  pub leaves : ExitsInContent text (span_name span) content stop outer new
  pub whole : IsWhole new

-- a mark of a label is written
pub record WritesMark {A : Type 0} (text : List ℕ) (name : Name) (front content : List ℕ) (stop : Stop) (old new : Walk A) : Type 0 where
  pub mark : Node
  pub named : node_name mark ≡ name
  pub writes : WritesInContent text front (one mark) content stop old new
  pub plain : ArePlain (one mark)
  pub whole : IsWhole new
  pub filled : (around : Between) → IsFilled around Plain mark

-- an event is entered, in it a label, and after the mark of a name the text of the label
pub record EntersLabel {A : Type 0} (text : List ℕ) (name mark : Name) (front content : List ℕ) (stop : Stop) (old new : Walk A) : Type 0 where
  pub outer : Walk A
  pub inner : Walk A
  pub last : Walk A
  pub enters : EntersInContent text name (front ++ content) stop old outer
  pub label : EntersInContent text n.Label (front ++ content) stop outer inner
  pub marks : WritesMark text mark front content stop inner last
  pub starts : EntersInContent text n.LabelText content stop last new
  pub whole : IsWhole new

-- the text of a label is exited, and after the `]` the label
pub record EndsLabel {A : Type 0} (text content : List ℕ) (stop : Stop) (old new : Walk A) : Type 0 where
  pub inner : Walk A
  pub last : Walk A
  pub ends : ExitsInContent text n.LabelText (right_bracket ∷ content) stop old inner
  pub marks : WritesMark text n.LabelEnd (right_bracket ∷ []) content stop inner last
  pub leaves : ExitsInContent text n.Label content stop last new
  pub whole : IsWhole new

-- nodes behind a label spell where a link or an image leads: a resource, or the label of a reference, or else the text of the label
abbrev pub SpellsTarget : InlineContext → List ℕ → Target → List Code → Nodes → Type 0
SpellsTarget context text (Resource destination title) own_text ns =
    (read : LinkResource) × (read.destination ≡ destination) × (read.title ≡ title)
    × SpellsResource context.options.constructs context.names text read ns
SpellsTarget context text (Reference label) own_text ns =
    (own n.Resource ns ≡ None) × (named n.Definition ns ≡ []) × (named n.GfmTableDelimiterCellValue ns ≡ [])
    × (((own n.ReferenceString ns ≡ None) × (label ≡ own_text))
    ⊎ ((node : Node) × (own n.ReferenceString ns ≡ Some node) × HaveSameWords label (content_codes (label_text text node))))

-- nodes are written behind a label, which spell where a link or an image leads, and other bytes are at a place
pub record WritesBehind {A : Type 0} (context : InlineContext) (text : List ℕ) (target : Target) (own_text : List Code) (content : List ℕ)
    (to : List InlineCode) (stop : Stop) (old new : Walk A) : Type 0 where
  pub front : List ℕ
  pub after : List ℕ
  pub both : content ≡ front ++ after
  pub nodes : Nodes
  pub writes : WritesInContent text front nodes after stop old new
  pub whole : IsWhole new
  pub left : AreBytesAt after to
  pub leads : SpellsTarget context text target own_text nodes
  pub fill : (around : Between) → MayEndLines around front → FillsTail around nodes
  pub sound : AreSound context.options.constructs context.names text nodes

-- a link or an image is exited, after the end of its label and what is behind that
pub record LeavesLinked {A : Type 0} (context : InlineContext) (text : List ℕ) (name : Name) (target : Target) (own_text : List Code) (content : List ℕ)
    (to : List InlineCode) (stop : Stop) (old new : Walk A) : Type 0 where
  pub ended : Walk A
  pub last : Walk A
  pub behind : List ℕ
  pub bracket : content ≡ right_bracket ∷ behind
  pub label : EndsLabel text behind stop old ended
  pub tail : WritesBehind context text target own_text behind to stop ended last
  pub leaves : ExitsInContent text name tail.after stop last new
  pub whole : IsWhole new

-- nodes are written for a call of a footnote, in a link or outside, and other bytes are at a place
pub record WritesCall {A : Type 0} (context : InlineContext) (text : List ℕ) (label : List Code) (content : List ℕ) (to : List InlineCode) (stop : Stop)
    (old new : Walk A) : Type 0 where
  pub front : List ℕ
  pub after : List ℕ
  pub both : content ≡ front ++ after
  pub nodes : Nodes
  pub writes : WritesInContent text front nodes after stop old new
  pub whole : IsWhole new
  pub left : AreBytesAt after to
  pub spells : (linked : Bool) (m m' : Meaning) → ArePartsAlike m m' (Inlines.Cons (Inline.Call label) Inlines.Nil) (inlines_of context.names text linked nodes)
  pub plain : ArePlain nodes
  pub fill : FillsText front nodes
  pub sound : AreSound context.options.constructs context.names text nodes

-- ---- what is open

-- a span, with the byte and the size of its sequences; a link or an image, with where it leads and the codes from its text on
pub data Frame : Type 0 where
  InSpan : runs.Span → ℕ → ℕ → Frame
  InLinked : LinkedKind → Target → List InlineCode → Frame

-- what is open, and the parts before it
pub record Level : Type 0 where
  pub frame : Frame
  pub before : Inlines

abbrev pub level : Frame → Inlines → Level
level frame before = record { frame = frame; before = before }

-- the part that it is with those in it
abbrev pub framed : Frame → Inlines → Inline
framed (InSpan span marker size) = Span (span_view span)
framed (InLinked kind target inside) = Linked kind target

abbrev pub hole_of : Level → Hole
hole_of l = hole l.before (framed l.frame)

-- as code keeps it
abbrev pub held_of : Frame → opened.Open
held_of (InSpan span marker size) = held.Span span size
held_of (InLinked Link target inside) = held.Link
held_of (InLinked Image target inside) = held.Image

-- as steps are laid in it
abbrev pub laid_of : Frame → Open
laid_of (InSpan span marker size) = OpenSpan marker size
laid_of (InLinked kind target inside) = OpenLinked target inside

abbrev pub is_link : Frame → Bool
is_link (InLinked Link target inside) = true
is_link frame = false

abbrev pub links : List Level → List Bool
links ls = map (λ (l : Level). is_link l.frame) ls

-- the event of a link or an image, and the mark before its text
abbrev pub linked_name : LinkedKind → Name
linked_name Link = n.Link
linked_name Image = n.Image

abbrev pub mark_name : LinkedKind → Name
mark_name Link = n.LabelLink
mark_name Image = n.LabelImage

-- it is entered by its first bytes
abbrev pub EntersFrame : {A : Type 0} → List ℕ → Frame → List ℕ → List ℕ → Stop → Walk A → Walk A → Type 0
EntersFrame text (InSpan span marker size) front content stop old new =
    (front ≡ replicate size marker) × EndNoLine (replicate size marker) × (is_token (sequence_name span) (replicate size marker) ≡ true) × (0 < size)
    × EntersSpan text span front content stop old new
EntersFrame text (InLinked kind target inside) front content stop old new =
    AreBytesAt content inside × EntersLabel text (linked_name kind) (mark_name kind) front content stop old new

-- ---- what is written

-- nodes are written for the first of some bytes, which spell these parts, in a link or outside, and the others are ahead
pub record WritesParts {A : Type 0} (context : InlineContext) (text : List ℕ) (linked : Bool) (is : Inlines) (bytes content : List ℕ) (stop : Stop)
    (old new : Walk A) : Type 0 where
  pub front : List ℕ
  pub both : bytes ≡ front ++ content
  pub nodes : Nodes
  pub writes : WritesInContent text front nodes content stop old new
  pub spells : (m m' : Meaning) → AreMeanings context.options.constructs context.names m m'
      → ArePartsAlike m m' is (inlines_of context.names text linked nodes)
  pub plain : ArePlain nodes
  pub fill : FillsText front nodes
  pub sound : AreSound context.options.constructs context.names text nodes

-- parts are written in what is open, the innermost first, since the first of these bytes
pub data AreWritten {A : Type 0} (context : InlineContext) (text bytes : List ℕ) (stop : Stop) (first : Walk A)
    : List Level → Inlines → List ℕ → Walk A → Type 0 where
  Outside : (kids : Inlines) (content : List ℕ) (w : Walk A) → WritesParts context text false kids bytes content stop first w
      → AreWritten context text bytes stop first [] kids content w
  Inside : (l : Level) (ls : List Level) (kids : Inlines) (front here content : List ℕ) (outside inside w : Walk A)
      → AreWritten context text bytes stop first ls l.before (front ++ here) outside
      → EntersFrame text l.frame front here stop outside inside
      → WritesParts context text (in_link (links (l ∷ ls))) kids here content stop inside w
      → AreWritten context text bytes stop first (l ∷ ls) kids content w

-- ---- rows

-- a text: what its rows are read by, the content, of which these bytes are written by rows, and the inline structure that these stand for
pub record Setting : Type 0 where
  pub context : InlineContext
  pub leads : Target → LinkTexts
  pub at : ℕ → LinkTexts
  pub text : List ℕ
  pub content : List ℕ
  pub bytes : List ℕ
  pub is : Inlines
  pub stop : Stop

-- it is read by these constructs and names
pub record IsReadBy (on : Constructs) (names : Names) (content : List ℕ) (s : Setting) : Type 0 where
  pub read_on : s.context.options.constructs ≡ on
  pub read_names : s.context.names ≡ names
  pub texts : HaveTextsOfBytes s.context.names
  pub over : s.content ≡ content

-- as steps are laid in what is open
abbrev pub laid_levels : List Level → List Open
laid_levels ls = map (λ (l : Level). laid_of l.frame) ls

-- as code keeps it, the innermost last
abbrev pub held_levels : List Level → List opened.Open
held_levels ls = reverse (map (λ (l : Level). held_of l.frame) ls)

-- a walk is before these rows of a text, as the definition has them, where these are open
pub record IsInRows {A : Type 0} (s : Setting) (first : Walk A) (rows : List seen.InlineRow) (open_now : List opened.Open) (w : Walk A) : Type 0 where
  pub levels : List Level
  pub kids : Inlines
  pub left : List ℕ
  pub place : List InlineCode
  pub steps : List Step
  pub held : open_now ≡ held_levels levels
  pub written : AreWritten s.context s.text s.bytes s.stop first levels kids left w
  pub stands : StandsInText s.text s.content left place s.stop w
  pub tree : filled (map hole_of levels) kids steps ≡ s.is
  pub linkable : AreLinkable (links levels) steps
  pub same : rows ≡ map (step_row s.leads) steps
  pub laid : AreLaid s.context (laid_levels levels) steps place []

-- a row is written: where a walk was before it, it is before the others
pub record PassesRow {A : Type 0} (on : Constructs) (names : Names) (content : List ℕ) (row : InlineRow) (before after : List opened.Open) (old new : Walk A)
    : Type 0 where
  pub passes : (s : Setting) (first : Walk A) (rows : List seen.InlineRow) → IsReadBy on names content s
      → IsInRows s first (row_view s.at row ++ rows) before old → IsInRows s first rows after new

-- lines of a text are written up to these bytes of it, in which an LF is a soft line break (CommonMark 6.8)
pub record PassesLines {A : Type 0} (on : Constructs) (names : Names) (content text left : List ℕ) (old new : Walk A) : Type 0 where
  pub passes : (s : Setting) (first : Walk A) (rows : List seen.InlineRow) (held_now : List opened.Open) → IsReadBy on names content s
      → IsInRows s first (lines_rows text ++ rows) held_now old → IsInRows s first (lines_rows left ++ rows) held_now new

-- the end of what is open is written, whatever is open around it
pub record PassesExit {A : Type 0} (on : Constructs) (names : Names) (content : List ℕ) (o : opened.Open) (old new : Walk A) : Type 0 where
  pub passes : (others : List opened.Open) → PassesRow on names content Exit (others ++ o ∷ []) others old new
