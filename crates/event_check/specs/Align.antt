-- How the columns of a table are aligned, by the markers of its row of delimiters.
use Rattle.std.specs.Prelude.{ℕ, ◌+◌, ◌-◌, Bool, true, false, ◌==◌, if◌then◌else◌, List, [], ◌∷◌, map}
use Rattle.engine_events.specs.Names.{same_name}
use Rattle.engine_events.specs.declared.event.Event.{Event}
use Rattle.engine_events.specs.declared.event.Kind.{Kind}
use Rattle.engine_events.specs.declared.event.Kind.TheVariants.{Enter, Exit}
use Rattle.engine_events.specs.declared.event.Name.{Name}
use Rattle.engine_events.specs.declared.event.Name.TheVariants as n
use Rattle.markdown_options.specs.declared.align_kind.AlignKind.{AlignKind}
use Rattle.markdown_options.specs.declared.align_kind.AlignKind.TheVariants as aligns
use Rattle.event_grammar.specs.Trees.{Node, Nodes, Around, Nil, Cons}
use Rattle.event_grammar.specs.References.{named}
use Rattle.event_check.specs.declared.align.Marks.{Marks}

-- which markers a cell's value has: before its filler, after it
abbrev pub marks : Bool → Bool → Bool → Marks
marks before filled after = record { before = before; filled = filled; after = after }

abbrev pub mark : Name → Marks → Marks
mark name m =
    if same_name name n.GfmTableDelimiterFiller then record m { filled = true }
    else if same_name name n.GfmTableDelimiterMarker then (if m.filled then record m { after = true } else record m { before = true })
    else m

abbrev pub align_of : Marks → AlignKind
align_of m = if m.before then (if m.after then aligns.Center else aligns.Left) else if m.after then aligns.Right else aligns.None

-- ---- by the tree

abbrev mutual
  pub node_marks : Node → Marks → Marks
  node_marks (Around enter kids exit) m = marks_in kids (mark enter.name m)

  pub marks_in : Nodes → Marks → Marks
  marks_in Nil m = m
  marks_in (Cons node ns) m = marks_in ns (node_marks node m)

abbrev pub value_align : Node → AlignKind
value_align (Around enter kids exit) = align_of (marks_in kids (marks false false false))

-- those of the cells' values in these nodes
abbrev pub table_align : Nodes → List AlignKind
table_align ns = map value_align (named n.GfmTableDelimiterCellValue ns)

-- ---- the same by events

abbrev pub marks_next : Kind → Name → ℕ → Marks → (ℕ → Marks → Marks) → Marks
marks_next Enter name depth m others = others (depth + 1) (mark name m)
marks_next Exit name depth m others = if depth == 0 then m else others (depth - 1) m

abbrev pub marks_after : ℕ → Marks → List Event → Marks
marks_after depth m [] = m
marks_after depth m (e ∷ es) = marks_next e.kind e.name depth m (λ d k. marks_after d k es)

abbrev pub aligns_next : Kind → Name → AlignKind → ℕ → (ℕ → List AlignKind) → List AlignKind
aligns_next Enter name align depth others =
    if same_name name n.GfmTableDelimiterCellValue then align ∷ others (depth + 1) else others (depth + 1)
aligns_next Exit name align depth others = if depth == 0 then [] else others (depth - 1)

abbrev pub aligns_after : ℕ → List Event → List AlignKind
aligns_after depth [] = []
aligns_after depth (e ∷ es) =
    aligns_next e.kind e.name (align_of (marks_after 0 (marks false false false) es)) depth (λ d. aligns_after d es)
