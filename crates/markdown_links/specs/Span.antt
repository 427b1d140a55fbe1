-- Where links are, and the events in them that say where they lead: from the last event to the first.
use Rattle.std.specs.Prelude.{ℕ, ◌+◌, Bool, ◌||◌, if◌then◌else◌, false, List, [], ◌∷◌, drop, reverse, Option, None, Some}
use Rattle.std.specs.Option.{option_or}
use Rattle.engine_events.specs.Events.{point_of}
use Rattle.engine_events.specs.Names.{same_name}
use Rattle.engine_events.specs.declared.event.Event.{Event}
use Rattle.engine_events.specs.declared.event.Kind.{Kind}
use Rattle.engine_events.specs.declared.event.Kind.TheVariants.{Enter, Exit}
use Rattle.engine_events.specs.declared.event.Name.{Name}
use Rattle.engine_events.specs.declared.event.Name.TheVariants as n
use Rattle.engine_events.specs.declared.place.Point.{Point}
use Rattle.markdown_links.specs.Kind.{kind_of}
use Rattle.markdown_links.specs.declared.kind.LinkKind.{LinkKind}
use Rattle.markdown_links.specs.declared.kind.LinkKind.TheVariants as kinds
use Rattle.markdown_links.specs.declared.span.Parts.{Parts}
use Rattle.markdown_links.specs.declared.span.Scan.{Scan}
use Rattle.markdown_links.specs.declared.span.Span.{Span}

abbrev pub text_start : Point
text_start = record { line = 1; column = 1; index = 0; vs = 0 }

-- nothing of a link is known but its end
abbrev pub new_parts : Point → Parts
new_parts end = record { end = end; has_resource = false; target = None; label = None; text = None }

-- whether an event of this name spells a destination or an address
abbrev pub is_target : Name → Bool
is_target name =
    same_name name n.ResourceDestinationString || (same_name name n.DefinitionDestinationString
    || (same_name name n.AutolinkProtocol || same_name name n.AutolinkEmail))

-- whether an event of this name is the label of a reference or of a definition
abbrev pub is_label : Name → Bool
is_label name = same_name name n.ReferenceString || same_name name n.DefinitionLabelString

abbrev pub some_if : Bool → ℕ → Option ℕ → Option ℕ
some_if is_one index known = if is_one then Some index else known

-- an event before those that are known
abbrev pub noted : Name → ℕ → Parts → Parts
noted name index parts = record {
  end = parts.end;
  has_resource = same_name name n.Resource || parts.has_resource;
  target = some_if (is_target name) index parts.target;
  label = some_if (is_label name) index parts.label;
  text = some_if (same_name name n.LabelText) index parts.text;
}

-- a literal spells its own address
abbrev pub target_of : LinkKind → ℕ → Parts → Option ℕ
target_of kinds.Literal index parts = Some index
target_of kind index parts = parts.target

-- the label of a link: none beside a resource, otherwise that of a full reference, or else its text (CommonMark 6.3)
abbrev pub label_of : Parts → Option ℕ
label_of parts = if parts.has_resource then None else option_or parts.label parts.text

abbrev pub span_of : LinkKind → ℕ → Point → Parts → Span
span_of kind index at parts = record {
  kind = kind;
  enter = index;
  start = at;
  end = parts.end;
  target = target_of kind index parts;
  label = label_of parts;
}

-- what was read: the links from the first to the last, the innermost link that is open, and those around it from the inside out
pub record Scanned : Type 0 where
  pub spans : List Span
  pub inner : Parts
  pub outer : List Parts

abbrev pub nothing : Scanned
nothing = record { spans = []; inner = new_parts text_start; outer = [] }

abbrev pub first_parts : List Parts → Parts
first_parts [] = new_parts text_start
first_parts (p ∷ ps) = p

abbrev pub exited : Point → Scanned → Scanned
exited end s = record { spans = s.spans; inner = new_parts end; outer = s.inner ∷ s.outer }

abbrev pub entered : LinkKind → ℕ → Point → Scanned → Scanned
entered kind index at s = record { spans = span_of kind index at s.inner ∷ s.spans; inner = first_parts s.outer; outer = drop 1 s.outer }

abbrev pub noted_in : Name → ℕ → Scanned → Scanned
noted_in name index s = record { spans = s.spans; inner = noted name index s.inner; outer = s.outer }

abbrev pub scan_by : Kind → Option LinkKind → Name → ℕ → Point → Scanned → Scanned
scan_by Exit (Some kind) name index at s = exited at s
scan_by Exit None name index at s = s
scan_by Enter (Some kind) name index at s = entered kind index at s
scan_by Enter None name index at s = noted_in name index s

-- an event of this index before those that were read
abbrev pub scan_next : Event → ℕ → Scanned → Scanned
scan_next e index s = scan_by e.kind (kind_of e.name) e.name index (point_of e) s

-- events, of which the first has this index
abbrev pub scan_from : ℕ → List Event → Scanned
scan_from index [] = nothing
scan_from index (e ∷ es) = scan_next e index (scan_from (index + 1) es)

-- the links of a list of events
abbrev pub spans_of : List Event → List Span
spans_of events = (scan_from 0 events).spans

abbrev pub scan_view : {A : Type 0} → Scan A → Scanned
scan_view s = record { spans = reverse s.spans.items; inner = s.inner; outer = reverse s.outer.items }
