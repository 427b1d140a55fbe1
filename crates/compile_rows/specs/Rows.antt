-- The rows of the events of a text, one event after another.
use Rattle.std.specs.Prelude.{ℕ, Bool, false, ◌==◌, not, ◌||◌, if◌then◌else◌, List, [], ◌∷◌, ◌++◌, drop, Option, None, Some}
use Rattle.engine_events.specs.Names.{same_name}
use Rattle.engine_events.specs.declared.event.Event.{Event}
use Rattle.engine_events.specs.declared.event.Kind.{Kind}
use Rattle.engine_events.specs.declared.event.Kind.TheVariants.{Enter, Exit}
use Rattle.engine_events.specs.declared.event.Name.{Name}
use Rattle.engine_events.specs.declared.event.Name.TheVariants as n
use Rattle.definition_inline.specs.CharacterReference.{Names}
use Rattle.definition_inline.specs.CodeText.{without_padding}
use Rattle.definition_inline.specs.Inline.{Target, LinkTexts, InlineLeaf, Code, Math, TaskCheck, SpanKind, Link, Image}
use Rattle.inline_rows.specs.InlineRows.{InlineRow, Part, EnterSpan, EnterLinked, Leave, CallRow}
use Rattle.event_grammar.specs.Spans.{span_of}
use Rattle.compile_rows.specs.Places.{entered, exited}
use Rattle.compile_rows.specs.Leaves.{has, leaf_rows}
use Rattle.compile_strings.specs.RawTexts.{sequence_of, raw_after}
use Rattle.compile_strings.specs.Targets.{label_by, target_by}
use Rattle.compile_rows.specs.declared.rows.Mode.{Mode}
use Rattle.compile_rows.specs.declared.rows.Mode.TheVariants.{Text}
use Rattle.compile_rows.specs.declared.rows.Place.{Place}

-- raw text of this name: math, or code
abbrev pub raw_leaf : Name → List ℕ → InlineLeaf
raw_leaf name text = if same_name name n.CodeText then Code text else Math text

abbrev pub exit_in : Mode → Name → List InlineRow
exit_in Text name = []
exit_in mode name = if same_name name n.Label then [] else Leave ∷ []

-- the rows of an event that is exited
abbrev pub exit_rows : Place → Name → List InlineRow
exit_rows p name = if p.skipped == 0 then exit_in p.mode name else []

module _ (names : Names) (bytes : List ℕ) where
  module _ (leads : Target → LinkTexts) (in_link : Bool) where
    -- an event that holds no text with rows of its own, by the events from its enter on
    abbrev pub alone_rows : Option Name → Name → ℕ → List Event → List InlineRow
    alone_rows (Some sequence) name links events = Part (raw_leaf name (without_padding (raw_after bytes sequence false 0 (drop 1 events)))) ∷ []
    alone_rows None name links events =
        if same_name name n.GfmFootnoteCall then CallRow (label_by names bytes (drop 1 events)) ∷ []
        else (if same_name name n.GfmTaskListItemCheck then Part (TaskCheck (has n.GfmTaskListItemValueChecked (drop 1 events))) ∷ []
        else leaf_rows names bytes (in_link || not (links == 0)) name events)

    -- a part of a text, by the events from its enter on
    abbrev pub part_rows : Option SpanKind → Name → ℕ → List Event → List InlineRow
    part_rows (Some span) name links events = EnterSpan span ∷ []
    part_rows None name links events =
        if same_name name n.Link then EnterLinked Link (leads (target_by names bytes (drop 1 events))) ∷ []
        else (if same_name name n.Image then EnterLinked Image (leads (target_by names bytes (drop 1 events))) ∷ []
        else alone_rows (sequence_of name) name links events)

    abbrev pub enter_in : Mode → Name → ℕ → List Event → List InlineRow
    enter_in Text name links events = part_rows (span_of name) name links events
    enter_in mode name links events = []

    -- the rows of an event that is entered
    abbrev pub enter_rows : Place → Name → List Event → List InlineRow
    enter_rows p name events = if p.skipped == 0 then enter_in p.mode name p.links events else []

    abbrev pub rows_next : Kind → Name → Place → List Event → (Place → List InlineRow) → List InlineRow
    rows_next Enter name p events others = enter_rows p name events ++ others (entered p name)
    rows_next Exit name p events others = exit_rows p name ++ others (exited p name)

    -- the rows of events from a place on
    abbrev pub rows_by : Place → List Event → List InlineRow
    rows_by p [] = []
    rows_by p (e ∷ es) = rows_next e.kind e.name p (e ∷ es) (λ q. rows_by q es)
