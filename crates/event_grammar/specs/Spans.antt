-- The names of the events of emphasis, strong emphasis, strikethrough and marked text: one row for each span.
use Rattle.std.specs.Prelude.{Option, None, Some, if◌then◌else◌}
use Rattle.engine_events.specs.Names.{same_name}
use Rattle.engine_events.specs.declared.event.Name.{Name}
use Rattle.engine_events.specs.declared.event.Name.TheVariants as n
use Rattle.definition_inline.specs.Inline.{SpanKind, Emphasis, Strong, Strikethrough, Mark}
use Rattle.event_grammar.specs.declared.spans.SpanNames.{SpanNames}

abbrev pub span_names : SpanKind → SpanNames
span_names Emphasis = record { event = n.Emphasis; sequence = n.EmphasisSequence; text = n.EmphasisText }
span_names Strong = record { event = n.Strong; sequence = n.StrongSequence; text = n.StrongText }
span_names Strikethrough = record { event = n.GfmStrikethrough; sequence = n.GfmStrikethroughSequence; text = n.GfmStrikethroughText }
span_names Mark = record { event = n.Mark; sequence = n.MarkSequence; text = n.MarkText }

-- the span whose event has a name, if there is one
abbrev pub span_of : Name → Option SpanKind
span_of name =
    if same_name name (span_names Emphasis).event then Some Emphasis
    else (if same_name name (span_names Strong).event then Some Strong
    else (if same_name name (span_names Strikethrough).event then Some Strikethrough
    else (if same_name name (span_names Mark).event then Some Mark
    else None)))
