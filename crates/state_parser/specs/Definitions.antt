-- The labels of the definitions of a document.
use Rattle.std.specs.Prelude.{List}
use Rattle.engine_events.specs.declared.event.Event.{Event}
use Rattle.engine_events.specs.declared.event.Name.TheVariants as names
use Rattle.markdown_engine.specs.Context.{Context}
use Rattle.state_parser.specs.Labels.{defined_labels}

-- what a text is read with, and the labels of the definitions and of the footnote definitions of its document
abbrev pub with_labels : {T : Type 0} → List Event → Context T → Context T
with_labels events x = record {
  bytes = x.bytes;
  options = x.options;
  tables = x.tables;
  definitions = defined_labels x.bytes names.DefinitionLabelString events;
  footnotes = defined_labels x.bytes names.GfmFootnoteDefinitionLabelString events;
}
