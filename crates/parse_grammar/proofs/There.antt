-- Labels of definitions and of footnotes are among those of nodes.
use Rattle.std.proofs.Common.{map}
use Rattle.engine_events.specs.declared.event.Name.TheVariants as n
use Rattle.definition_text.specs.Content.{content_codes}
use Rattle.definition_inline.specs.Targets.{labels_of}
use Rattle.event_grammar.specs.References.{footnote_labels, link_labels, named}
use Rattle.event_meaning.specs.Blocks.{blocks_of}
use Rattle.event_meaning.specs.Spelled.{definition_of, footnotes}
use Rattle.parse_grammar.specs.LabelLaws.{LabelsAreThere}
use Rattle.parse_grammar.proofs.Called.{kids_called}
use Rattle.parse_grammar.proofs.Defined.{kids_defined}
use Rattle.parse_grammar.proofs.Kept.{kept_among, same_kept, same_labels}

pub labels_are_there : LabelsAreThere
labels_are_there = record {
  same_definitions = λ m m' ds ds' are. same_kept (labels_of ds) (labels_of ds') (same_labels m m' ds ds' are);
  same_footnotes = λ labels others are. same_kept labels others are;
  defined = λ names bytes around slots ns e.
      kept_among (labels_of (map (definition_of names bytes) (named n.Definition ns))) (map content_codes (link_labels bytes ns))
      (λ test some. kids_defined names bytes test around slots ns e some);
  called = λ names bytes around slots top ns e.
      kept_among (footnotes (blocks_of names bytes top ns)) (map content_codes (footnote_labels bytes ns))
      (λ test some. kids_called names bytes test around slots top ns e some);
}
