-- What the events of a list are printed by, as the definition says it.
use Rattle.std.specs.Prelude.{◌≡◌, List, map}
use Rattle.markdown_options.specs.Defaults.{default_constructs}
use Rattle.definition_inline.specs.CharacterReference.{Names}
use Rattle.definition_inline.specs.Definition.{Definition}
use Rattle.definition_inline.specs.Targets.{labels_of, linked_by}
use Rattle.definition_page.specs.InlinePieces.{Meaning}
use Rattle.compile_written.specs.Definition.{leads}
use Rattle.inline_labels.specs.Table.{HasLabels}
use Rattle.inline_links.specs.View.{link_texts_view}
use Rattle.compile_blocks.specs.declared.source.Source.{Source}

-- a source prints by this meaning, whose links lead where these definitions do
pub record IsMeant {T A : Type 0} (names : Names) (source : Source T A) (ds : List Definition) (m : Meaning) : Type 0 where
  pub names_are : m.names ≡ names
  pub compile : m.compile ≡ source.options.now
  pub on : m.on ≡ default_constructs
  pub source_on : source.on.now ≡ default_constructs
  pub definition : m.definition ≡ linked_by ds
  pub labels : HasLabels source.labels.now (labels_of ds)
  pub links : map link_texts_view source.links.now ≡ map leads ds
  pub footnotes : HasLabels source.footnotes.now m.footnotes
