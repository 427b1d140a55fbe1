-- The definitions that were read so far.
use Rattle.std.specs.Prelude.{◌≡◌, Bool, true, false, List, [], Option, None, Some, String, map, string_bytes}
use Rattle.std.specs.Option.{option_map}
use Rattle.definition_text.specs.Content.{content_codes}
use Rattle.definition_inline.specs.Inline.{LinkTexts, link_texts}
use Rattle.definition_inline.specs.Definition.{Definition, definition, definition_at}
use Rattle.definition_inline.specs.Targets.{labels_of, no_definition}
use Rattle.block_rows.specs.declared.row.Row.{Row}
use Rattle.block_rows.specs.declared.row.Row.TheVariants as row
use Rattle.inline_labels.specs.Table.{HasLabels}
use Rattle.inline_links.specs.declared.text.TextDefinition.{TextDefinition}
use Rattle.inline_links.specs.View.{link_texts_view}
use Rattle.block_targets.specs.declared.contents.DefinitionContents.{DefinitionContents}
use Rattle.block_targets.specs.declared.definitions.Definitions.{Definitions}

-- whether a row is a definition
abbrev pub is_definition : Row → Bool
is_definition (row.Definition count) = true
is_definition r = false

-- whether rows of a kind take lines
abbrev pub takes_lines : Row → Bool
takes_lines row.Break = false
takes_lines row.EnterQuote = false
takes_lines (row.EnterItem marker number) = false
takes_lines row.Exit = false
takes_lines (row.Ending ending) = false
takes_lines (row.Blank ending) = false
takes_lines r = true

-- a definition with nothing after it, if there is one
abbrev pub alone : Option Definition → Definition
alone None = no_definition
alone (Some d) = definition d.label d.destination d.title []

-- the definition that a content is
abbrev pub read_on : {A : Type 0} → String A → Definition
read_on text = alone (definition_at (content_codes (string_bytes text)))

-- the definition in a text, without what follows it
abbrev pub read_of : TextDefinition → Definition
read_of read = definition (content_codes read.label.now) (content_codes read.destination.now) (option_map (λ text. content_codes text.now) read.title) []

-- where a definition leads
abbrev pub leads : Definition → LinkTexts
leads d = link_texts d.destination d.title

-- each content is that of one of these definitions
pub record HasContents {A : Type 0} (contents : DefinitionContents A) (ds : List Definition) : Type 0 where
  pub each : map read_on contents.texts.items ≡ ds

-- the labels of these definitions, and where each leads
pub record HasDefinitions {A : Type 0} (found : Definitions A) (ds : List Definition) : Type 0 where
  pub has_labels : HasLabels found.labels (labels_of ds)
  pub each : map link_texts_view found.links.items ≡ map leads ds
