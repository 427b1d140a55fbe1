-- Where the calls of a page lead (in no standard; as GitHub prints them).
use Rattle.std.specs.Prelude.{◌≡◌, ◌<◌, ℕ, List, [], length, slice_index_or}
use Rattle.std.specs.List.{All}
use Rattle.markdown_compile_options.specs.declared.configuration.Options.{Options}
use Rattle.definition_inline.specs.LabelMatch.{normal_label}
use Rattle.definition_page.specs.TextTables.{TextTables}
use Rattle.definition_page.specs.Page.{Page}
use Rattle.definition_page.specs.DocumentPieces.{pieces}
use Rattle.definition_page.specs.Layout.{NamedCall, named_calls}

-- this call leads to one of the footnotes with these labels, which has its label, as labels are matched
abbrev pub HasDefinition : List (List ℕ) → NamedCall → Type 0
HasDefinition labels call = (call.place < length labels) × (normal_label (slice_index_or labels call.place []) ≡ call.label)

-- each call of a page leads to a footnote of the document with that label
abbrev pub CallHasDefinitionLaw : Type 0
CallHasDefinitionLaw = (tables : TextTables) (options : Options) (page : Page) → All (HasDefinition page.footnotes) (named_calls (pieces tables options page))
