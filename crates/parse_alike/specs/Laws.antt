-- Pages that are alike print the same.
use Rattle.std.specs.Prelude.{◌≡◌, ℕ, List}
use Rattle.markdown_compile_options.specs.declared.configuration.CompileOptions.{CompileOptions}
use Rattle.definition_inline.specs.Definition.{Definition}
use Rattle.definition_inline.specs.Targets.{linked_by}
use Rattle.definition_page.specs.BlockPieces.{document_pieces}
use Rattle.definition_page.specs.InlinePieces.{Meaning}
use Rattle.definition_page.specs.Layout.{page_layout}
use Rattle.definition_page.specs.Page.{Page}
use Rattle.parse_alike.specs.Page.{ArePagesAlike}
use Rattle.parse_alike.specs.Targets.{AreDefinitionsAlike, AreFootnotesAlike, AreMeaningsAlike}

-- the HTML of a page by its meaning, with this default line ending
abbrev pub html_of : CompileOptions → List ℕ → Meaning → Page → List ℕ
html_of options ending m p = page_layout options ending (document_pieces m p)

-- Pages that are alike print the same.
pub record AlikePagesPrintTheSame : Type 0 where
  pub same : (m m' : Meaning) (p p' : Page) → ArePagesAlike m m' p p'
      → (options : CompileOptions) (ending : List ℕ) → html_of options ending m p ≡ html_of options ending m' p'

-- Definitions that are alike, and labels of footnotes that are, make meanings alike.
pub record AlikeDefinitionsMeanTheSame : Type 0 where
  pub same : (m m' : Meaning) (ds ds' : List Definition) → m.definition ≡ linked_by ds → m'.definition ≡ linked_by ds' → AreDefinitionsAlike m m' ds ds'
      → AreFootnotesAlike m.footnotes m'.footnotes → m.compile ≡ m'.compile → AreMeaningsAlike m m'
