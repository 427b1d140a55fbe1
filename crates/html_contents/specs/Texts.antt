-- What the texts of a document are read by.
use Rattle.std.specs.Prelude.{◌≡◌, ℕ, List, OnOk, Result, map}
use Rattle.std.specs.List.{fold}
use Rattle.definition_inline.specs.Inline as inline
use Rattle.definition_inline.specs.Definition.{Definition}
use Rattle.definition_inline.specs.Targets.{Targets}
use Rattle.definition_text.specs.BlockLines.{BlockLine}
use Rattle.inline_content.specs.Lines.{AreContentLines}
use Rattle.inline_parser.specs.Scanned.{HasTargets}
use Rattle.inline_links.specs.View.{link_texts_view}
use Rattle.markdown_options.specs.declared.tables.Tables as tables
use Rattle.definition_page.specs.TextTables.{TextTables, text_tables}
use Rattle.html_bytes.specs.Document.{Document, document}
use Rattle.html_bytes.specs.Layout.{lay}
use Rattle.html_bytes.specs.Pieces.{Piece}
use Rattle.html_footnotes.specs.Output.{output_view}
use Rattle.html_footnotes.specs.declared.output.Output.{Output}
use Rattle.html_contents.specs.declared.texts.Texts.{Texts}

-- texts are read by tables with the labels of these targets, and by links that lead where the definitions among them do, in their order
pub record KnowsTargets {T A : Type 0} (texts : Texts T A) (ds : Targets) : Type 0 where
  pub has_labels : HasTargets texts.labels.now texts.footnotes.now ds
  pub leads : map link_texts_view texts.links.now ≡ map (λ (d : Definition). inline.link_texts d.destination d.title) ds.definitions

-- what tables say of names and of punctuation
abbrev pub tables_by : {T : Type 0} → tables.Ghosts T → T → TextTables
tables_by g t = text_tables (g.reference_of t) (g.punctuation_of t)

-- the document whose texts are read by these, with what its labels lead to
abbrev pub document_by : {T A : Type 0} → tables.Ghosts T → Texts T A → Targets → Document
document_by g texts ds = document texts.options.now (tables_by g texts.tables.now) ds

-- the lines of a text: one without a line ending in it, or those of a paragraph
abbrev pub AreTextLines : List BlockLine → Type 0
AreTextLines ls = AreContentLines ls

-- these pieces and no others of a document are laid out, whatever the default ending, unless memory ran out
abbrev pub LaysOut : {A B C : Type 0} → Document → Result B C → Output A → Output A → List Piece → Type 0
LaysOut d result old new pieces =
    (default : List ℕ) → OnOk result (output_view new ≡ fold (lay d.options.compile default) (output_view old) pieces)
