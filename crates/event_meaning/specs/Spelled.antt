-- The page that a list of events spells, and its HTML.
use Rattle.std.specs.Prelude.{ℕ, Bool, true, false, List, [], ◌∷◌, ◌++◌, Some, unwrap_or, map}
use Rattle.markdown_options.specs.Defaults.{default_constructs}
use Rattle.markdown_options.specs.LineEndings.{ending_bytes}
use Rattle.markdown_compile_options.specs.declared.configuration.CompileOptions.{CompileOptions}
use Rattle.engine_events.specs.Names.{same_name}
use Rattle.engine_events.specs.declared.event.Event.{Event}
use Rattle.engine_events.specs.declared.event.Name.TheVariants as n
use Rattle.definition_text.specs.Columns.{Code}
use Rattle.definition_text.specs.Lines.{first_line, without_mark}
use Rattle.definition_inline.specs.CharacterReference.{Names}
use Rattle.definition_inline.specs.Definition.{Definition, definition}
use Rattle.definition_inline.specs.Targets.{linked_by}
use Rattle.definition_page.specs.BlockPieces.{document_pieces}
use Rattle.definition_page.specs.InlinePieces.{Meaning}
use Rattle.definition_page.specs.Layout.{page_layout}
use Rattle.definition_page.specs.Page as page
use Rattle.definition_html.specs.Listed.{with_listed}
use Rattle.event_grammar.specs.InGrammar.{node_name, kids_of}
use Rattle.event_grammar.specs.References.{named}
use Rattle.event_grammar.specs.Trees.{Node, Nodes, Nil, Cons, tree}
use Rattle.event_meaning.specs.Blocks.{label_of, blocks_of}
use Rattle.event_meaning.specs.Children.{child, kids_in, ends_in}
use Rattle.event_meaning.specs.Strings.{string_of, written}

-- the labels of footnote definitions, in the order in which these end: one ends after those in it
abbrev pub own_label : page.PageContainer → List (List Code)
own_label (page.Footnote label) = label ∷ []
own_label c = []

abbrev mutual
  pub block_footnotes : page.Block → List (List Code)
  block_footnotes (page.Holds c kids) = footnotes kids ++ own_label c
  block_footnotes (page.ItemList number loose items) = footnotes items
  block_footnotes b = []

  pub footnotes : page.Blocks → List (List Code)
  footnotes page.Nil = []
  footnotes (page.Cons b bs) = block_footnotes b ++ footnotes bs

module _ (names : Names) (bytes : List ℕ) where
  -- a link reference definition: its label, its destination and its title (CommonMark 4.7)
  abbrev pub definition_of : Node → Definition
  definition_of node =
      let kids = kids_of node in
      let place = kids_in n.DefinitionDestination kids in
      let literal = string_of names bytes (kids_in n.DefinitionDestinationString (kids_in n.DefinitionDestinationLiteral place)) in
      let raw = string_of names bytes (kids_in n.DefinitionDestinationString (kids_in n.DefinitionDestinationRaw place)) in
      let title = string_of names bytes (kids_in n.DefinitionTitleString (kids_in n.DefinitionTitle kids)) in
      definition (label_of names bytes (child n.DefinitionLabelString (kids_in n.DefinitionLabel kids))) (written (literal ++ raw)) (Some (written title)) []

  -- the page of these nodes
  abbrev pub page_of : Nodes → page.Page
  page_of nodes =
      let bs = blocks_of names bytes true nodes in
      record {
        blocks = bs;
        definitions = map definition_of (named n.Definition nodes);
        footnotes = footnotes bs;
        ends_blank = ends_in n.BlankLineEnding false nodes;
      }

-- the page that a list of events of a text spells
abbrev pub spelled : Names → List Event → List ℕ → page.Page
spelled names events bytes = page_of names bytes (tree events)

-- ---- HTML

-- what a page of events prints by: strings on it are written with references (`written`), whatever a text was read with
abbrev pub meaning_of : Names → CompileOptions → page.Page → Meaning
meaning_of names options p =
    record { on = default_constructs; compile = options; names = names; definition = linked_by p.definitions; footnotes = p.footnotes }

-- the text's first line ending, or the one of the options
abbrev pub default_ending : CompileOptions → List ℕ → List ℕ
default_ending options bytes = ending_bytes (unwrap_or (first_line (without_mark bytes)).ending options.default_line_ending)

-- a page as it is printed, with raw HTML that is kept by the list as text in elements without a name
abbrev pub printed_page : Names → CompileOptions → List ℕ → page.Page → List ℕ
printed_page names options bytes p = page_layout options (default_ending options bytes) (document_pieces (meaning_of names options p) p)

-- the page of the nodes of a text as it is printed
abbrev pub page_of_nodes : Names → CompileOptions → List ℕ → Nodes → List ℕ
page_of_nodes names options bytes nodes = printed_page names options bytes (page_of names bytes nodes)

-- its HTML, with its raw HTML by the list where the options keep it
abbrev pub page_html : Names → CompileOptions → List ℕ → page.Page → List ℕ
page_html names options bytes p = with_listed names options (printed_page names options bytes p)

-- the HTML of the nodes of a text
abbrev pub html_of_nodes : Names → CompileOptions → List ℕ → Nodes → List ℕ
html_of_nodes names options bytes nodes = page_html names options bytes (page_of names bytes nodes)

-- the HTML of a list of events of a text
abbrev pub html_of_events : Names → CompileOptions → List ℕ → List Event → List ℕ
html_of_events names options bytes events = html_of_nodes names options bytes (tree events)
