-- Which definition a label leads to, in whatever containers both stand (CommonMark 4.7 and 6.3).
use Rattle.std.specs.Prelude.{◌≡◌, ◌≢◌, ℕ, true, false, ◌⊎◌, List, [], ◌∷◌, ◌++◌, Some}
use Rattle.std.specs.List.{All}
use Rattle.markdown_options.specs.declared.configuration.Constructs.{Constructs}
use Rattle.markdown_options.specs.declared.beside.Kind.{Kind}
use Rattle.markdown_options.specs.declared.beside.Kind.TheVariants.{Whitespace}
use Rattle.definition_text.specs.Lines.{first_line}
use Rattle.definition_inline.specs.Definition.{Definition as LinkDefinition, definition}
use Rattle.definition_inline.specs.Inline.{link_texts}
use Rattle.definition_inline.specs.LabelMatch.{normal_label}
use Rattle.definition_block.specs.Blocks.{LeafBlock, Definition, Block, Leaf, Holds, Items, Blocks, Nil, Cons}
use Rattle.definition_block.specs.Tree.{blocks}
use Rattle.definition_inline.specs.Targets.{labels_of, linked_by, is_label_of}
use Rattle.definition_block.specs.Definitions.{document_definitions, with_spaces}
use Rattle.laws_quote.specs.Quoted.{quote_lines}
use Rattle.laws_quote.specs.Laws.{HasNoTab}
use Rattle.laws_list.specs.Listed.{list_lines}
use Rattle.laws_list.specs.Laws.{begins_dark}

-- a leaf is a definition that has this property
abbrev pub LeafDefines : (LinkDefinition → Type 0) → LeafBlock → Type 0
LeafDefines P (Definition ls label destination title) = P (definition label destination title [])
LeafDefines P leaf = ⊥

abbrev mutual
  -- some definition has this property, in whatever containers it stands
  pub BlockDefines : (LinkDefinition → Type 0) → Block → Type 0
  BlockDefines P (Leaf leaf) = LeafDefines P leaf
  BlockDefines P (Holds c kids) = Define P kids
  BlockDefines P (Items items) = Define P items
  BlockDefines P b = ⊥

  pub Define : (LinkDefinition → Type 0) → Blocks → Type 0
  Define P Nil = ⊥
  Define P (Cons b bs) = BlockDefines P b ⊎ Define P bs

-- a label and that of a definition have the same folded text
abbrev pub Matches : List ℕ → LinkDefinition → Type 0
Matches label d = normal_label label ≡ normal_label (with_spaces d).label

-- a label is one of a document's exactly if some definition of it, in whatever containers, has a label with the same folded text
abbrev pub DefinedLabelLaw : Type 0
DefinedLabelLaw =
    (bs : Blocks) (label : List ℕ)
    → (is_label_of (document_definitions bs) label ≡ true → Define (Matches label) bs)
    × (Define (Matches label) bs → is_label_of (document_definitions bs) label ≡ true)

-- it leads where the first such definition of the document leads
abbrev pub FirstDefinitionLaw : Type 0
FirstDefinitionLaw =
    (bs : Blocks) (label : List ℕ) (earlier later : List LinkDefinition) (d : LinkDefinition) → document_definitions bs ≡ earlier ++ d ∷ later
    → All (λ other. normal_label label ≢ normal_label other) (labels_of earlier) → normal_label label ≡ normal_label d.label
    → linked_by (document_definitions bs) label ≡ Some (link_texts d.destination d.title)

-- with `> ` before every line of a text, each label leads where it leads in the text: no label has the prefixes in it
abbrev pub QuotedLabelLaw : Type 0
QuotedLabelLaw =
    (on : Constructs) (before : Kind) (text label : List ℕ) → on.block_quote ≡ true → on.frontmatter ≡ false → HasNoTab text
    → linked_by (document_definitions (blocks on before (quote_lines text))) label ≡ linked_by (document_definitions (blocks on Whitespace text)) label

-- so it does with `+ ` before the first line, if that begins with something, and two spaces before every other
abbrev pub ListedLabelLaw : Type 0
ListedLabelLaw =
    (on : Constructs) (before : Kind) (text label : List ℕ) → on.list_item ≡ true → on.frontmatter ≡ false
    → begins_dark (first_line text).content ≡ true → HasNoTab text
    → linked_by (document_definitions (blocks on before (list_lines text))) label ≡ linked_by (document_definitions (blocks on Whitespace text)) label
