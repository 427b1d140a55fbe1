-- What a page may not show: the infos of fenced code and math, link reference definitions, and footnotes.
use Rattle.std.specs.Prelude.{◌≡◌, ℕ, List, [], ◌∷◌, Option, None, Some, Vec, map, string_bytes}
use Rattle.std.specs.List.{flat_map}
use Rattle.definition_text.specs.Columns.{Code, code_byte}
use Rattle.definition_text.specs.Content.{content_codes}
use Rattle.definition_text.specs.Lines.{kind_before_text, without_mark}
use Rattle.definition_inline.specs.Definition.{Definition}
use Rattle.definition_block.specs.Blocks.{Block, FencedCode, Leaf, LeafBlock}
use Rattle.definition_block.specs.Tree.{blocks}
use Rattle.block_rows.specs.Rows.{BlockRow, EnterFootnote, Single, row_definitions, rows_of}
use Rattle.format_pages.specs.Constructs.{every_construct}
use Rattle.format_pages.specs.declared.hidden.Hidden.{Hidden}

-- a text, if it has bytes
abbrev pub if_any : List ℕ → List (List ℕ)
if_any [] = []
if_any (b ∷ bs) = (b ∷ bs) ∷ []

-- the info of fenced code or math, if it has one
abbrev pub leaf_infos : LeafBlock → List (List ℕ)
leaf_infos (FencedCode info is_closed ls) = if_any (map code_byte info)
leaf_infos leaf = []

abbrev pub block_infos : Block → List (List ℕ)
block_infos (Leaf leaf) = leaf_infos leaf
block_infos b = []

abbrev pub row_infos : BlockRow → List (List ℕ)
row_infos (Single b) = block_infos b
row_infos row = []

-- the label of the footnote definition that a row begins
abbrev pub row_footnotes : BlockRow → List (List ℕ)
row_footnotes (EnterFootnote label) = map code_byte label ∷ []
row_footnotes row = []

-- a title, after a quotation mark; nothing if there is none
abbrev pub title_codes : Option (List Code) → List Code
title_codes None = []
title_codes (Some title) = 34 ∷ title

-- the label, the destination and the title of a link reference definition
abbrev pub definition_texts : Definition → List (List Code)
definition_texts d = d.label ∷ d.destination ∷ title_codes d.title ∷ []

-- those of a definition that a content is, empty if it is none
abbrev pub texts_on : Option Definition → List (List Code)
texts_on None = [] ∷ [] ∷ [] ∷ []
texts_on (Some d) = definition_texts d

-- those of the definition that a row is
abbrev pub row_texts : BlockRow → List (List Code)
row_texts row = flat_map definition_texts (row_definitions row)

-- the rows of a text that is read with every construct
abbrev pub text_rows : List ℕ → List BlockRow
text_rows text = rows_of (blocks every_construct (kind_before_text text) (without_mark text))

-- the infos of a text, in order
abbrev pub infos : List ℕ → List (List ℕ)
infos text = flat_map row_infos (text_rows text)

-- the labels of its footnote definitions, as they are written and in the order in which these begin, repeats kept
abbrev pub footnotes : List ℕ → List (List ℕ)
footnotes text = flat_map row_footnotes (text_rows text)

-- the labels, destinations and titles of its link reference definitions, as they are written and in order, repeats kept
abbrev pub definitions : List ℕ → List (List Code)
definitions text = flat_map row_texts (text_rows text)

-- what was read, in the form of the above
abbrev pub infos_in : Hidden → List (List ℕ)
infos_in hidden = map string_bytes hidden.infos.items

abbrev pub footnotes_in : Hidden → List (List ℕ)
footnotes_in hidden = map string_bytes hidden.footnotes.items

abbrev pub bytes_codes : {A : Type 0} → Vec ℕ A → List Code
bytes_codes bytes = content_codes bytes.items

abbrev pub definitions_in : Hidden → List (List Code)
definitions_in hidden = map bytes_codes hidden.definitions.items

-- it was read of these rows
pub record HasHidden (hidden : Hidden) (rows : List BlockRow) : Type 0 where
  pub infos : infos_in hidden ≡ flat_map row_infos rows
  pub footnotes : footnotes_in hidden ≡ flat_map row_footnotes rows
  pub definitions : definitions_in hidden ≡ flat_map row_texts rows
