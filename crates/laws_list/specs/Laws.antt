-- The laws of a text with `+ ` before its first line and two spaces before every other.
use Rattle.std.specs.Prelude.{◌≡◌, ℕ, Bool, true, false, not, List, [], ◌∷◌, None, map}
use Rattle.markdown_options.specs.declared.configuration.Constructs.{Constructs}
use Rattle.definition_text.specs.Ascii.{space, plus}
use Rattle.markdown_options.specs.declared.beside.Kind.{Kind}
use Rattle.markdown_options.specs.declared.beside.Kind.TheVariants.{Whitespace}
use Rattle.definition_block.specs.Container.{Container, Item}
use Rattle.definition_text.specs.Columns.{is_white}
use Rattle.definition_text.specs.Lines.{TextLine, text_line, lines, first_line}
use Rattle.definition_block.specs.Tree.{Blocks, Holds, join, one, front, trailing, blocks}
use Rattle.definition_block.specs.Definitions.{definitions}
use Rattle.laws_quote.specs.Laws.{HasNoTab}
use Rattle.laws_list.specs.Listed.{list_lines}

-- a line with the same ending, and two spaces before its content
abbrev pub indented_line : TextLine → TextLine
indented_line line = text_line (space ∷ space ∷ line.content) line.ending

-- lines with `+ ` before the first one's content, and two spaces before every other's
abbrev pub listed_lines : List TextLine → List TextLine
listed_lines [] = []
listed_lines (line ∷ others) = text_line (plus ∷ space ∷ line.content) line.ending ∷ map indented_line others

-- the lines of the listed text are the text's, with these before their contents
abbrev pub ListedLinesLaw : Type 0
ListedLinesLaw = (text : List ℕ) → lines (list_lines text) ≡ listed_lines (lines text)

-- bytes begin with one that is no space, tab or column of a tab
abbrev pub begins_dark : List ℕ → Bool
begins_dark [] = false
begins_dark (b ∷ bs) = not (is_white b)

-- the item of `+` whose content begins two columns on
abbrev pub plus_item : Container
plus_item = Item (record { marker = plus; number = None; size = 2 })

-- one item, which holds these
abbrev pub item_of : Blocks → Blocks
item_of kids = one (Holds plus_item kids)

-- without frontmatter the blocks of a text whose first line begins with something are in one item, where `+ ` stands before its first line and two
-- spaces before every other; the endings at their end stand after it
abbrev pub ListLaw : Type 0
ListLaw =
    (on : Constructs) (before : Kind) (text : List ℕ) → on.list_item ≡ true → on.frontmatter ≡ false
    → begins_dark (first_line text).content ≡ true → HasNoTab text
    → let kids = blocks on Whitespace text in blocks on before (list_lines text) ≡ join (item_of (front kids)) (trailing kids)

-- the link reference definitions are the same in an item
abbrev pub ListDefinitionsLaw : Type 0
ListDefinitionsLaw =
    (on : Constructs) (before : Kind) (text : List ℕ) → on.list_item ≡ true → on.frontmatter ≡ false
    → begins_dark (first_line text).content ≡ true → HasNoTab text
    → definitions (blocks on before (list_lines text)) ≡ definitions (blocks on Whitespace text)
