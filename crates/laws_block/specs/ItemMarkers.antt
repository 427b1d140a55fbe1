-- The markers of items (CommonMark 5.2).
use Rattle.std.specs.Prelude.{◌≡◌, ℕ, Bool, false, not, ◌==◌, ◌||◌, List}
use Rattle.markdown_options.specs.declared.configuration.Constructs.{Constructs}
use Rattle.definition_text.specs.Ascii.{right_parenthesis, asterisk, plus, hyphen, dot}
use Rattle.markdown_options.specs.declared.beside.Kind.{Kind}
use Rattle.definition_block.specs.Container.{Item}
use Rattle.definition_block.specs.Tree.{Block, Holds, blocks}
use Rattle.laws_block.specs.Occurs.{has}

-- `-`, `+`, `*`, `.` or `)`
abbrev pub is_item_marker : ℕ → Bool
is_item_marker byte = (byte == hyphen) || (byte == plus) || (byte == asterisk) || (byte == dot) || (byte == right_parenthesis)

-- an item of another marker
abbrev pub is_unmarked : Block → Bool
is_unmarked (Holds (Item item) kids) = not (is_item_marker item.marker)
is_unmarked b = false

-- each item of a text has one of these markers
abbrev pub ItemsAreMarked : Type 0
ItemsAreMarked = (on : Constructs) (before : Kind) (text : List ℕ) → has is_unmarked (blocks on before text) ≡ false
