-- The rows of the blocks of a text are laid in its lines (CommonMark 3).
use Rattle.std.specs.Prelude.{◌≡◌, ℕ, ◌<◌, true, List, [], ◌∷◌, Option, None, Some, get_or, map}
use Rattle.std.specs.Option.{option_map}
use Rattle.markdown_options.specs.declared.line_ending.LineEnding.{LineEnding}
use Rattle.markdown_options.specs.declared.configuration.Constructs.{Constructs}
use Rattle.markdown_options.specs.declared.beside.Kind.{Kind}
use Rattle.markdown_options.specs.declared.beside.Kind.TheVariants.{Whitespace}
use Rattle.definition_text.specs.Columns.{Code, code_byte, is_blank}
use Rattle.definition_text.specs.Lines.{TextLine, lines}
use Rattle.definition_block.specs.Container.{Container}
use Rattle.definition_block.specs.Frontmatter.{after_frontmatter}
use Rattle.definition_block.specs.Tree.{LeafBlock, Definition, Block, Leaf, Holds, Items, Ending, Blank, blocks}
use Rattle.block_rows.specs.Rows.{BlockRow, Single, EnterQuote, EnterItem, EnterFootnote, Exit, start_row, rows_of}
use Rattle.parse_laid.specs.Places.{LineRest, Place, Between, AtEnding, InAll, unread, IsOn, Starts, Stops}
use Rattle.parse_laid.specs.Leaves.{IsLeafLaid}

-- the ending of a block's last line: the next line comes after it (CommonMark 2.1)
abbrev pub IsEndingLaid : Option LineEnding → Place → Place → Type 0
IsEndingLaid ending from to = (left : List LineRest) × (from ≡ AtEnding ending left) × (to ≡ Between left)

-- a blank line, in all containers around it (CommonMark 4.9)
abbrev pub IsBlankLaid : Constructs → List Container → Option LineEnding → Place → Place → Type 0
IsBlankLaid on around ending from to =
    (here : LineRest) × (left : List LineRest) × IsOn on around from (InAll here) left × (is_blank here.rest ≡ true)
    × (ending ≡ here.beside.ending) × (to ≡ Between left)

-- a leaf as its row has it: in the parts of a definition, the columns that are left of a tab are spaces
abbrev pub IsWrittenLaid : Constructs → List Container → LeafBlock → Place → Place → Type 0
IsWrittenLaid on around (Definition ls label destination title) from to =
    (name address : List Code) × (text : Option (List Code)) × (label ≡ map code_byte name) × (destination ≡ map code_byte address)
    × (title ≡ option_map (map code_byte) text) × IsLeafLaid on around (Definition ls name address text) from to
IsWrittenLaid on around leaf from to = IsLeafLaid on around leaf from to

-- a row that holds no other
abbrev pub IsSingleLaid : Constructs → List Container → Block → Place → Place → Type 0
IsSingleLaid on around (Leaf leaf) from to = IsWrittenLaid on around leaf from to
IsSingleLaid on around (Ending ending) from to = IsEndingLaid ending from to
IsSingleLaid on around (Blank ending) from to = IsBlankLaid on around ending from to
IsSingleLaid on around (Holds c kids) from to = ⊥
IsSingleLaid on around (Items items) from to = ⊥

-- the start of a container, which is open after it
abbrev pub Enters : Constructs → List Container → BlockRow → Place → List Container → Place → Type 0
Enters on around row from inner to = (c : Container) × (row ≡ start_row c) × (inner ≡ c ∷ around) × Starts on around c from to

-- a row in the containers that are open before it, from a place; those that are open after it, and the place to which it leads
abbrev pub IsRowLaid : Constructs → List Container → BlockRow → Place → List Container → Place → Type 0
IsRowLaid on around (Single b) from inner to = (inner ≡ around) × IsSingleLaid on around b from to
IsRowLaid on around EnterQuote from inner to = Enters on around EnterQuote from inner to
IsRowLaid on around (EnterItem marker number) from inner to = Enters on around (EnterItem marker number) from inner to
IsRowLaid on around (EnterFootnote label) from inner to = Enters on around (EnterFootnote label) from inner to
IsRowLaid on around Exit from inner to = (c : Container) × (around ≡ c ∷ inner) × Stops on around from to

-- rows one after another, up to the end of the text, where no container is open
abbrev pub AreLaid : Constructs → List Container → Place → List BlockRow → Type 0
AreLaid on around from [] = (around ≡ []) × (from ≡ Between [])
AreLaid on around from (row ∷ rows) = (inner : List Container) × (to : Place) × IsRowLaid on around row from inner to × AreLaid on inner to rows

-- the lines of a text that are read to blocks: all, or those after its frontmatter
abbrev pub unread_after : Kind → List TextLine → Option (List TextLine) → List LineRest
unread_after before all None = unread before all
unread_after before all (Some others) = unread Whitespace others

abbrev pub unread_lines : Constructs → Kind → List ℕ → List LineRest
unread_lines on before text = unread_after before (lines text) (after_frontmatter on (lines text))

-- The rows of the blocks of a text of bytes are laid in its lines, from the first one after its frontmatter to the end.
abbrev pub RowsAreLaid : Type 0
RowsAreLaid =
    (on : Constructs) (before : Kind) (text : List ℕ) → ((k : ℕ) → get_or text k 0 < 256)
    → AreLaid on [] (Between (unread_lines on before text)) (rows_of (blocks on before text))
