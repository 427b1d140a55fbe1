-- What leaves make of what was read, whatever containers they stand in.
use Rattle.std.specs.Prelude.{◌≡◌, ℕ, List, [], ◌∷◌, ◌++◌, Option, IfSome, drop}
use Rattle.std.proofs.Common.{Bor}
use Rattle.markdown_options.specs.declared.configuration.Constructs.{Constructs}
use Rattle.markdown_options.specs.declared.beside.Beside.{Beside}
use Rattle.definition_text.specs.BlockLines.{BlockLine}
use Rattle.definition_text.specs.Columns.{Rest}
use Rattle.markdown_options.specs.declared.line_ending.LineEnding.{LineEnding}
use Rattle.definition_block.specs.CodeFenced.{Fence}
use Rattle.definition_block.specs.Container.{Container}
use Rattle.definition_block.specs.Tree.{Blocks, Nil, OpenLeaf, Fenced, Text, Opening, At, Inside, Tree, tree, nothing, grow}
use Rattle.text_pieces.specs.ParagraphLines.{AreLines}
use Rattle.text_pieces.specs.Pieces.{piece_lines, whole_lines}
use Rattle.block_leaves.specs.declared.leaves.Leaves.{Leaves}
use Rattle.block_state.specs.Leaves.{leaf_state}
use Rattle.block_state.specs.Spine.{Level, Spine, level, spine, spine_after, containers_of, without_innermost_at}
use Rattle.block_state.specs.Shows.{InFenced, Shows}

-- what was read so far is this, where these containers are open
abbrev pub AreRead : {A : Type 0} → Leaves A → List Container → Spine → Type 0
AreRead l containers s = Shows l.rows.rows.items l.rows.waiting.items l.rows.bare containers (piece_lines l.pieces.items) (leaf_state l.leaf) s

-- a leaf that is open becomes this, whatever it stands in
abbrev pub Becomes : {A : Type 0} → Leaves A → Leaves A → OpenLeaf → Tree → Type 0
Becomes old new leaf more =
    (containers : List Container) (around : List Level) (kids : Blocks)
    → AreRead old containers (spine around kids leaf) → AreRead new containers (spine_after around kids more)

-- a leaf that is open is closed, and these blocks stand in its place
abbrev pub Closes : {A : Type 0} → Leaves A → Leaves A → OpenLeaf → Blocks → Type 0
Closes old new leaf blocks = Becomes old new leaf (tree blocks nothing)

-- the lines that no row has taken, which are those of the open leaf
abbrev pub lines_left : {A : Type 0} → Leaves A → List BlockLine
lines_left l = drop l.lines_in_rows (piece_lines l.pieces.items)

-- lines are those of a text, if it is known
abbrev pub AreKnown : Option (Bor (List ℕ)) → List BlockLine → Type 0
AreKnown known ls = IfSome known (λ text. whole_lines text.now ≡ ls)

-- the open paragraph is closed, and these blocks stand in its place; its lines may be known to be those of a text
abbrev pub ClosesText : {A : Type 0} → Leaves A → Leaves A → Option (Bor (List ℕ)) → (List BlockLine → Blocks) → Type 0
ClosesText old new known blocks = (ls : List BlockLine) → AreLines ls → AreKnown known ls → Closes old new (Text ls) (blocks ls)

-- the open paragraph has one line more
abbrev pub HasLine : {A : Type 0} → Leaves A → Leaves A → BlockLine → Type 0
HasLine old new line =
    (containers : List Container) (around : List Level) (kids : Blocks) (ls : List BlockLine)
    → AreRead old containers (spine around kids (Text ls)) → AreRead new containers (spine around kids (Text (ls ++ line ∷ [])))

-- what was read so far is this, where the last line of the fenced code that is open has such an ending
abbrev pub AreFenced : {A : Type 0} → Leaves A → List Container → Fence → Option LineEnding → Spine → Type 0
AreFenced l containers fence last s =
    Shows l.rows.rows.items l.rows.waiting.items l.rows.bare containers (piece_lines l.pieces.items) (InFenced fence last) s

-- the open fenced code has one line more
abbrev pub HasCode : {A : Type 0} → Leaves A → Leaves A → Fence → BlockLine → Type 0
HasCode old new fence line =
    (last : Option LineEnding) (containers : List Container) (around : List Level) (kids : Blocks) (opening : Option LineEnding) (ls : List BlockLine)
    → AreFenced old containers fence last (spine around kids (Fenced fence opening ls))
    → AreFenced new containers fence line.ending (spine around kids (Fenced fence opening (ls ++ line ∷ [])))

-- where no leaf is open, this is added in the innermost container
abbrev pub Adds : {A : Type 0} → Leaves A → Leaves A → Tree → Type 0
Adds old new more = Becomes old new (Text []) more

-- where no leaf is open, a container starts
abbrev pub Enters : {A : Type 0} → Leaves A → Leaves A → Container → Type 0
Enters old new c =
    (containers : List Container) (around : List Level) (kids : Blocks)
    → AreRead old containers (spine around kids (Text [])) → AreRead new (containers ++ c ∷ []) (spine (level c kids ∷ around) Nil (Text []))

-- the innermost container ends, whatever it holds
abbrev pub Exits : {A : Type 0} → Leaves A → Leaves A → Container → Type 0
Exits old new c =
    (containers : List Container) (l : Level) (around : List Level) (kids : Blocks) (leaf : OpenLeaf) → c ≡ l.container
    → AreRead old containers (spine (l ∷ around) kids leaf) → AreRead new (containers_of around) (without_innermost_at (l ∷ around) kids leaf)

-- what a line that is in all containers makes of the open leaf
abbrev pub leaf_grown : Constructs → Beside → Rest → Opening → Tree
leaf_grown on beside rest (At leaf) = grow on beside (At leaf) rest
leaf_grown on beside rest (Inside c kids inner) = tree Nil (Inside c kids inner)
