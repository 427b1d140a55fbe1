-- What a parser has read.
use Rattle.std.specs.Prelude.{◌≡◌, ℕ, ◌<◌, true, false, List, [], ◌∷◌, ◌++◌, Option, length}
use Rattle.markdown_options.specs.declared.configuration.Constructs.{Constructs}
use Rattle.markdown_options.specs.declared.line_ending.LineEnding.{LineEnding}
use Rattle.markdown_options.specs.declared.beside.Beside.{Beside}
use Rattle.markdown_options.specs.declared.beside.Kind.{Kind}
use Rattle.markdown_options.specs.declared.beside.Kind.TheVariants.{Whitespace}
use Rattle.definition_text.specs.Lines.{TextLine, lines}
use Rattle.definition_text.specs.BlockLines.{BlockLine}
use Rattle.definition_text.specs.Columns.{Rest}
use Rattle.definition_block.specs.CodeFenced.{Fence}
use Rattle.definition_block.specs.Container.{Container}
use Rattle.definition_block.specs.Tree.{Blocks, Nil, OpenLeaf, Text, Fenced, Opening, At, Tree, tree, nothing, open_text, new, leaf_line, grow, steps}
use Rattle.text_pieces.specs.ParagraphLines.{AreLines}
use Rattle.block_starts.specs.View.{container_views}
use Rattle.block_leaves.specs.View.{AreRead}
use Rattle.block_parser.specs.declared.parser.Parser.{Parser}
use Rattle.block_state.specs.Spine.{Level, Spine, level, spine, spine_at, spine_of, spine_after}

-- what was read so far is this
abbrev pub HasRead : {A : Type 0} → Parser A → Spine → Type 0
HasRead p s = AreRead p.leaves (container_views p.open.items) s

-- the kind of the character after these lines, where one of a kind stands before them
abbrev pub kind_after_lines : Kind → List TextLine → Kind
kind_after_lines before [] = before
kind_after_lines before (line ∷ others) = Whitespace

-- whichever lines are read of those of a text, the open paragraph has the lines of one
abbrev pub KeepsLines : Constructs → Kind → Tree → List ℕ → Type 0
KeepsLines on before t text = (read left : List TextLine) → read ++ left ≡ lines text → AreLines (open_text (steps on before t read).now)

-- some lines of a text were read, and the rest follows them
pub record ReadsSome {A : Type 0} (on : Constructs) (before : Kind) (t : Tree) (text rest : List ℕ) (p : Parser A) : Type 0 where
  pub read : List TextLine
  pub some : 0 < length read
  pub split : lines text ≡ read ++ lines rest
  pub reads : HasRead p (spine_of (steps on before t read))

-- where this fence is open, and no container, lines of a text were read, and the rest follows them
abbrev pub ReadsFenced : {A : Type 0} → Constructs → Fence → List ℕ → Parser A → Parser A → List ℕ → Type 0
ReadsFenced on fence text old new rest =
    (kids : Blocks) (opening : Option LineEnding) (ls : List BlockLine) → let t = tree kids (At (Fenced fence opening ls)) in
    KeepsLines on Whitespace t text → HasRead old (spine_of t) → ReadsSome on Whitespace t text rest new

-- a leaf that is open becomes this, whatever it stands in
abbrev pub Becomes : {A : Type 0} → Parser A → Parser A → OpenLeaf → Tree → Type 0
Becomes old new leaf more = (around : List Level) (kids : Blocks) → HasRead old (spine around kids leaf) → HasRead new (spine_after around kids more)

-- where no leaf is open, a container starts
abbrev pub Enters : {A : Type 0} → Parser A → Parser A → Container → Type 0
Enters old new c =
    (around : List Level) (kids : Blocks) → HasRead old (spine around kids (Text [])) → HasRead new (spine (level c kids ∷ around) Nil (Text []))

-- so many containers stay open, and what is open in them, with the lines of a text, becomes something else
abbrev pub Grows : {A : Type 0} → Parser A → Parser A → ℕ → (Opening → Tree) → Type 0
Grows old new depth becomes =
    (around : List Level) (kids : Blocks) (away : Opening) → depth ≡ length around → AreLines (open_text away)
    → HasRead old (spine_at around kids away) → HasRead new (spine_after around kids (becomes away))

-- how far a line is in the containers that are open
pub record Descent (on : Constructs) (beside : Beside) (line : Rest) (t : Tree) (count depth : ℕ) (rest : Rest) (here : Beside) : Type 0 where
  pub around : List Level
  pub kids : Blocks
  pub now : Opening
  pub deep : depth ≡ length around
  pub same : spine_at around kids now ≡ spine_of t
  pub grows : spine_after [] t.done (grow on beside t.now line) ≡ spine_after around kids (grow on here now rest)
  pub stuck : depth < count → grow on here now rest ≡ new (length rest) on false now here rest

-- what a rest makes where all that was open is closed
abbrev pub new_inside : Constructs → Beside → Rest → Tree
new_inside on beside rest = new (length rest) on true nothing beside rest

-- containers started on a line are open, and what they make of the rest is what is left to read
pub record Inner {A : Type 0} (p : Parser A) (around : List Level) (kids : Blocks) (from to : Tree) : Type 0 where
  pub inner : List Level
  pub inner_kids : Blocks
  pub reads : HasRead p (spine inner inner_kids (Text []))
  pub grows : spine_after around kids from ≡ spine_after inner inner_kids to

-- all containers that a rest starts are open, and the rest after them starts none
abbrev pub IsEntered : {A : Type 0} → Constructs → Rest → Beside → Rest → Beside → Parser A → List Level → Blocks → Type 0
IsEntered on rest beside after here p around kids = Inner p around kids (new_inside on beside rest) (leaf_line on nothing after here)
