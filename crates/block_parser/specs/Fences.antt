-- The lines after a fence.
use Rattle.std.specs.Prelude.{◌≡◌, ℕ, true, false, Bool, List, ◌∷◌, ◌++◌, Option}
use Rattle.std.specs.List.{list_any}
use Rattle.markdown_options.specs.declared.configuration.Constructs.{Constructs}
use Rattle.markdown_options.specs.declared.beside.Kind.TheVariants.{Whitespace}
use Rattle.definition_text.specs.BlockLines.{BlockLine}
use Rattle.definition_text.specs.Columns.{whole}
use Rattle.definition_text.specs.Lines.{TextLine, lines}
use Rattle.markdown_options.specs.declared.line_ending.LineEnding.{LineEnding}
use Rattle.definition_block.specs.CodeFenced.{Fence, fence_line, is_fence_end}
use Rattle.definition_block.specs.Tree.{beside_line, rest_line}

-- a line of the content that a whole line is
abbrev pub code_line : Fence → TextLine → BlockLine
code_line fence line = rest_line (fence_line fence (whole line.content)) (beside_line Whitespace line)

-- whether a whole line closes a fence
abbrev pub line_closes : Constructs → Fence → TextLine → Bool
line_closes on fence line = is_fence_end on fence (whole line.content)

-- the lines of a text up to the first that closes a fence are those of `code`, that one has such an ending, and the rest follows it
pub record IsWholeCode (on : Constructs) (fence : Fence) (text code : List ℕ) (ending : Option LineEnding) (rest : List ℕ) : Type 0 where
  pub line : TextLine
  pub split : lines text ≡ lines code ++ line ∷ lines rest
  pub content : list_any (line_closes on fence) (lines code) ≡ false
  pub closes : line_closes on fence line ≡ true
  pub ends : line.ending ≡ ending
