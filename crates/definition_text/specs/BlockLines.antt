-- The lines of a block (CommonMark 3).
use Rattle.std.specs.Prelude.{List, [], ◌∷◌, Option, None}
use Rattle.markdown_options.specs.declared.line_ending.LineEnding.{LineEnding}
use Rattle.definition_text.specs.Columns.{Code}
use Rattle.markdown_options.specs.declared.beside.Kind.{Kind}
use Rattle.markdown_options.specs.declared.beside.Kind.TheVariants.{Whitespace}

-- a line of a block: what it holds after the prefixes of containers, its ending, and the kind of the character before it in the text
pub record BlockLine : Type 0 where
  pub codes : List Code
  pub ending : Option LineEnding
  pub before : Kind

abbrev pub block_line : List Code → Option LineEnding → Kind → BlockLine
block_line codes ending before = record { codes = codes; ending = ending; before = before }

-- a line after whitespace, or at the start of a text's line
abbrev pub spaced_line : List Code → Option LineEnding → BlockLine
spaced_line codes ending = block_line codes ending Whitespace

-- the ending of the last line, or this one where there is none
abbrev pub last_ending_or : Option LineEnding → List BlockLine → Option LineEnding
last_ending_or ending [] = ending
last_ending_or ending (line ∷ others) = last_ending_or line.ending others

abbrev pub last_ending : List BlockLine → Option LineEnding
last_ending ls = last_ending_or None ls

-- the lines of a block: the ending of its last line isn't among them
abbrev pub own_lines : List BlockLine → List BlockLine
own_lines [] = []
own_lines (line ∷ []) = block_line line.codes None line.before ∷ []
own_lines (line ∷ next ∷ others) = line ∷ own_lines (next ∷ others)
