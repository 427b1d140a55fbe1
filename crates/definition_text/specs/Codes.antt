-- What the codes of a content mean (CommonMark 2.1 and 2.2).
use Rattle.std.specs.Prelude.{ℕ, Bool, true, not, ◌&&◌, nat_lt}
use Rattle.markdown_options.specs.declared.line_ending.LineEnding.{LineEnding}
use Rattle.definition_text.specs.Lines.{ends_line}
use Rattle.definition_text.specs.Columns.{Code, tab_column}
use Rattle.definition_text.specs.Content.{line_ending_code}

-- a byte, a remaining column of a tab, or a line ending
pub data Symbol : Type 0 where
  Byte : ℕ → Symbol
  Column : Symbol
  Eol : LineEnding → Symbol

-- a symbol of a content: a byte of it ends no line
abbrev pub is_of_content : Symbol → Bool
is_of_content (Byte b) = nat_lt b 256 && not (ends_line b)
is_of_content symbol = true

-- its code
abbrev pub code_of : Symbol → Code
code_of (Byte b) = b
code_of Column = tab_column
code_of (Eol ending) = line_ending_code ending
