-- The content of a block as codes (CommonMark 2.1 and 4.8).
use Rattle.std.specs.Prelude.{ℕ, ◌-◌, Bool, if◌then◌else◌, not, ◌==◌, ◌&&◌, ◌||◌, List, [], ◌∷◌, ◌++◌, Option, None, Some, drop, take, length, map}
use Rattle.std.specs.List.{flat_map}
use Rattle.markdown_options.specs.declared.line_ending.LineEnding.{LineEnding}
use Rattle.markdown_options.specs.declared.line_ending.LineEnding.TheVariants.{CarriageReturnLineFeed, CarriageReturn, LineFeed}
use Rattle.definition_text.specs.Ascii.{line_feed, carriage_return, backslash}
use Rattle.definition_text.specs.Lines.{ending_text}
use Rattle.definition_text.specs.Columns.{Code, is_white, code_byte}
use Rattle.definition_text.specs.BlockLines.{BlockLine, own_lines}

-- A code of a content is a byte that ends no line, 256 for a remaining column of a tab, or the one code of a line ending (Codes.antt).

-- the one code of CR LF
abbrev pub return_and_feed : Code
return_and_feed = 257

-- the code of a line ending (CommonMark 2.1)
abbrev pub line_ending_code : LineEnding → Code
line_ending_code LineFeed = line_feed
line_ending_code CarriageReturn = carriage_return
line_ending_code CarriageReturnLineFeed = return_and_feed

-- a line ending, whichever it is (CommonMark 2.1)
abbrev pub is_eol : Code → Bool
is_eol code = (code == line_feed) || (code == carriage_return) || (code == return_and_feed)

-- a space, a tab or a line ending (CommonMark 2.1)
abbrev pub is_space : Code → Bool
is_space code = is_white code || is_eol code

-- a CR is before these bytes, whose codes are given: with an LF right after it, it is one code
abbrev pub after_return_code : List ℕ → List Code → List Code
after_return_code [] codes = carriage_return ∷ codes
after_return_code (b ∷ bs) codes = if b == line_feed then return_and_feed ∷ drop 1 codes else carriage_return ∷ codes

-- the codes of bytes, in which CR LF is one (CommonMark 2.1)
abbrev pub content_codes : List ℕ → List Code
content_codes [] = []
content_codes (b ∷ bs) = if b == carriage_return then after_return_code bs (content_codes bs) else b ∷ content_codes bs

-- the code of an ending, if there is one
abbrev pub ending_code : Option LineEnding → List Code
ending_code None = []
ending_code (Some ending) = line_ending_code ending ∷ []

-- the codes of a line of a block, with its ending
abbrev pub line_codes : BlockLine → List Code
line_codes line = line.codes ++ ending_code line.ending

-- the content of the lines of a block (CommonMark 4.8)
abbrev pub content_of : List BlockLine → List Code
content_of block_lines = flat_map line_codes block_lines

-- the bytes of a line with its ending: a remaining column of a tab is a space
abbrev pub line_text : BlockLine → List ℕ
line_text line = map code_byte line.codes ++ ending_text line.ending

-- the bytes of lines, without the last ending
abbrev pub content_text : List BlockLine → List ℕ
content_text ls = flat_map line_text (own_lines ls)

-- what was read of a content, and the rest of it
pub record Part : Type 0 where
  pub text : List Code
  pub rest : List Code

abbrev pub part : List Code → List Code → Part
part text rest = record { text = text; rest = rest }

-- the codes before the rest of a content
abbrev pub text_before : List Code → List Code → List Code
text_before content rest = take (length content - length rest) content

-- a text that ends where the rest begins, if there is one
abbrev pub up_to : List Code → Option (List Code) → Option Part
up_to content None = None
up_to content (Some rest) = Some (part (text_before content rest) rest)

-- the same, where the rest begins with the code that closes the text
abbrev pub closed_by : List Code → Option (List Code) → Option Part
closed_by content None = None
closed_by content (Some rest) = Some (part (text_before content rest) (drop 1 rest))

-- whether this code is a backslash that may escape the next one, given whether the code before it was (CommonMark 2.4)
abbrev pub may_escape : Bool → Code → Bool
may_escape escaped code = (code == backslash) && not escaped

-- whether only spaces and tabs are between the last line ending and the place after this code, given the same for the place before it
abbrev pub at_line_start : Bool → Code → Bool
at_line_start start code = is_eol code || (start && is_white code)
