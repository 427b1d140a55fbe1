-- Raw blocks: the lines that code, math and HTML spell (CommonMark 4.4 to 4.6).
use Rattle.std.specs.Prelude.{ℕ, Bool, if◌then◌else◌, ◌==◌, List, [], ◌∷◌, ◌++◌, None, Some}
use Rattle.markdown_options.specs.declared.line_ending.LineEnding.{LineEnding}
use Rattle.markdown_options.specs.declared.line_ending.LineEnding.TheVariants.{LineFeed, CarriageReturn, CarriageReturnLineFeed}
use Rattle.engine_events.specs.declared.event.Name.{Name}
use Rattle.engine_events.specs.declared.event.Name.TheVariants as n
use Rattle.definition_text.specs.Ascii.{carriage_return}
use Rattle.definition_text.specs.BlockLines.{BlockLine, spaced_line}
use Rattle.event_grammar.specs.InGrammar.{node_name}
use Rattle.event_grammar.specs.Trees.{Node, Nodes, Nil, Cons}
use Rattle.event_meaning.specs.Children.{text_of, spaced_text_of}

-- the line ending of these bytes
abbrev pub ending_of : List ℕ → LineEnding
ending_of [] = LineFeed
ending_of (b ∷ c ∷ bs) = CarriageReturnLineFeed
ending_of (b ∷ []) = if b == carriage_return then CarriageReturn else LineFeed

-- a piece of a raw block: a chunk, or an ending
pub data RawPart : Type 0 where
  Chunk : List ℕ → RawPart
  End : LineEnding → RawPart

module _ (bytes : List ℕ) where
  abbrev pub raw_part : Name → Node → List RawPart
  raw_part n.LineEnding node = End (ending_of (text_of bytes node)) ∷ []
  raw_part n.CodeFlowChunk node = Chunk (spaced_text_of bytes node) ∷ []
  raw_part n.MathFlowChunk node = Chunk (spaced_text_of bytes node) ∷ []
  raw_part n.HtmlFlowData node = Chunk (text_of bytes node) ∷ []
  raw_part name node = []

  abbrev pub raw_parts : Nodes → List RawPart
  raw_parts Nil = []
  raw_parts (Cons node ns) = raw_part (node_name node) node ++ raw_parts ns

-- the parts without the first ending among them: that of an opening fence's line
abbrev pub without_first_end : List RawPart → List RawPart
without_first_end [] = []
without_first_end (End ending ∷ parts) = parts
without_first_end (Chunk text ∷ parts) = Chunk text ∷ without_first_end parts

-- a line for each part: a chunk without an ending, or an ending alone
abbrev pub raw_lines : List RawPart → List BlockLine
raw_lines [] = []
raw_lines (End ending ∷ parts) = spaced_line [] (Some ending) ∷ raw_lines parts
raw_lines (Chunk text ∷ parts) = spaced_line text None ∷ raw_lines parts

-- a line where there is none, but an ending behind the opening fence
abbrev pub some_line : List RawPart → List BlockLine → List BlockLine
some_line (part ∷ parts) [] = spaced_line [] None ∷ []
some_line parts ls = ls

-- the lines of what stands behind an opening fence; code that ends with a line does so also if that is empty
abbrev pub fenced_lines : Bool → List RawPart → List BlockLine
fenced_lines ends_with_line parts =
    let ls = raw_lines (without_first_end parts) in
    if ends_with_line then some_line parts ls else ls
