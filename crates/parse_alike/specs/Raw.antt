-- Lines of raw blocks as events have them: texts and endings apart (CommonMark 4.4 to 4.6).
use Rattle.std.specs.Prelude.{◌≡◌, ℕ, Bool, true, false, ◌||◌, List, [], ◌∷◌, ◌++◌, Option, None, Some, is_some, map}
use Rattle.std.specs.List.{flat_map, list_all}
use Rattle.markdown_options.specs.declared.line_ending.LineEnding.{LineEnding}
use Rattle.definition_text.specs.BlockLines.{BlockLine}
use Rattle.definition_text.specs.Columns.{Code, bytes_of, code_byte}
use Rattle.event_meaning.specs.Raw.{RawPart, Chunk, End, raw_lines, fenced_lines}
use Rattle.parse_alike.specs.BlockLines.{has_lines, AreCodeLinesAlike, AreHtmlLinesAlike}

-- a text that isn't empty
abbrev pub chunk : List ℕ → List RawPart
chunk [] = []
chunk (b ∷ bs) = Chunk (b ∷ bs) ∷ []

abbrev pub end_part : Option LineEnding → List RawPart
end_part None = []
end_part (Some ending) = End ending ∷ []

-- a line of code: remaining columns of a tab are spaces
abbrev pub code_parts : BlockLine → List RawPart
code_parts line = chunk (map code_byte line.codes) ++ end_part line.ending

-- a line of HTML, without them
abbrev pub html_line_parts : BlockLine → List RawPart
html_line_parts line = chunk (bytes_of line.codes) ++ end_part line.ending

abbrev pub has_codes : List Code → Bool
has_codes [] = false
has_codes (c ∷ cs) = true

-- a line that holds something, or has an ending
abbrev pub is_there : BlockLine → Bool
is_there line = has_codes line.codes || is_some line.ending

abbrev pub AreFencedAlike : List BlockLine → List BlockLine → Type 0
AreFencedAlike ls ls' = AreCodeLinesAlike ls ls' × (has_lines ls ≡ has_lines ls')

-- Lines are alike to their parts, each on a line of its own. Those of fenced code are alike to the parts behind the ending of the opening fence's line.
-- Code that ends with its container has a line, which may be empty.
pub record RawLinesAreAlike : Type 0 where
  pub code : (ls : List BlockLine) → AreCodeLinesAlike ls (raw_lines (flat_map code_parts ls))
  pub html : (ls : List BlockLine) → AreHtmlLinesAlike ls (raw_lines (flat_map html_line_parts ls))
  pub fenced : (first : LineEnding) (ls : List BlockLine) → list_all is_there ls ≡ true
      → AreFencedAlike ls (fenced_lines false (End first ∷ flat_map code_parts ls))
  pub unclosed : (first : LineEnding) (line : BlockLine) (ls : List BlockLine)
      → AreFencedAlike (line ∷ ls) (fenced_lines true (End first ∷ flat_map code_parts (line ∷ ls)))
