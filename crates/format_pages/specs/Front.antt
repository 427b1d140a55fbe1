-- What is before the first block of a text: a byte order mark, and frontmatter.
use Rattle.std.specs.Prelude.{ℕ, ◌-◌, List, ◌++◌, Option, None, Some, drop, length, take}
use Rattle.std.specs.List.{flat_map}
use Rattle.definition_text.specs.Lines.{TextLine, ending_text, lines, without_mark}
use Rattle.definition_block.specs.Frontmatter.{after_frontmatter}
use Rattle.format_pages.specs.Constructs.{every_construct}

-- the bytes of a line, with its ending
abbrev pub line_bytes : TextLine → List ℕ
line_bytes line = line.content ++ ending_text line.ending

-- the lines after the frontmatter, or all if there is none
abbrev pub lines_left : List TextLine → Option (List TextLine) → List TextLine
lines_left all None = all
lines_left all (Some others) = others

-- the lines after a byte order mark and frontmatter
abbrev pub body_lines : List ℕ → List TextLine
body_lines text = let all = lines (without_mark text) in lines_left all (after_frontmatter every_construct all)

-- how many bytes are before these lines
abbrev pub front_size : List ℕ → ℕ
front_size text = length text - length (flat_map line_bytes (body_lines text))

-- the bytes before them, and from there on
abbrev pub front : List ℕ → List ℕ
front text = take (front_size text) text

abbrev pub body : List ℕ → List ℕ
body text = drop (front_size text) text
