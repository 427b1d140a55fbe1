-- What a heading says with its line endings or without them.
use Rattle.std.specs.Prelude.{ℕ, List, [], ◌++◌, map}
use Rattle.std.specs.List.{flat_map}
use Rattle.definition_inline.specs.Inline.{InlineLeaf, LineEnd, Link, Image, Inline, Leaf, Span, Linked, Call, Inlines, Nil, Cons}
use Rattle.definition_inline.specs.Strings.{eol_bytes}
use Rattle.definition_page.specs.HeadingText.{leaf_text}
use Rattle.inline_rows.specs.View.{line_leaf}
use Rattle.html_heading_text.specs.declared.heading_text.Endings.{Endings}
use Rattle.html_heading_text.specs.declared.heading_text.Endings.TheVariants.{Kept, Dropped}

-- a line ending
abbrev pub ending_says : Endings → ℕ → List ℕ
ending_says Kept code = eol_bytes code
ending_says Dropped code = []

-- a construct that holds no other
abbrev pub leaf_says : Endings → InlineLeaf → List ℕ
leaf_says endings (LineEnd code) = ending_says endings code
leaf_says endings leaf = leaf_text leaf

-- verbatim text, in which an LF is a line ending
abbrev pub lines_say : Endings → List ℕ → List ℕ
lines_say endings text = flat_map (leaf_says endings) (map line_leaf text)

abbrev mutual
  -- a span and a link say what is in them, an image and a call nothing
  pub part_says : Endings → Inline → List ℕ
  part_says endings (Leaf leaf) = leaf_says endings leaf
  part_says endings (Span kind kids) = heading_says endings kids
  part_says endings (Linked Link target kids) = heading_says endings kids
  part_says endings (Linked Image target kids) = []
  part_says endings (Call label) = []

  pub heading_says : Endings → Inlines → List ℕ
  heading_says endings Nil = []
  heading_says endings (Cons i is) = part_says endings i ++ heading_says endings is

-- what a heading says with its line endings; without them it is `heading_text`
abbrev pub heading_lines : Inlines → List ℕ
heading_lines is = heading_says Kept is
