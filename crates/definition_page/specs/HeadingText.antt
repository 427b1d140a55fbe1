-- What a heading says: its text without tags, images, raw HTML, line endings, boxes of tasks and calls of footnotes.
use Rattle.std.specs.Prelude.{ℕ, List, [], ◌++◌}
use Rattle.definition_text.specs.Encode.{plain_byte, plain}
use Rattle.definition_inline.specs.Inline.{InlineLeaf, Data, Escape, Character, Code, Math, Autolink, Literal, Html, EscapedBreak, TrailingBreak, LineEnd}
use Rattle.definition_inline.specs.Inline.{TaskCheck, Link, Image, Inline, Leaf, Span, Linked, Call, Inlines, Nil, Cons}

-- what a construct says that holds no other: its text as on the page, where NUL is U+FFFD; nothing for raw HTML, a line ending, a hard line break and a box
abbrev pub leaf_text : InlineLeaf → List ℕ
leaf_text (Data b) = plain_byte b
leaf_text (Escape b) = plain_byte b
leaf_text (Character text) = plain text
leaf_text (Code text) = plain text
leaf_text (Math text) = plain text
leaf_text (Autolink is_email text) = plain text
leaf_text (Literal kind text) = plain text
leaf_text (Html html) = []
leaf_text EscapedBreak = []
leaf_text TrailingBreak = []
leaf_text (LineEnd code) = []
leaf_text (TaskCheck done) = []

abbrev mutual
  -- a span and a link say what is in them, an image and a call nothing
  pub part_text : Inline → List ℕ
  part_text (Leaf part) = leaf_text part
  part_text (Span kind kids) = heading_text kids
  part_text (Linked Link target kids) = heading_text kids
  part_text (Linked Image target kids) = []
  part_text (Call label) = []

  pub heading_text : Inlines → List ℕ
  heading_text Nil = []
  heading_text (Cons i is) = part_text i ++ heading_text is
