-- Links in links (CommonMark 6.3).
use Rattle.std.specs.Prelude.{◌≡◌, Bool, true, false, List}
use Rattle.definition_text.specs.InlineCode.{InlineCode}
use Rattle.definition_inline.specs.Inline.{InlineLeaf, Literal, Link, Image, Inline, Leaf, Span, Linked, Call}
use Rattle.definition_inline.specs.Scan.{InlineContext, inlines}
use Rattle.laws_inline.specs.Occurs.{has}

-- an address that is a literal (GFM 6.9)
abbrev pub is_literal : InlineLeaf → Bool
is_literal (Literal kind text) = true
is_literal other = false

-- a link in brackets, a call of a footnote, which is one, or an address that is a literal
abbrev pub is_leading : Inline → Bool
is_leading (Leaf part) = is_literal part
is_leading (Span kind kids) = false
is_leading (Linked Link target kids) = true
is_leading (Linked Image target kids) = false
is_leading (Call label) = true

-- a link in brackets in whose text one of these stands, at any depth
abbrev pub is_nesting : Inline → Bool
is_nesting (Linked Link target kids) = has is_leading kids
is_nesting i = false

-- no link in brackets holds another, a call of a footnote or an address that is a literal, at any level of nesting, not even in the description of an
-- image; an autolink it may hold (CommonMark 6.3)
abbrev pub LinksHoldNoLinks : Type 0
LinksHoldNoLinks = (context : InlineContext) (content : List InlineCode) → has is_nesting (inlines context content) ≡ false
