-- The inline structure of a content (CommonMark 6).
use Rattle.std.specs.Prelude.{ℕ, Bool, List, Option, None, Some}
use Rattle.definition_text.specs.Columns.{Code as ContentCode}

-- What a link or an image leads to: the destination and the title of a resource, or the label of a definition; each is given by its codes as they are written.
pub data Target : Type 0 where
  Resource : List ContentCode → Option (List ContentCode) → Target
  Reference : List ContentCode → Target

-- where a link or an image leads: a destination and a title, by their codes as they are written
pub record LinkTexts : Type 0 where
  pub destination : List ContentCode
  pub title : Option (List ContentCode)

abbrev pub link_texts : List ContentCode → Option (List ContentCode) → LinkTexts
link_texts destination title = record { destination = destination; title = title }

-- what a literal leads to: `http://` and its text; its text, which begins with a protocol; or `mailto:` and its text (GFM 6.9)
pub data LiteralKind : Type 0 where
  Www : LiteralKind
  Protocol : LiteralKind
  Email : LiteralKind

-- A leaf, which holds no other part: a byte; a byte after the backslash that escapes it; the text that a character reference stands for; the text of a code
-- span; that of math; an autolink to an email address or not, with what stands between its brackets; a literal; raw HTML by its codes; a hard line break by a
-- backslash; one by spaces; the code of a line ending; the check of a task list item, which says whether the item is done.
pub data InlineLeaf : Type 0 where
  Data : ℕ → InlineLeaf
  Escape : ℕ → InlineLeaf
  Character : List ℕ → InlineLeaf
  Code : List ℕ → InlineLeaf
  Math : List ℕ → InlineLeaf
  Autolink : Bool → List ContentCode → InlineLeaf
  Literal : LiteralKind → List ContentCode → InlineLeaf
  Html : List ContentCode → InlineLeaf
  EscapedBreak : InlineLeaf
  TrailingBreak : InlineLeaf
  LineEnd : ContentCode → InlineLeaf
  TaskCheck : Bool → InlineLeaf

-- what stands between two runs that go together
pub data SpanKind : Type 0 where
  Emphasis : SpanKind
  Strong : SpanKind
  Strikethrough : SpanKind
  Mark : SpanKind

-- what leads to a target: a link around its text, or an image with its description
pub data LinkedKind : Type 0 where
  Link : LinkedKind
  Image : LinkedKind

-- A part of a text: a leaf; a span with what it holds; a link or an image with its target and what it holds; a call of a footnote, with the label between its
-- brackets as it is written.
mutual
  pub data Inline : Type 0 where
    Leaf : InlineLeaf → Inline
    Span : SpanKind → Inlines → Inline
    Linked : LinkedKind → Target → Inlines → Inline
    Call : List ContentCode → Inline

  pub data Inlines : Type 0 where
    Nil : Inlines
    Cons : Inline → Inlines → Inlines

-- parts, and one more after them
abbrev pub followed_by : Inlines → Inline → Inlines
followed_by Nil last = Cons last Nil
followed_by (Cons i is) last = Cons i (followed_by is last)

-- what a construct that holds no other makes: its leaves, and how many codes it takes
pub record Found : Type 0 where
  pub parts : List InlineLeaf
  pub size : ℕ

abbrev pub leaf : List InlineLeaf → ℕ → Found
leaf parts size = record { parts = parts; size = size }

-- a construct, or else another one
abbrev pub or_else : Option Found → Option Found → Option Found
or_else None other = other
or_else (Some found) other = Some found
