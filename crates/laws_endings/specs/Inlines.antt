-- Inline structure with another line ending in place of each LF.
use Rattle.std.specs.Prelude.{List, map}
use Rattle.std.specs.Option.{option_map}
use Rattle.markdown_options.specs.declared.line_ending.LineEnding.{LineEnding}
use Rattle.definition_text.specs.InlineCode.{InlineCode, inline_code}
use Rattle.definition_inline.specs.Inline.{Target, Resource, Reference, InlineLeaf, Autolink, Html, LineEnd, Inline, Leaf, Span, Linked, Call, Inlines, Nil}
use Rattle.definition_inline.specs.Inline.{Cons}
use Rattle.laws_endings.specs.Endings.{code_with, codes_with}

-- a code of a content, between the same kinds
abbrev pub inline_code_with : LineEnding → InlineCode → InlineCode
inline_code_with e c = inline_code (code_with e c.code) (option_map (code_with e) c.previous) c.before c.after

abbrev pub content_with : LineEnding → List InlineCode → List InlineCode
content_with e content = map (inline_code_with e) content

-- what a link or an image leads to
abbrev pub target_with : LineEnding → Target → Target
target_with e (Resource destination title) = Resource (codes_with e destination) (option_map (codes_with e) title)
target_with e (Reference label) = Reference (codes_with e label)

-- a leaf with this ending in place of each LF of it that isn't turned into a space
abbrev pub leaf_with : LineEnding → InlineLeaf → InlineLeaf
leaf_with e (Autolink is_email text) = Autolink is_email (codes_with e text)
leaf_with e (Html html) = Html (codes_with e html)
leaf_with e (LineEnd code) = LineEnd (code_with e code)
leaf_with e other = other

abbrev mutual
  -- a part of a text with this ending in place of each LF of its leaves, targets and labels
  pub inline_with : LineEnding → Inline → Inline
  inline_with e (Leaf part) = Leaf (leaf_with e part)
  inline_with e (Span kind kids) = Span kind (inlines_with e kids)
  inline_with e (Linked kind target kids) = Linked kind (target_with e target) (inlines_with e kids)
  inline_with e (Call label) = Call (codes_with e label)

  pub inlines_with : LineEnding → Inlines → Inlines
  inlines_with e Nil = Nil
  inlines_with e (Cons i is) = Cons (inline_with e i) (inlines_with e is)
