-- Which parts a content and a string can have (CommonMark 6): what a construct makes that is off never occurs.
use Rattle.std.specs.Prelude.{◌≡◌, Bool, true, false, not, ◌||◌, ◌&&◌, List}
use Rattle.std.specs.List.{list_all}
use Rattle.markdown_options.specs.declared.configuration.Constructs.{Constructs}
use Rattle.definition_text.specs.InlineCode.{InlineCode}
use Rattle.definition_text.specs.Columns.{Code as TextCode}
use Rattle.definition_inline.specs.CharacterReference.{Names}
use Rattle.definition_inline.specs.Inline.{InlineLeaf, Data, Escape, Character, LineEnd, Inline, Leaf, Span, Linked, Call, Inlines, Nil, Cons}
use Rattle.definition_inline.specs.Scan.{InlineContext, inlines}
use Rattle.definition_inline.specs.Strings.{string_parts}
use Rattle.definition_inline.specs.MayStand.{leaf_may_stand, part_may_stand}

-- whether one of these parts passes a test, at any depth
abbrev mutual
  pub part_has : (Inline → Bool) → Inline → Bool
  part_has test (Leaf part) = test (Leaf part)
  part_has test (Span kind kids) = test (Span kind kids) || has test kids
  part_has test (Linked kind target kids) = test (Linked kind target kids) || has test kids
  part_has test (Call label) = test (Call label)

  pub has : (Inline → Bool) → Inlines → Bool
  has test Nil = false
  has test (Cons i is) = part_has test i || has test is

-- a part that a construct makes that is off; so is the check of a task list item, which isn't read with a content, and a line ending of another code
abbrev pub is_off : Constructs → Inline → Bool
is_off on i = not (part_may_stand on i)

-- no content has such a part
abbrev pub NothingIsOff : Type 0
NothingIsOff = (context : InlineContext) (content : List InlineCode) → has (is_off context.options.constructs) (inlines context content) ≡ false

-- ---- strings

-- a byte, an escape, what a character reference stands for, or a line ending
abbrev pub is_string_leaf : InlineLeaf → Bool
is_string_leaf (Data b) = true
is_string_leaf (Escape b) = true
is_string_leaf (Character text) = true
is_string_leaf (LineEnd code) = true
is_string_leaf other = false

-- a string, that is a title, a destination or an info, has no other parts than these, no escapes where they are off, and no references where those are off
-- (CommonMark 2.4 and 2.5)
abbrev pub OnlyStringLeaves : Type 0
OnlyStringLeaves =
    (on : Constructs) (names : Names) (string : List TextCode)
    → list_all (λ part. is_string_leaf part && leaf_may_stand on part) (string_parts on names 0 string) ≡ true
