-- What holds of each part of inline structure, at any depth.
use Rattle.definition_inline.specs.Inline.{Inline, Leaf, Span, Linked, Call, Inlines, Nil, Cons}

abbrev mutual
  pub EachPart : (Inline → Type 0) → Inline → Type 0
  EachPart P (Leaf part) = P (Leaf part)
  EachPart P (Span kind kids) = P (Span kind kids) × EachOf P kids
  EachPart P (Linked kind target kids) = P (Linked kind target kids) × EachOf P kids
  EachPart P (Call label) = P (Call label)

  pub EachOf : (Inline → Type 0) → Inlines → Type 0
  EachOf P Nil = Unit {0}
  EachOf P (Cons i is) = EachPart P i × EachOf P is
