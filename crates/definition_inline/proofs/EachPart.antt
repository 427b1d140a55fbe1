-- What each part of inline structure gives.
use Rattle.definition_inline.specs.Inline.{Inline, Leaf, Span, Linked, Call, Inlines, Nil, Cons}
use Rattle.definition_inline.specs.EachPart.{EachPart, EachOf}

module _ (P Q : Inline → Type 0) (gives : (i : Inline) → P i → Q i) where
  mutual
    part_gives : (i : Inline) → EachPart P i → EachPart Q i
    part_gives (Leaf part) h = gives (Leaf part) h
    part_gives (Span kind kids) h = (gives (Span kind kids) h.0, each_gives kids h.1)
    part_gives (Linked kind target kids) h = (gives (Linked kind target kids) h.0, each_gives kids h.1)
    part_gives (Call label) h = gives (Call label) h

    pub each_gives : (is : Inlines) → EachOf P is → EachOf Q is
    each_gives Nil h = tt
    each_gives (Cons i is) h = (part_gives i h.0, each_gives is h.1)
