-- The rows of inline structure: what the inline parser hands to the printer.
use Rattle.std.specs.Prelude.{List, [], ◌∷◌, ◌++◌}
use Rattle.definition_text.specs.Columns.{Code}
use Rattle.definition_inline.specs.Inline.{Target, LinkTexts, InlineLeaf, SpanKind, LinkedKind, Inline, Leaf, Span, Linked, Call, Inlines, Nil, Cons}

-- a leaf; the start of a span, and of a link or an image; the end of the innermost one; a call of a footnote
pub data InlineRow : Type 0 where
  Part : InlineLeaf → InlineRow
  EnterSpan : SpanKind → InlineRow
  EnterLinked : LinkedKind → LinkTexts → InlineRow
  Leave : InlineRow
  CallRow : List Code → InlineRow

-- the rows of inline structure, where it is known where targets lead
module _ (leads : Target → LinkTexts) where
  abbrev mutual
    pub part_rows : Inline → List InlineRow
    part_rows (Leaf part) = Part part ∷ []
    part_rows (Span kind kids) = EnterSpan kind ∷ (inline_rows kids ++ Leave ∷ [])
    part_rows (Linked kind target kids) = EnterLinked kind (leads target) ∷ (inline_rows kids ++ Leave ∷ [])
    part_rows (Call label) = CallRow label ∷ []

    pub inline_rows : Inlines → List InlineRow
    inline_rows Nil = []
    inline_rows (Cons i is) = part_rows i ++ inline_rows is
