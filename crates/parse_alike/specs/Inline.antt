-- When the inline structures of two pages are alike (CommonMark 6).
use Rattle.std.specs.Prelude.{◌≡◌, List}
use Rattle.definition_text.specs.Columns.{Code as ContentCode}
use Rattle.definition_inline.specs.Inline.{Target, InlineLeaf, Html, Inline, Leaf, Span, Linked, Call, Inlines, Nil, Cons}
use Rattle.definition_page.specs.InlinePieces.{Meaning}
use Rattle.event_meaning.specs.Texts.{append, part, leaves}
use Rattle.parse_alike.specs.HtmlText.{html_leaves}
use Rattle.parse_alike.specs.Targets.{AreLabelsAlike, AreTargetsAlike}

-- a leaf: raw HTML is cut at its line endings, any other is the same
abbrev pub leaf_parts : InlineLeaf → Inlines
leaf_parts (Html html) = leaves (html_leaves html)
leaf_parts other = part (Leaf other)

module _ (m m' : Meaning) where
  abbrev mutual
    -- A part is alike to the parts that it becomes: a leaf to itself or its pieces, a span to one around parts that are alike, a link or an image to one with a
    -- target that is alike, too, a call to one by a label that matches.
    pub IsPartAlike : Inline → Inlines → Type 0
    IsPartAlike (Leaf l) js = js ≡ leaf_parts l
    IsPartAlike (Span kind kids) js = (kids' : Inlines) × (js ≡ part (Span kind kids')) × ArePartsAlike kids kids'
    IsPartAlike (Linked kind target kids) js =
        (target' : Target) × (kids' : Inlines) × (js ≡ part (Linked kind target' kids')) × AreTargetsAlike m m' target target' × ArePartsAlike kids kids'
    IsPartAlike (Call label) js = (label' : List ContentCode) × (js ≡ part (Call label')) × AreLabelsAlike label label'

    -- parts, one after another
    pub ArePartsAlike : Inlines → Inlines → Type 0
    ArePartsAlike Nil js = js ≡ Nil
    ArePartsAlike (Cons i is) js = (front : Inlines) × (others : Inlines) × (js ≡ append front others) × IsPartAlike i front × ArePartsAlike is others
