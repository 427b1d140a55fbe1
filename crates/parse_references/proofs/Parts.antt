-- Inline structure that leads on, one part after another, and what is alike to it.
use Rattle.std.proofs.Common.{Bool, ◌||◌, List, [], ◌∷◌, sym, subst}
use Rattle.definition_text.specs.Columns.{Code}
use Rattle.definition_inline.specs.Inline.{Target, Resource, Reference, InlineLeaf, Html, Inline, Leaf, Span, Linked, Call, Inlines, Nil, Cons}
use Rattle.definition_page.specs.InlinePieces.{Meaning}
use Rattle.event_meaning.specs.Texts.{append, leaves}
use Rattle.parse_alike.specs.HtmlText.{html_leaves}
use Rattle.parse_alike.specs.Inline.{ArePartsAlike, IsPartAlike, leaf_parts}
use Rattle.parse_alike.specs.Targets.{AreTargetsAlike}
use Rattle.parse_references.specs.Leads.{AreKept, is_link, PartLeads, PartsLead, TargetLeads}

module _ (is_defined is_footnote : List Code → Bool) where
  -- ---- one after another

  pub both_lead : (linked : Bool) (is js : Inlines) → PartsLead is_defined is_footnote linked is → PartsLead is_defined is_footnote linked js
      → PartsLead is_defined is_footnote linked (append is js)
  both_lead linked Nil js first second = second
  both_lead linked (Cons i is) js first second = (first.0, both_lead linked is js first.1 second)

  pub parts_of_both : (linked : Bool) (is js : Inlines) → PartsLead is_defined is_footnote linked (append is js)
      → PartsLead is_defined is_footnote linked is × PartsLead is_defined is_footnote linked js
  parts_of_both linked Nil js h = (tt, h)
  parts_of_both linked (Cons i is) js h = let others = parts_of_both linked is js h.1 in ((h.0, others.0), others.1)

  leaves_lead : (linked : Bool) (ls : List InlineLeaf) → PartsLead is_defined is_footnote linked (leaves ls)
  leaves_lead linked [] = tt
  leaves_lead linked (l ∷ ls) = (tt, leaves_lead linked ls)

  pub leaf_leads : (linked : Bool) (l : InlineLeaf) → PartsLead is_defined is_footnote linked (leaf_parts l)
  leaf_leads linked (Html html) = leaves_lead linked (html_leaves html)
  leaf_leads linked other = (tt, tt)

-- ---- what is alike

module _ (is_defined is_footnote is_known is_called : List Code → Bool) (defined : AreKept is_defined is_known) (called : AreKept is_footnote is_called)
    (m m' : Meaning) where
  target_alike : (target target' : Target) → AreTargetsAlike m m' target target' → TargetLeads is_defined is_footnote target
      → TargetLeads is_known is_called target'
  target_alike (Resource d t) (Resource d' t') alike h = tt
  target_alike (Reference a) (Reference b) alike h = defined a b alike h
  target_alike (Resource d t) (Reference b) alike h = absurd alike
  target_alike (Reference a) (Resource d t) alike h = absurd alike

  mutual
    part_alike : (linked : Bool) (i : Inline) (js : Inlines) → PartLeads is_defined is_footnote linked i → IsPartAlike m m' i js
        → PartsLead is_known is_called linked js
    part_alike linked (Leaf l) js h is = subst (PartsLead is_known is_called linked) (sym is) (leaf_leads is_known is_called linked l)
    part_alike linked (Span kind kids) js h is =
        subst (PartsLead is_known is_called linked) (sym is.1) (alike_lead linked kids is.0 h is.2, tt)
    part_alike linked (Linked kind target kids) js h is =
        subst (PartsLead is_known is_called linked) (sym is.2)
        ((h.0, target_alike target is.0 is.3 h.1, alike_lead (linked || is_link kind) kids is.1 h.2 is.4), tt)
    part_alike linked (Call label) js h is =
        subst (PartsLead is_known is_called linked) (sym is.1) ((h.0, called label is.0 is.2 h.1), tt)

    pub alike_lead : (linked : Bool) (is js : Inlines) → PartsLead is_defined is_footnote linked is → ArePartsAlike m m' is js
        → PartsLead is_known is_called linked js
    alike_lead linked Nil js h are = subst (PartsLead is_known is_called linked) (sym are) tt
    alike_lead linked (Cons i is) js h are =
        subst (PartsLead is_known is_called linked) (sym are.2)
        (both_lead is_known is_called linked are.0 are.1 (part_alike linked i are.0 h.0 are.3) (alike_lead linked is are.1 h.1 are.4))
