-- The inline structure of a content leads on: in a link is none, and references are defined.
use Rattle.std.proofs.Common.{◌≡◌, Bool, true, false, ◌&&◌, ◌||◌, List, refl, sym}
use Rattle.std.proofs.lemmas.Bool.{not-false, or_parts, true≢false}
use Rattle.definition_text.specs.Columns.{Code}
use Rattle.definition_inline.specs.Inline.{Target, Resource, Reference, Link, Image, Inline, Leaf, Span, Linked, Call, Inlines, Nil, Cons}
use Rattle.definition_inline.specs.Scan.{inlines_from}
use Rattle.definition_page.specs.GfmTable.{in_cell, part_in_cell}
use Rattle.laws_inline.specs.NestedLinks.{is_leading, is_nesting}
use Rattle.laws_inline.specs.Occurs.{has, part_has}
use Rattle.laws_inline.specs.References.{is_undefined, leads_nowhere}
use Rattle.laws_inline.proofs.NestedLinks.{links_hold_no_links_from}
use Rattle.laws_inline.proofs.References.{references_are_defined_from}
use Rattle.parse_references.specs.Laws.{ContentsLead}
use Rattle.parse_references.specs.Leads.{is_link, PartLeads, PartsLead, TargetLeads}

module _ (is_defined is_footnote : List Code → Bool) where
  abbrev Nowhere : Inline → Bool
  Nowhere i = leads_nowhere is_defined is_footnote i

  target_leads : (target : Target) → is_undefined is_defined target ≡ false → TargetLeads is_defined is_footnote target
  target_leads (Resource destination title) h = tt
  target_leads (Reference label) h = not-false (is_defined label) h

  -- in a link stands no link
  link_alone : (linked : Bool) (target : Target) (kids : Inlines) → (linked ≡ true → part_has is_leading (Linked Link target kids) ≡ false)
      → (linked && true) ≡ false
  link_alone true target kids none = absurd (true≢false (none refl))
  link_alone false target kids none = refl

  call_alone : (linked : Bool) (label : List Code) → (linked ≡ true → part_has is_leading (Call label) ≡ false) → linked ≡ false
  call_alone true label none = absurd (true≢false (none refl))
  call_alone false label none = refl

  image_alone : (linked : Bool) → (linked && false) ≡ false
  image_alone true = refl
  image_alone false = refl

  or_image : (linked : Bool) → (linked || false) ≡ true → linked ≡ true
  or_image true h = refl
  or_image false h = h

  mutual
    part_leads : (linked : Bool) (i : Inline) → part_has is_nesting i ≡ false → part_has Nowhere i ≡ false
        → (linked ≡ true → part_has is_leading i ≡ false) → PartLeads is_defined is_footnote linked i
    part_leads linked (Leaf l) flat sound none = tt
    part_leads linked (Span kind kids) flat sound none = parts_lead linked kids flat sound none
    part_leads linked (Linked Link target kids) flat sound none =
        let nests = or_parts (has is_leading kids) (has is_nesting kids) flat in
        let lost = or_parts (is_undefined is_defined target) (has Nowhere kids) sound in
        (link_alone linked target kids none, target_leads target lost.0, parts_lead (linked || true) kids nests.1 lost.1 (λ _. nests.0))
    part_leads linked (Linked Image target kids) flat sound none =
        let lost = or_parts (is_undefined is_defined target) (has Nowhere kids) sound in
        (image_alone linked, target_leads target lost.0, parts_lead (linked || false) kids flat lost.1 (λ e. none (or_image linked e)))
    part_leads linked (Call label) flat sound none = (call_alone linked label none, not-false (is_footnote label) sound)

    parts_lead : (linked : Bool) (is : Inlines) → has is_nesting is ≡ false → has Nowhere is ≡ false → (linked ≡ true → has is_leading is ≡ false)
        → PartsLead is_defined is_footnote linked is
    parts_lead linked Nil flat sound none = tt
    parts_lead linked (Cons i is) flat sound none =
        let nests = or_parts (part_has is_nesting i) (has is_nesting is) flat in
        let lost = or_parts (part_has Nowhere i) (has Nowhere is) sound in (
          part_leads linked i nests.0 lost.0 (λ e. (or_parts (part_has is_leading i) (has is_leading is) (none e)).0),
          parts_lead linked is nests.1 lost.1 (λ e. (or_parts (part_has is_leading i) (has is_leading is) (none e)).1),
        )

  -- ---- cells

  mutual
    part_cell : (linked : Bool) (i : Inline) → PartLeads is_defined is_footnote linked i → PartLeads is_defined is_footnote linked (part_in_cell i)
    part_cell linked (Leaf l) h = tt
    part_cell linked (Span kind kids) h = cell_leads linked kids h
    part_cell linked (Linked kind target kids) h = (h.0, h.1, cell_leads (linked || is_link kind) kids h.2)
    part_cell linked (Call label) h = h

    cell_leads : (linked : Bool) (is : Inlines) → PartsLead is_defined is_footnote linked is → PartsLead is_defined is_footnote linked (in_cell is)
    cell_leads linked Nil h = tt
    cell_leads linked (Cons i is) h = (part_cell linked i h.0, cell_leads linked is h.1)

pub contents_lead : ContentsLead
contents_lead = record {
  content = λ context content.
      parts_lead context.is_defined context.is_footnote false (inlines_from context content) (links_hold_no_links_from context content)
      (references_are_defined_from context content) (λ e. absurd (true≢false (sym e)));
  cell = cell_leads;
}
