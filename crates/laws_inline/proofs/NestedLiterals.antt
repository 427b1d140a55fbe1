-- A link in brackets that holds no other holds no literal, either, once literals are found.
use Rattle.std.proofs.Common.{◌≡◌, ℕ, Bool, true, false, ◌||◌, List, [], ◌∷◌, ◌++◌, map, refl}
use Rattle.std.proofs.lemmas.Bool.{or_from, or_parts, both_ways}
use Rattle.definition_inline.specs.Inline.{InlineLeaf, Data, Literal, Link, Image, Inline, Leaf, Span, Linked, Call, Inlines, Nil, Cons}
use Rattle.definition_inline.specs.GfmAutolinkLiteral.{with_addresses, parts_before, leaf_without, without_literals, addresses_before, with_literals}
use Rattle.definition_inline.proofs.GfmAutolinkLiteral.{any_with}
use Rattle.laws_inline.specs.Occurs.{part_has, has}
use Rattle.laws_inline.specs.NestedLinks.{is_literal, is_leading, is_nesting}
use Rattle.laws_inline.proofs.Each.{Each, each_map}

-- a link in brackets, or a call of a footnote
abbrev pub is_bracketed : Inline → Bool
is_bracketed (Linked Link target kids) = true
is_bracketed (Call label) = true
is_bracketed i = false

-- a link in whose text one of these stands, at any depth
abbrev pub holds_bracketed : Inline → Bool
holds_bracketed (Linked Link target kids) = has is_bracketed kids
holds_bracketed i = false

-- a leaf that is a literal
abbrev pub is_literal_part : Inline → Bool
is_literal_part (Leaf part) = is_literal part
is_literal_part i = false

-- ---- what lacks two things lacks a third

module _ (one other third : Inline → Bool) (fails : (i : Inline) → part_has one i ≡ false → part_has other i ≡ false → third i ≡ false) where
  held_lacks : (make : Inlines → Inline) (kids : Inlines) → third (make kids) ≡ false → (one (make kids) || has one kids) ≡ false
      → (other (make kids) || has other kids) ≡ false → (has one kids ≡ false → has other kids ≡ false → has third kids ≡ false)
      → (third (make kids) || has third kids) ≡ false
  held_lacks make kids e h p inner =
      or_from (third (make kids)) (has third kids) e
      (inner (or_parts (one (make kids)) (has one kids) h).1 (or_parts (other (make kids)) (has other kids) p).1)

  mutual
    part_lacks : (i : Inline) → part_has one i ≡ false → part_has other i ≡ false → part_has third i ≡ false
    part_lacks (Leaf part) h p = fails (Leaf part) h p
    part_lacks (Span kind kids) h p = held_lacks (Span kind) kids (fails (Span kind kids) h p) h p (lacks kids)
    part_lacks (Linked kind target kids) h p = held_lacks (Linked kind target) kids (fails (Linked kind target kids) h p) h p (lacks kids)
    part_lacks (Call label) h p = fails (Call label) h p

    lacks : (is : Inlines) → has one is ≡ false → has other is ≡ false → has third is ≡ false
    lacks Nil h p = refl
    lacks (Cons i is) h p =
        let ones = or_parts (part_has one i) (has one is) h in
        let others = or_parts (part_has other i) (has other is) p in
        or_from (part_has third i) (has third is) (part_lacks i ones.0 others.0) (lacks is ones.1 others.1)

no_lead : (i : Inline) → part_has is_bracketed i ≡ false → part_has is_literal_part i ≡ false → is_leading i ≡ false
no_lead (Leaf part) h p = p
no_lead (Span kind kids) h p = refl
no_lead (Linked Link target kids) h p = absurd (both_ways true h refl)
no_lead (Linked Image target kids) h p = refl
no_lead (Call label) h p = absurd (both_ways true h refl)

-- where nothing leads anywhere, nothing nests
no_nest : (i : Inline) → part_has is_leading i ≡ false → part_has is_leading i ≡ false → is_nesting i ≡ false
no_nest (Linked Link target kids) h p = absurd (both_ways true h refl)
no_nest i h p = refl

leads_flat : (is : Inlines) → has is_leading is ≡ false → has is_nesting is ≡ false
leads_flat is h = lacks is_leading is_leading is_nesting no_nest is h h

-- where there is no literal, a link that holds no other holds nothing that leads anywhere
no_hold : (i : Inline) → part_has holds_bracketed i ≡ false → part_has is_literal_part i ≡ false → is_nesting i ≡ false
no_hold (Linked Link target kids) h p =
    lacks is_bracketed is_literal_part is_leading no_lead kids (or_parts (has is_bracketed kids) (has holds_bracketed kids) h).0 p
no_hold i h p = refl

pub none_flat : (is : Inlines) → has holds_bracketed is ≡ false → has is_literal_part is ≡ false → has is_nesting is ≡ false
none_flat is h p = lacks holds_bracketed is_literal_part is_nesting no_hold is h p

-- ---- leaves before others

leaves_before : (test : Inline → Bool) (parts : List InlineLeaf) (is : Inlines) → Each (λ part. test (Leaf part) ≡ false) parts → has test is ≡ false
    → has test (parts_before (map Leaf parts) is) ≡ false
leaves_before test [] is h p = p
leaves_before test (part ∷ parts) is h p = or_from (test (Leaf part)) (has test (parts_before (map Leaf parts) is)) h.0 (leaves_before test parts is h.1 p)

-- no leaf nests
any_flat : (parts : List InlineLeaf) → Each (λ part. is_nesting (Leaf part) ≡ false) parts
any_flat [] = tt
any_flat (part ∷ parts) = (refl, any_flat parts)

run_flat : (run : List ℕ) (is : Inlines) → has is_nesting is ≡ false → has is_nesting (addresses_before run is) ≡ false
run_flat run is h = leaves_before is_nesting (with_addresses run) is (any_flat (with_addresses run)) h

-- ---- what literals leave

both_lack : (a b c d : Bool) → (a || b) ≡ false → (a ≡ false → c ≡ false) → (b ≡ false → d ≡ false) → (c || d) ≡ false
both_lack a b c d h f g = let parts = or_parts a b h in or_from c d (f parts.0) (g parts.1)

leaf_without_leads : (part : InlineLeaf) → Each (λ part. is_literal part ≡ false) (leaf_without part)
leaf_without_leads (Literal kind text) = each_map (λ part. is_literal part ≡ false) Data text (λ b. refl)
leaf_without_leads part = (refl, tt)

-- the text of a link, whose literals are text
without_leads : (is : Inlines) → has is_bracketed is ≡ false → has is_leading (without_literals is) ≡ false
without_leads Nil h = refl
without_leads (Cons (Leaf part) is) h = leaves_before is_leading (leaf_without part) (without_literals is) (leaf_without_leads part) (without_leads is h)
without_leads (Cons (Span kind kids) is) h = both_lack (has is_bracketed kids) (has is_bracketed is) _ _ h (without_leads kids) (without_leads is)
without_leads (Cons (Linked Image target kids) is) h = both_lack (has is_bracketed kids) (has is_bracketed is) _ _ h (without_leads kids) (without_leads is)
without_leads (Cons (Linked Link target kids) is) h = absurd (both_ways true h refl)
without_leads (Cons (Call label) is) h = absurd (both_ways true h refl)

-- a link whose literals are text
link_flat : (kids : Inlines) → (has is_bracketed kids || has holds_bracketed kids) ≡ false
    → (has is_leading (without_literals kids) || has is_nesting (without_literals kids)) ≡ false
link_flat kids h =
    let inner = without_leads kids (or_parts (has is_bracketed kids) (has holds_bracketed kids) h).0 in
    or_from (has is_leading (without_literals kids)) _ inner (leads_flat (without_literals kids) inner)

pub with_flat : (run : List ℕ) (is : Inlines) → has holds_bracketed is ≡ false → has is_nesting (with_literals run is) ≡ false
with_flat run Nil h = run_flat run Nil refl
with_flat run (Cons (Leaf part) is) h =
    any_with run is (λ part others. has is_nesting others ≡ false) (λ b. with_flat (run ++ b ∷ []) is h)
    (λ it. run_flat run (Cons (Leaf it) (with_literals [] is)) (with_flat [] is h)) part
with_flat run (Cons (Span kind kids) is) h =
    run_flat run _ (both_lack (has holds_bracketed kids) (has holds_bracketed is) _ _ h (with_flat [] kids) (with_flat [] is))
with_flat run (Cons (Linked Image target kids) is) h =
    run_flat run _ (both_lack (has holds_bracketed kids) (has holds_bracketed is) _ _ h (with_flat [] kids) (with_flat [] is))
with_flat run (Cons (Linked Link target kids) is) h =
    run_flat run _ (both_lack (has is_bracketed kids || has holds_bracketed kids) (has holds_bracketed is) _ _ h (link_flat kids) (with_flat [] is))
with_flat run (Cons (Call label) is) h = run_flat run (Cons (Call label) (with_literals [] is)) (with_flat [] is h)
