-- Literals in inline structure with another ending in place of each LF: none holds an ending.
use Rattle.std.proofs.Common.{◌≡◌, ℕ, zero, suc, List, [], ◌∷◌, ◌++◌, eqb, None, Some, Option, refl, sym, ap, ◌∙◌, map}
use Rattle.laws_endings.proofs.Prelude.{Call, cond_both, Cons, Constructs, Data, Image, Inline, inline_with, InlineLeaf, Inlines, inlines_with, Leaf}
use Rattle.laws_endings.proofs.Prelude.{leaf_with, LineEnding, Link, Linked, linked_literals, Literal, Nil, Span, target_with}
use Rattle.definition_inline.specs.GfmAutolinkLiteral.{Address, address_or_text, address_at, parts_from, with_addresses, parts_before, leaf_without}
use Rattle.definition_inline.specs.GfmAutolinkLiteral.{without_literals, part_without, addresses_before, with_literals, part_with}
use Rattle.definition_inline.specs.GfmAutolinkLiteral.{without_last}
use Rattle.laws_endings.proofs.Codes.{cond-under}
use Rattle.laws_endings.proofs.Leaves.{data_kept}

module _ (e : LineEnding) where
  abbrev AreKept : List InlineLeaf → Type 0
  AreKept parts = map (leaf_with e) parts ≡ parts

  joined_kept : (run : List ℕ) (part : InlineLeaf) (parts : List InlineLeaf) → leaf_with e part ≡ part → AreKept parts
      → AreKept ((map Data run ++ part ∷ []) ++ parts)
  joined_kept [] part parts one rest = ap (λ first. first ∷ map (leaf_with e) parts) one ∙ ap (λ more. part ∷ more) rest
  joined_kept (b ∷ bs) part parts one rest = ap (λ more. Data b ∷ more) (joined_kept bs part parts one rest)

  found_kept : (before after : List ℕ) (found : Option Address) (rest : ℕ → List ℕ → List InlineLeaf)
      → ((k : ℕ) (next : List ℕ) → AreKept (rest k next)) → AreKept (address_or_text before after found rest)
  found_kept before after None rest h = h 0 (before ++ 64 ∷ [])
  found_kept before after (Some found) rest h = joined_kept (without_last found.before before) _ (rest found.after []) refl (h found.after [])

  parts_kept : (k : ℕ) (before cs : List ℕ) → AreKept (parts_from k before cs)
  parts_kept zero before [] = data_kept e before
  parts_kept (suc k) before [] = data_kept e before
  parts_kept zero before (c ∷ cs) =
      cond_both (eqb c 64) (address_or_text before cs (address_at before cs) (λ more next. parts_from more next cs))
      (parts_from 0 (before ++ c ∷ []) cs) AreKept
      (λ _. found_kept before cs (address_at before cs) (λ more next. parts_from more next cs) (λ more next. parts_kept more next cs))
      (λ _. parts_kept 0 (before ++ c ∷ []) cs)
  parts_kept (suc k) before (c ∷ cs) = parts_kept k before cs

  leaves-with : (parts : List InlineLeaf) → map Leaf (map (leaf_with e) parts) ≡ map (inline_with e) (map Leaf parts)
  leaves-with [] = refl
  leaves-with (part ∷ parts) = ap (λ more. Leaf (leaf_with e part) ∷ more) (leaves-with parts)

  before-with : (is : List Inline) (others : Inlines) → parts_before (map (inline_with e) is) (inlines_with e others) ≡ inlines_with e (parts_before is others)
  before-with [] others = refl
  before-with (i ∷ is) others = ap (Cons (inline_with e i)) (before-with is others)

  -- ---- the text of a link

  leaf_without-with : (part : InlineLeaf) → leaf_without (leaf_with e part) ≡ map (leaf_with e) (leaf_without part)
  leaf_without-with (Literal kind text) = sym (data_kept e text)
  leaf_without-with other = refl

  mutual
    part_without-with : (i : Inline) → part_without (inline_with e i) ≡ map (inline_with e) (part_without i)
    part_without-with (Leaf part) = ap (map Leaf) (leaf_without-with part) ∙ leaves-with (leaf_without part)
    part_without-with (Span kind kids) = ap (λ inner. Span kind inner ∷ []) (without-with kids)
    part_without-with (Linked kind target kids) = ap (λ inner. Linked kind (target_with e target) inner ∷ []) (without-with kids)
    part_without-with (Call label) = refl

    without-with : (is : Inlines) → without_literals (inlines_with e is) ≡ inlines_with e (without_literals is)
    without-with Nil = refl
    without-with (Cons i is) =
        ap (λ first. parts_before first (without_literals (inlines_with e is))) (part_without-with i)
        ∙ ap (parts_before (map (inline_with e) (part_without i))) (without-with is)
        ∙ before-with (part_without i) (without_literals is)

  -- ---- the whole

  -- a run of text with its addresses, before others
  run-with : (run : List ℕ) (others : Inlines) → addresses_before run (inlines_with e others) ≡ inlines_with e (addresses_before run others)
  run-with run others =
      let parts = with_addresses run in
      ap (λ leaves. parts_before (map Leaf leaves) (inlines_with e others)) (sym (parts_kept 0 [] run))
      ∙ ap (λ is. parts_before is (inlines_with e others)) (leaves-with parts)
      ∙ before-with (map Leaf parts) others

  mutual
    part_with-with : (i : Inline) → part_with (inline_with e i) ≡ inline_with e (part_with i)
    part_with-with (Leaf part) = refl
    part_with-with (Span kind kids) = ap (Span kind) (literals-with [] kids)
    part_with-with (Linked Link target kids) = ap (Linked Link (target_with e target)) (without-with kids)
    part_with-with (Linked Image target kids) = ap (Linked Image (target_with e target)) (literals-with [] kids)
    part_with-with (Call label) = refl

    literals-with : (run : List ℕ) (is : Inlines) → with_literals run (inlines_with e is) ≡ inlines_with e (with_literals run is)
    literals-with run Nil = run-with run Nil
    literals-with run (Cons (Leaf (Data b)) is) = literals-with (run ++ b ∷ []) is
    literals-with run (Cons i is) =
        ap (λ first. addresses_before run (Cons first (with_literals [] (inlines_with e is)))) (part_with-with i)
        ∙ ap (λ more. addresses_before run (Cons (inline_with e (part_with i)) more)) (literals-with [] is)
        ∙ run-with run (Cons (part_with i) (with_literals [] is))

  pub linked-with : (on : Constructs) (is : Inlines) → linked_literals on (inlines_with e is) ≡ inlines_with e (linked_literals on is)
  linked-with on is = cond-under (inlines_with e) on.gfm_autolink_literal (literals-with [] is) refl
