-- Pages that are alike, and pages that aren't.
use Rattle.std.proofs.Common.{◌≡◌, inl, inr, ℕ, eqb, List, [], ◌∷◌, None, Some, length, codes, refl, sym, ap, ◌∙◌, subst}
use Rattle.std.specs.Prelude.{slice_index_or}
use Rattle.parse_alike.proofs.Prelude.{append, AreAlikeAfterFront, AreMeaningsAlike, ArePartsAlike, AreTargetsAlike, Call, Cons, Html, HtmlPart, Inline}
use Rattle.parse_alike.proofs.Prelude.{Inlines, IsBlockAlike, IsPartAlike, Leaf, leaves, LineEnd, Link, Linked, Nil, Reference, Resource, Target, true≢false}
use Rattle.markdown_options.specs.declared.line_ending.LineEnding.TheVariants.{LineFeed}
use Rattle.definition_text.specs.BlockLines.{spaced_line}
use Rattle.definition_text.specs.Columns.{tab_column}
use Rattle.definition_inline.specs.Inline.{Data}
use Rattle.definition_page.specs.Page as page
use Rattle.event_meaning.specs.Texts.{part}
use Rattle.parse_alike.specs.Examples.{plain_meaning, AreAlike, text, paragraph, link, code_block, html_block, AlikeExamples, RefusedExamples}

-- ---- alike

plain_alike : AreMeaningsAlike plain_meaning plain_meaning
plain_alike = record { compile = refl; footnotes = refl; definitions = λ a b p. (refl, refl) }

alike_by : (b c : page.Block) → IsBlockAlike plain_meaning plain_meaning b c → AreAlike b c
alike_by b c p = record { meanings = plain_alike; blocks = inl (p, tt); ends_blank = refl }

-- one part that is alike to parts
one_alike : (i : Inline) (js : Inlines) → IsPartAlike plain_meaning plain_meaning i js → ArePartsAlike plain_meaning plain_meaning (part i) (append js Nil)
one_alike i js p = (js, Nil, refl, p, refl)

abbrev parts_alike : Inlines → Inlines → Type 0
parts_alike is js = ArePartsAlike plain_meaning plain_meaning is js

link_alike : parts_alike (part (Linked Link (Resource (codes "\\*") None) (text (codes "c"))))
    (part (Linked Link (Resource (codes "*") (Some [])) (text (codes "c"))))
link_alike =
    let to = Resource (codes "*") (Some []) in
    one_alike (Linked Link (Resource (codes "\\*") None) (text (codes "c"))) (part (Linked Link to (text (codes "c"))))
    (to, text (codes "c"), refl, (refl, refl), one_alike (Leaf (Data 99)) (text (codes "c")) refl)

call_alike : parts_alike (part (Call (codes "a\n b"))) (part (Call (codes "a b")))
call_alike = one_alike (Call (codes "a\n b")) (part (Call (codes "a b"))) (codes "a b", refl, refl)

html_alike : parts_alike (leaves (Html (codes "<a\n  b>") ∷ [])) (leaves (Html (codes "<a") ∷ LineEnd 10 ∷ Html (codes "b>") ∷ []))
html_alike = one_alike (Leaf (Html (codes "<a\n  b>"))) (leaves (Html (codes "<a") ∷ LineEnd 10 ∷ Html (codes "b>") ∷ [])) refl

pub alike_examples : AlikeExamples
alike_examples = (
  alike_by (link (codes "\\*") None) (link (codes "*") (Some [])) link_alike,
  alike_by (paragraph (part (Call (codes "a\n b")))) (paragraph (part (Call (codes "a b")))) call_alike,
  alike_by (paragraph (leaves (Html (codes "<a\n  b>") ∷ []))) (paragraph (leaves (Html (codes "<a") ∷ LineEnd 10 ∷ Html (codes "b>") ∷ []))) html_alike,
  alike_by (code_block (spaced_line (tab_column ∷ codes "a") (Some LineFeed) ∷ []))
      (code_block (spaced_line (codes " a") None ∷ spaced_line [] (Some LineFeed) ∷ [])) refl,
  alike_by (html_block (spaced_line (codes "<a>") (Some LineFeed) ∷ []))
      (html_block (spaced_line (codes "<a>") None ∷ spaced_line [] (Some LineFeed) ∷ [])) refl,
)

-- ---- not alike

-- pages of one block that isn't a definition are alike only if the blocks are
block_alike : (b c : page.Block) → (AreAlikeAfterFront plain_meaning plain_meaning (page.Cons b page.Nil) (page.Cons c page.Nil) → ⊥) → AreAlike b c
    → IsBlockAlike plain_meaning plain_meaning b c
block_alike b c no_front alike = elim (alike.blocks) [ inl p ↦ p.0 | inr p ↦ absurd (no_front p) ]

-- what one part is alike to
part_of : (i : Inline) (js : Inlines) → ArePartsAlike plain_meaning plain_meaning (part i) js
    → (front : Inlines) × (js ≡ append front Nil) × IsPartAlike plain_meaning plain_meaning i front
part_of i js p = (p.0, p.2 ∙ ap (append p.0) p.4, p.3)

abbrev first_byte : Inlines → ℕ
first_byte (Cons (Leaf (Data b)) is) = b
first_byte is = 0

abbrev first_target : Inlines → Target
first_target (Cons (Linked kind target kids) is) = target
first_target is = Reference []

-- links are alike only if their targets are
targets_alike : (t t' : Target) (kids kids' : Inlines)
    → ArePartsAlike plain_meaning plain_meaning (part (Linked Link t kids)) (part (Linked Link t' kids')) → AreTargetsAlike plain_meaning plain_meaning t t'
targets_alike t t' kids kids' p =
    let q = part_of (Linked Link t kids) (part (Linked Link t' kids')) p in
    let found = q.2 in
    let same : t' ≡ found.0 = ap first_target (q.1 ∙ ap (λ is. append is Nil) found.2) in
    subst (AreTargetsAlike plain_meaning plain_meaning t) (sym same) found.3

no_byte : ArePartsAlike plain_meaning plain_meaning (text (codes "a")) (text (codes "b")) → ⊥
no_byte p =
    let q = part_of (Leaf (Data 97)) (text (codes "b")) p in
    true≢false (ap (λ is. eqb (first_byte is) 98) (q.1 ∙ ap (λ is. append is Nil) q.2))

abbrev linked : Target → Inlines
linked target = part (Linked Link target (text (codes "c")))

no_destination : ArePartsAlike plain_meaning plain_meaning (linked (Resource (codes "a") None)) (linked (Resource (codes "b") None)) → ⊥
no_destination p =
    let q = targets_alike (Resource (codes "a") None) (Resource (codes "b") None) (text (codes "c")) (text (codes "c")) p in
    true≢false (ap (λ bytes. eqb (slice_index_or bytes 0 0) 97) q.0)

no_title : ArePartsAlike plain_meaning plain_meaning (linked (Resource (codes "a") None)) (linked (Resource (codes "a") (Some (codes "b")))) → ⊥
no_title p =
    let q = targets_alike (Resource (codes "a") None) (Resource (codes "a") (Some (codes "b"))) (text (codes "c")) (text (codes "c")) p in
    true≢false (ap (λ (bytes : List ℕ). eqb (length bytes) 0) q.1)

pub refused_examples : RefusedExamples
refused_examples = (
  (λ alike. no_byte (block_alike _ _ (λ p. p) alike)),
  (λ alike. true≢false (ap (λ rank. eqb rank 1) (block_alike _ _ (λ p. p) alike).0)),
  (λ alike. no_destination (block_alike _ _ (λ p. p) alike)),
  (λ alike. no_title (block_alike _ _ (λ p. p) alike)),
  (λ alike. true≢false (block_alike _ _ (λ p. p) alike).1),
  (λ alike. true≢false (ap (λ bytes. eqb (slice_index_or bytes 1 0) 10) (block_alike _ _ (λ p. p) alike))),
  (λ alike. true≢false (ap (λ (parts : List HtmlPart). eqb (length parts) 1) (block_alike _ _ (λ p. p) alike))),
)
