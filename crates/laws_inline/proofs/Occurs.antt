-- Which parts a content can have.
use Rattle.std.proofs.Common.{◌≡◌, Bool, false, List, refl}
use Rattle.std.proofs.lemmas.Bool.{or_from, not_from_true}
use Rattle.definition_text.specs.InlineCode.{InlineCode}
use Rattle.definition_inline.specs.Inline.{Inline, Leaf, Span, Linked, Call, Inlines, Nil, Cons}
use Rattle.definition_inline.specs.Scan.{InlineContext, inlines, inlines_from, without_indent}
use Rattle.definition_inline.specs.MayStand.{part_may_stand}
use Rattle.definition_inline.specs.EachPart.{EachPart, EachOf}
use Rattle.definition_inline.proofs.MayStand.{Stands, may_stand}
use Rattle.laws_inline.specs.Occurs.{part_has, has, is_off, NothingIsOff}

-- what fails of each part never passes
module _ (P : Inline → Type 0) (test : Inline → Bool) (fails : (i : Inline) → P i → test i ≡ false) where
  mutual
    part_never : (i : Inline) → EachPart P i → part_has test i ≡ false
    part_never (Leaf part) h = fails (Leaf part) h
    part_never (Span kind kids) h = or_from (test (Span kind kids)) (has test kids) (fails (Span kind kids) h.0) (never kids h.1)
    part_never (Linked kind target kids) h =
        or_from (test (Linked kind target kids)) (has test kids) (fails (Linked kind target kids) h.0) (never kids h.1)
    part_never (Call label) h = fails (Call label) h

    never : (is : Inlines) → EachOf P is → has test is ≡ false
    never Nil h = refl
    never (Cons i is) h = or_from (part_has test i) (has test is) (part_never i h.0) (never is h.1)

-- a test that fails of what may stand
pub never_from : (context : InlineContext) (test : Inline → Bool) → ((i : Inline) → Stands context.options.constructs i → test i ≡ false)
    → (content : List InlineCode) → has test (inlines_from context content) ≡ false
never_from context test fails content =
    never (Stands context.options.constructs) test fails (inlines_from context content) (may_stand context content)

never_in : (context : InlineContext) (test : Inline → Bool) → ((i : Inline) → Stands context.options.constructs i → test i ≡ false)
    → (content : List InlineCode) → has test (inlines context content) ≡ false
never_in context test fails content = never_from context test fails (without_indent content)

pub nothing_is_off : NothingIsOff
nothing_is_off context content =
    let on = context.options.constructs in never_in context (is_off on) (λ i e. not_from_true (part_may_stand on i) e) content
