-- What holds of inline structure holds of it with its literals.
use Rattle.std.proofs.Common.{◌≡◌, ℕ, zero, suc, ◌-◌, List, [], ◌∷◌, ◌++◌, true, eqb, Option, None, Some, subst, map, length, take, drop}
use Rattle.std.proofs.lemmas.Bool.{cond_both, eqb-true}
use Rattle.markdown_options.specs.declared.configuration.Constructs.{Constructs}
use Rattle.definition_inline.specs.Inline.{LiteralKind, Target, InlineLeaf, Data, Literal, SpanKind, LinkedKind, Link, Image, Inline, Leaf, Span, Linked, Call}
use Rattle.definition_inline.specs.Inline.{Inlines, Nil, Cons}
use Rattle.definition_inline.specs.GfmAutolinkLiteral.{Address, address_at, address_or_text, parts_from, with_addresses, parts_before, leaf_without}
use Rattle.definition_inline.specs.GfmAutolinkLiteral.{without_literals, addresses_before, with_literals, linked_literals, without_last}
use Rattle.definition_inline.proofs.GfmAutolinkLiteral.{any_without, any_with}
use Rattle.definition_text.proofs.Each.{Each, each-append, each-take, each-drop, each_mapped}

module _ (Good : Inline → Type 0) (AllGood : Inlines → Type 0) (Keeps : Inlines → Inlines → Type 0) where
  -- what holds others is good where they are, and stays so with others that keep what it needs of them
  pub record Holds (make : Inlines → Inline) : Type 0 where
    pub opens : (kids : Inlines) → Good (make kids) → AllGood kids
    pub closes : (kids others : Inlines) → Good (make kids) → Keeps kids others → AllGood others → Good (make others)

  -- what is good of literals and text
  pub record Carries : Type 0 where
    pub none : AllGood Nil
    pub more : (i : Inline) (is : Inlines) → Good i → AllGood is → AllGood (Cons i is)
    pub first : (i : Inline) (is : Inlines) → AllGood (Cons i is) → Good i
    pub rest : (i : Inline) (is : Inlines) → AllGood (Cons i is) → AllGood is
    pub literal : (kind : LiteralKind) (text : List ℕ) → Each (λ b. Good (Leaf (Data b))) text → Good (Leaf (Literal kind text))
    pub bytes : (kind : LiteralKind) (text : List ℕ) → Good (Leaf (Literal kind text)) → Each (λ b. Good (Leaf (Data b))) text
    pub span : (kind : SpanKind) → Holds (Span kind)
    pub linked : (kind : LinkedKind) (target : Target) → Holds (Linked kind target)
    pub keeps_without : (kids : Inlines) → Keeps kids (without_literals kids)
    pub keeps_with : (kids : Inlines) → Keeps kids (with_literals [] kids)

  module _ (c : Carries) where
    abbrev LeafGood : InlineLeaf → Type 0
    LeafGood part = Good (Leaf part)

    abbrev ByteGood : ℕ → Type 0
    ByteGood b = Good (Leaf (Data b))

    abbrev AreBytes : List ℕ → Type 0
    AreBytes text = Each ByteGood text

    data_good : (text : List ℕ) → AreBytes text → Each LeafGood (map Data text)
    data_good text h = each_mapped ByteGood LeafGood Data text (λ b p. p) h

    leaves_good : (parts : List InlineLeaf) → Each LeafGood parts → Each Good (map Leaf parts)
    leaves_good parts h = each_mapped LeafGood Good Leaf parts (λ part p. p) h

    followed_good : (is : List Inline) (others : Inlines) → Each Good is → AllGood others → AllGood (parts_before is others)
    followed_good [] others h p = p
    followed_good (i ∷ is) others h p = c.more i (parts_before is others) h.0 (followed_good is others h.1 p)

    -- ---- the parts of a run of text

    address_good : (before after : List ℕ) (found : Option Address) (rest : ℕ → List ℕ → List InlineLeaf) → AreBytes before → ByteGood 64 → AreBytes after
        → ((k : ℕ) (next : List ℕ) → AreBytes next → Each LeafGood (rest k next)) → Each LeafGood (address_or_text before after found rest)
    address_good before after None rest p one q h = h 0 (before ++ 64 ∷ []) (each-append ByteGood before (64 ∷ []) p (one, tt))
    address_good before after (Some found) rest p one q h =
        let front = drop (length before - found.before) before in
        let text = front ++ 64 ∷ take found.after after in
        let bytes : AreBytes text =
        each-append ByteGood front (64 ∷ take found.after after) (each-drop ByteGood (length before - found.before) before p)
        (one, each-take ByteGood found.after after q) in
        let outer = without_last found.before before in
        each-append LeafGood (map Data outer ++ Literal found.kind text ∷ []) (rest found.after [])
        (each-append LeafGood (map Data outer) (Literal found.kind text ∷ [])
        (data_good outer (each-take ByteGood (length before - found.before) before p)) (c.literal found.kind text bytes, tt))
        (h found.after [] tt)

    parts_good : (k : ℕ) (before cs : List ℕ) → AreBytes before → AreBytes cs → Each LeafGood (parts_from k before cs)
    parts_good zero before [] p q = data_good before p
    parts_good (suc k) before [] p q = data_good before p
    parts_good zero before (b ∷ cs) p q =
        cond_both (eqb b 64) (address_or_text before cs (address_at before cs) (λ more next. parts_from more next cs)) (parts_from 0 (before ++ b ∷ []) cs)
        (Each LeafGood)
        (λ is. address_good before cs (address_at before cs) (λ more next. parts_from more next cs) p (subst ByteGood (eqb-true b 64 is) q.0) q.1
        (λ more next r. parts_good more next cs r q.1))
        (λ _. parts_good 0 (before ++ b ∷ []) cs (each-append ByteGood before (b ∷ []) p (q.0, tt)) q.1)
    parts_good (suc k) before (b ∷ cs) p q = parts_good k before cs p q.1

    addresses_good : (run : List ℕ) → AreBytes run → Each LeafGood (with_addresses run)
    addresses_good run h = parts_good 0 [] run tt h

    -- ---- inline structure

    held : (make : Inlines → Inline) → Holds make → (kids others is rest : Inlines) → AllGood (Cons (make kids) is) → Keeps kids others
        → (AllGood kids → AllGood others) → (AllGood is → AllGood rest) → AllGood (Cons (make others) rest)
    held make holds kids others is rest h keeps f g =
        let one = c.first (make kids) is h in
        c.more (make others) rest (holds.closes kids others one keeps (f (holds.opens kids one))) (g (c.rest (make kids) is h))

    leaf_good : (part : InlineLeaf) → LeafGood part → Each LeafGood (leaf_without part)
    leaf_good =
        any_without (λ part parts. LeafGood part → Each LeafGood parts) (λ kind text h. data_good text (c.bytes kind text h)) (λ part h. (h, tt))

    pub without_good : (is : Inlines) → AllGood is → AllGood (without_literals is)
    without_good Nil h = h
    without_good (Cons (Leaf part) is) h =
        followed_good (map Leaf (leaf_without part)) (without_literals is) (leaves_good (leaf_without part) (leaf_good part (c.first (Leaf part) is h)))
        (without_good is (c.rest (Leaf part) is h))
    without_good (Cons (Span kind kids) is) h =
        held (Span kind) (c.span kind) kids _ is _ h (c.keeps_without kids) (without_good kids) (without_good is)
    without_good (Cons (Linked kind target kids) is) h =
        held (Linked kind target) (c.linked kind target) kids _ is _ h (c.keeps_without kids) (without_good kids) (without_good is)
    without_good (Cons (Call label) is) h = c.more (Call label) _ (c.first (Call label) is h) (without_good is (c.rest (Call label) is h))

    after_run : (run : List ℕ) (is : Inlines) → AreBytes run → AllGood is → AllGood (addresses_before run is)
    after_run run is h p = followed_good (map Leaf (with_addresses run)) is (leaves_good (with_addresses run) (addresses_good run h)) p

    with_good : (run : List ℕ) (is : Inlines) → AreBytes run → AllGood is → AllGood (with_literals run is)
    with_good run Nil r h = after_run run Nil r h
    with_good run (Cons (Leaf part) is) r h =
        any_with run is (λ part others. LeafGood part → AllGood others)
        (λ b p. with_good (run ++ b ∷ []) is (each-append ByteGood run (b ∷ []) r (p, tt)) (c.rest (Leaf part) is h))
        (λ it p. after_run run _ r (c.more (Leaf it) _ p (with_good [] is tt (c.rest (Leaf part) is h)))) part (c.first (Leaf part) is h)
    with_good run (Cons (Span kind kids) is) r h =
        after_run run _ r (held (Span kind) (c.span kind) kids _ is _ h (c.keeps_with kids) (with_good [] kids tt) (with_good [] is tt))
    with_good run (Cons (Linked Link target kids) is) r h =
        after_run run _ r (held (Linked Link target) (c.linked Link target) kids _ is _ h (c.keeps_without kids) (without_good kids) (with_good [] is tt))
    with_good run (Cons (Linked Image target kids) is) r h =
        after_run run _ r (held (Linked Image target) (c.linked Image target) kids _ is _ h (c.keeps_with kids) (with_good [] kids tt) (with_good [] is tt))
    with_good run (Cons (Call label) is) r h =
        after_run run _ r (c.more (Call label) _ (c.first (Call label) is h) (with_good [] is tt (c.rest (Call label) is h)))

    pub literals_good : (is : Inlines) → AllGood is → AllGood (with_literals [] is)
    literals_good is h = with_good [] is tt h

-- where literals are on it has to be carried, and else there is nothing to carry
pub linked_good : (on : Constructs) (AllGood : Inlines → Type 0) (is : Inlines) → (on.gfm_autolink_literal ≡ true → AllGood (with_literals [] is)) → AllGood is
    → AllGood (linked_literals on is)
linked_good on AllGood is f h = cond_both on.gfm_autolink_literal (with_literals [] is) is AllGood f (λ _. h)
