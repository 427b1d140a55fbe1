-- An ending after children that are put into lists.
use Rattle.std.proofs.Common.{◌≡◌, ℕ, Bool, true, false, cond, eqb, inl, inr, refl, sym, ap, ◌∙◌}
use Rattle.std.specs.Prelude.{◌⊎◌}
use Rattle.std.proofs.lemmas.Bool.{cond-true, cond-false, cases_Bool, ne_eqb, eqb-false, false≢true}
use Rattle.definition_block.specs.Tree.{Block, Items, Ending, Blank, Blocks, Nil, Cons, join, one, is_ending}
use Rattle.definition_block.specs.Lists.{endings_of, after_endings, item_marker, list_marker, list_items, rest_of, before_list, put_before, grouped_block}
use Rattle.definition_block.specs.Lists.{group_items}
use Rattle.laws_block.proofs.Neighbours.{same_marker, same_items}

-- ---- what children begin with

-- only endings, or some endings before another block; and so with one more ending at the end
data Front (bs : Blocks) (last : Block) : Type 0 where
  OnlyEndings : after_endings bs ≡ Nil → after_endings (join bs (one last)) ≡ Nil → Front bs last
  Before : (b : Block) (others : Blocks) → after_endings bs ≡ Cons b others → after_endings (join bs (one last)) ≡ Cons b (join others (one last))
      → endings_of (join bs (one last)) ≡ endings_of bs → Front bs last

after_ending : (b : Block) (bs : Blocks) → is_ending b ≡ true → after_endings (Cons b bs) ≡ after_endings bs
after_ending b bs e = cond-true (is_ending b) (after_endings bs) (Cons b bs) e

after_other : (b : Block) (bs : Blocks) → is_ending b ≡ false → after_endings (Cons b bs) ≡ Cons b bs
after_other b bs e = cond-false (is_ending b) (after_endings bs) (Cons b bs) e

endings_ending : (b : Block) (bs : Blocks) → is_ending b ≡ true → endings_of (Cons b bs) ≡ Cons b (endings_of bs)
endings_ending b bs e = cond-true (is_ending b) (Cons b (endings_of bs)) Nil e

endings_other : (b : Block) (bs : Blocks) → is_ending b ≡ false → endings_of (Cons b bs) ≡ Nil
endings_other b bs e = cond-false (is_ending b) (Cons b (endings_of bs)) Nil e

front_ending : (b : Block) (bs : Blocks) (last : Block) → is_ending b ≡ true → Front bs last → Front (Cons b bs) last
front_ending b bs last e (OnlyEndings p q) = OnlyEndings (after_ending b bs e ∙ p) (after_ending b (join bs (one last)) e ∙ q)
front_ending b bs last e (Before c others p q r) =
    Before c others (after_ending b bs e ∙ p) (after_ending b (join bs (one last)) e ∙ q)
    (endings_ending b (join bs (one last)) e ∙ ap (Cons b) r ∙ sym (endings_ending b bs e))

front_other : (b : Block) (bs : Blocks) (last : Block) → is_ending b ≡ false → Front (Cons b bs) last
front_other b bs last e =
    Before b bs (after_other b bs e) (after_other b (join bs (one last)) e) (endings_other b (join bs (one last)) e ∙ sym (endings_other b bs e))

front_cons : (b : Block) (bs : Blocks) (last : Block) → (is_ending b ≡ true) ⊎ (is_ending b ≡ false) → Front bs last → Front (Cons b bs) last
front_cons b bs last (inl e) f = front_ending b bs last e f
front_cons b bs last (inr e) f = front_other b bs last e

front_of : (bs : Blocks) (last : Block) → is_ending last ≡ true → Front bs last
front_of Nil last e = OnlyEndings refl (after_ending last Nil e)
front_of (Cons b bs) last e = front_cons b bs last (cases_Bool (is_ending b)) (front_of bs last e)

-- ---- an item before them

-- an item before these, of which the endings at the front and what follows them are given
abbrev before_parts : ℕ → Block → Blocks → Blocks → Blocks → Blocks
before_parts marker item bs endings others =
    cond (eqb (list_marker others) marker) (Cons (Items (Cons item (join endings (list_items others)))) (rest_of others)) (Cons (Items (one item)) bs)

no_list : (marker : ℕ) (item : Block) (bs endings : Blocks) → eqb marker 0 ≡ false → before_parts marker item bs endings Nil ≡ Cons (Items (one item)) bs
no_list marker item bs endings e =
    cond-false (eqb 0 marker) (Cons (Items (Cons item (join endings Nil))) Nil) (Cons (Items (one item)) bs)
    (ne_eqb 0 marker (λ zero. eqb-false marker 0 e (sym zero)))

joined : (is_first : Bool) (list item : Block) (bs others last : Blocks)
    → cond is_first (Cons list (join others last)) (Cons item (join bs last)) ≡ join (cond is_first (Cons list others) (Cons item bs)) last
joined true list item bs others last = refl
joined false list item bs others last = refl

before_list-front : (marker : ℕ) (item : Block) (bs : Blocks) (last : Block) → eqb marker 0 ≡ false → Front bs last
    → before_list marker item (join bs (one last)) ≡ join (before_list marker item bs) (one last)
before_list-front marker item bs last e (OnlyEndings p q) =
    let more = join bs (one last) in
    ap (before_parts marker item more (endings_of more)) q
    ∙ no_list marker item more (endings_of more) e
    ∙ sym (ap (λ bs. join bs (one last)) (ap (before_parts marker item bs (endings_of bs)) p ∙ no_list marker item bs (endings_of bs) e))
before_list-front marker item bs last e (Before b others p q r) =
    let more = join bs (one last) in
    let all = join others (one last) in
    let endings = endings_of bs in
    ap (before_parts marker item more (endings_of more)) q
    ∙ ap (λ ends. before_parts marker item more ends (Cons b all)) r
    ∙ ap (λ first. cond (eqb first marker) (Cons (Items (Cons item (join endings (list_items (Cons b all))))) all) (Cons (Items (one item)) more))
    (same_marker b all others)
    ∙ ap (λ items. cond (eqb (list_marker (Cons b others)) marker) (Cons (Items (Cons item (join endings items))) all) (Cons (Items (one item)) more))
    (same_items b all others)
    ∙ joined (eqb (list_marker (Cons b others)) marker) (Items (Cons item (join endings (list_items (Cons b others))))) (Items (one item)) bs others (one last)
    ∙ sym (ap (λ rest. join (before_parts marker item bs endings rest) (one last)) p)

-- ---- a child before them

before-join : (b : Block) (bs : Blocks) (last : Block) → is_ending last ≡ true → (eqb (item_marker b) 0 ≡ true) ⊎ (eqb (item_marker b) 0 ≡ false)
    → put_before b (join bs (one last)) ≡ join (put_before b bs) (one last)
before-join b bs last ends (inl e) =
    cond-true (eqb (item_marker b) 0) (Cons b (join bs (one last))) (before_list (item_marker b) b (join bs (one last))) e
    ∙ sym (ap (λ bs. join bs (one last)) (cond-true (eqb (item_marker b) 0) (Cons b bs) (before_list (item_marker b) b bs) e))
before-join b bs last ends (inr e) =
    cond-false (eqb (item_marker b) 0) (Cons b (join bs (one last))) (before_list (item_marker b) b (join bs (one last))) e
    ∙ before_list-front (item_marker b) b bs last e (front_of bs last ends)
    ∙ sym (ap (λ bs. join bs (one last)) (cond-false (eqb (item_marker b) 0) (Cons b bs) (before_list (item_marker b) b bs) e))

-- an ending alone
pub grouped-ending : (last : Block) → is_ending last ≡ true → group_items (one last) ≡ one last
grouped-ending (Ending ending) e = refl
grouped-ending (Blank ending) e = refl
grouped-ending b e = absurd (false≢true e)

-- children with an ending after them
pub grouped-join : (bs : Blocks) (last : Block) → is_ending last ≡ true → group_items (join bs (one last)) ≡ join (group_items bs) (one last)
grouped-join Nil last e = grouped-ending last e
grouped-join (Cons b bs) last e =
    ap (put_before (grouped_block b)) (grouped-join bs last e)
    ∙ before-join (grouped_block b) (group_items bs) last e (cases_Bool (eqb (item_marker (grouped_block b)) 0))
