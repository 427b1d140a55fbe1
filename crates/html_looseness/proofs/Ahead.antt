-- What stands ahead of a place, among children that are put into lists.
use Rattle.std.proofs.Common.{◌≡◌, ℕ, ◌≤◌, suc, Bool, true, false, ◌&&◌, ◌||◌, ◌==◌, leb, refl, sym, ap, ◌∙◌, subst, arith}
use Rattle.std.specs.Prelude.{if◌then◌else◌, Option}
use Rattle.std.proofs.Math.Dec.{leb-suc-suc}
use Rattle.std.proofs.lemmas.Bool.{le-leb, eqb-true, ne_eqb}
use Rattle.markdown_options.specs.declared.line_ending.LineEnding.{LineEnding}
use Rattle.markdown_options.specs.declared.container.Item.{Item as ItemOf}
use Rattle.definition_block.specs.Container.{Item}
use Rattle.definition_block.specs.Tree.{Block, Holds, Items, Ending, Blank, Blocks, Nil, Cons, join, one}
use Rattle.definition_block.specs.Lists.{endings_at_front, endings_of, after_endings, is_some_block, has_gap, has_gap_inside, is_loose, list_marker, list_items}
use Rattle.definition_block.specs.Lists.{rest_of, put_before, before_list}
use Rattle.html_looseness.specs.declared.loose.Ahead.{Ahead}
use Rattle.html_looseness.specs.Loose.{before_ending, before_item, place_at}

abbrev pub ahead_of : Blocks → Ahead
ahead_of gs = record {
  some = is_some_block gs;
  ending_first = leb 1 (endings_at_front gs);
  apart = leb 2 (endings_at_front gs);
  marker = list_marker (after_endings gs);
  loose = is_loose (list_items (after_endings gs));
  gap = has_gap gs;
}

-- ---- endings

abbrev with_endings : Ahead → Bool → Bool → Ahead
with_endings a ended apart = record { some = a.some; ending_first = ended; apart = apart; marker = a.marker; loose = a.loose; gap = a.gap }

one_more : (a : Ahead) (n : ℕ) → with_endings a (leb 1 (suc n)) (leb 2 (suc n)) ≡ with_endings a true (leb 1 n)
one_more a n =
    ap (λ x. with_endings a x (leb 2 (suc n))) (le-leb 1 (suc n) (omega arith))
    ∙ ap (λ x. with_endings a true x) (leb-suc-suc 1 n)

pub ahead_of_ending : (e : Option LineEnding) (gs : Blocks) → ahead_of (Cons (Ending e) gs) ≡ before_ending (ahead_of gs)
ahead_of_ending e gs = one_more (ahead_of gs) (endings_at_front gs)

pub ahead_of_blank : (e : Option LineEnding) (gs : Blocks) → ahead_of (Cons (Blank e) gs) ≡ before_ending (ahead_of gs)
ahead_of_blank e gs = one_more (ahead_of gs) (endings_at_front gs)

-- ---- a list that comes first, after endings

-- its items after the endings
abbrev pub list_ahead : Blocks → Blocks
list_ahead gs = join (endings_of gs) (list_items (after_endings gs))

-- what follows it
abbrev pub after_list : Blocks → Blocks
after_list gs = rest_of (after_endings gs)

pub record ListFirst (gs : Blocks) : Type 0 where
  pub apart : endings_at_front (list_ahead gs) ≡ endings_at_front gs
  pub some : is_some_block (list_ahead gs) ≡ true
  pub gap : has_gap (list_ahead gs) ≡ has_gap (list_items (after_endings gs))
  pub inside : has_gap_inside (list_ahead gs) ≡ has_gap_inside (list_items (after_endings gs))
  pub others : has_gap gs ≡ ((leb 2 (endings_at_front (after_list gs)) && is_some_block (after_list gs)) || has_gap (after_list gs))

pub no_marker : 1 ≤ 0 → ⊥
no_marker h = omega (arith, h)

pub list_first : (gs : Blocks) → 1 ≤ list_marker (after_endings gs) → ListFirst gs
list_first Nil h = absurd (no_marker h)
list_first (Cons (Ending e) gs) h = let f = list_first gs h in
    record { apart = ap suc f.apart; some = f.some; gap = f.gap; inside = f.inside; others = f.others }
list_first (Cons (Blank e) gs) h = let f = list_first gs h in
    record { apart = ap suc f.apart; some = f.some; gap = f.gap; inside = f.inside; others = f.others }
list_first (Cons (Items (Cons (Holds c kids) items)) gs) h = record { apart = refl; some = refl; gap = refl; inside = refl; others = refl }
list_first (Cons (Items (Cons item items)) gs) h = absurd (no_marker h)
list_first (Cons (Items Nil) gs) h = absurd (no_marker h)
list_first (Cons b gs) h = absurd (no_marker h)

-- ---- an item

-- what follows an item on its list, and after the list, where the list goes on or not
abbrev pub on_list : Bool → Blocks → Blocks
on_list goes_on gs = if goes_on then list_ahead gs else Nil

abbrev pub off_list : Bool → Blocks → Blocks
off_list goes_on gs = if goes_on then after_list gs else gs

abbrev pub listed : Bool → Block → Blocks → Blocks
listed goes_on item gs = Cons (Items (Cons item (on_list goes_on gs))) (off_list goes_on gs)

listed_if : (goes_on : Bool) (item : Block) (gs : Blocks)
    → (if goes_on then Cons (Items (Cons item (list_ahead gs))) (after_list gs) else Cons (Items (one item)) gs) ≡ listed goes_on item gs
listed_if true item gs = refl
listed_if false item gs = refl

pub before_item_is : (item : ItemOf) (kids gs : Blocks) → 1 ≤ item.marker
    → put_before (Holds (Item item) kids) gs ≡ listed (list_marker (after_endings gs) == item.marker) (Holds (Item item) kids) gs
before_item_is item kids gs some =
    let b = Holds (Item item) kids in
    ap (λ t. if t then Cons b gs else before_list item.marker b gs) (ne_eqb item.marker 0 (λ e. no_marker (subst (λ n. 1 ≤ n) e some)))
    ∙ listed_if (list_marker (after_endings gs) == item.marker) b gs

-- the items of a list from this one on have a line between them, or two children of one have
same_looseness : (g apart gap inside : Bool) → (((apart && true) || gap) || (g || inside)) ≡ (g || (apart || (gap || inside)))
same_looseness true true true inside = refl
same_looseness true true false inside = refl
same_looseness true false true inside = refl
same_looseness true false false inside = refl
same_looseness false true true inside = refl
same_looseness false true false inside = refl
same_looseness false false true inside = refl
same_looseness false false false inside = refl

list_looseness : (item : ItemOf) (kids gs : Blocks) → ListFirst gs
    → is_loose (Cons (Holds (Item item) kids) (list_ahead gs)) ≡ (has_gap kids || (leb 2 (endings_at_front gs) || is_loose (list_items (after_endings gs))))
list_looseness item kids gs f =
    let g = has_gap kids in
    let items = list_items (after_endings gs) in
    ap (λ n. ((leb 2 n && is_some_block (list_ahead gs)) || has_gap (list_ahead gs)) || (g || has_gap_inside (list_ahead gs))) f.apart
    ∙ ap (λ x. ((leb 2 (endings_at_front gs) && x) || has_gap (list_ahead gs)) || (g || has_gap_inside (list_ahead gs))) f.some
    ∙ ap (λ x. ((leb 2 (endings_at_front gs) && true) || x) || (g || has_gap_inside (list_ahead gs))) f.gap
    ∙ ap (λ x. ((leb 2 (endings_at_front gs) && true) || has_gap items) || (g || x)) f.inside
    ∙ same_looseness g (leb 2 (endings_at_front gs)) (has_gap items) (has_gap_inside items)

abbrev item_ahead : ℕ → Bool → Bool → Ahead
item_ahead marker loose gap = record { some = true; ending_first = false; apart = false; marker = marker; loose = loose; gap = gap }

ahead_of_listed : (goes_on : Bool) (item : ItemOf) (kids gs : Blocks) → 1 ≤ item.marker → (list_marker (after_endings gs) == item.marker) ≡ goes_on
    → ahead_of (listed goes_on (Holds (Item item) kids) gs)
    ≡ before_item (ahead_of gs) item.marker record {
      loose = has_gap kids ||
          (goes_on && (leb 2 (endings_at_front gs) || is_loose (list_items (after_endings gs))));
      goes_on = goes_on;
    }
ahead_of_listed false item kids gs some is = refl
ahead_of_listed true item kids gs some is =
    let f = list_first gs (subst (λ n. 1 ≤ n) (sym (eqb-true (list_marker (after_endings gs)) item.marker is)) some) in
    ap (λ x. item_ahead item.marker x ((leb 2 (endings_at_front (after_list gs)) && is_some_block (after_list gs)) || has_gap (after_list gs)))
    (list_looseness item kids gs f)
    ∙ ap (λ x. item_ahead item.marker (has_gap kids || (leb 2 (endings_at_front gs) || is_loose (list_items (after_endings gs)))) x) (sym f.others)

pub ahead_of_item : (item : ItemOf) (kids gs : Blocks) → 1 ≤ item.marker
    → ahead_of (listed (list_marker (after_endings gs) == item.marker) (Holds (Item item) kids) gs)
    ≡ before_item (ahead_of gs) item.marker (place_at (ahead_of gs) item.marker (has_gap kids))
ahead_of_item item kids gs some = ahead_of_listed (list_marker (after_endings gs) == item.marker) item kids gs some refl
