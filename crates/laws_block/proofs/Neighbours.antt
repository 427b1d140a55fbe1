-- Which items are in one list.
use Rattle.std.proofs.Common.{◌≡◌, ◌≢◌, ℕ, true, false, cond, ◌&&◌, eqb, refl, sym, ap, ◌∙◌, inl, inr}
use Rattle.std.proofs.lemmas.Bool.{cases_Bool, cond-true, cond-false, and_parts, eqb-false, eq-eqb, ne_eqb, false≢true}
use Rattle.definition_block.specs.Container.{Quote, Item}
use Rattle.definition_block.specs.Tree.{Block, Holds, Items, Ending, Blank, Blocks, Nil, Cons, join, one, is_ending, all_endings}
use Rattle.definition_block.specs.Lists.{endings_of, after_endings, item_marker, list_marker, list_items, rest_of, before_list, put_before, grouped_block}
use Rattle.definition_block.specs.Lists.{group_items}
use Rattle.laws_block.specs.Neighbours.{IsItem, children, NeighboursAreListed, is_other, OthersPartLists}

join_assoc : (a b c : Blocks) → join (join a b) c ≡ join a (join b c)
join_assoc Nil b c = refl
join_assoc (Cons x a) b c = ap (Cons x) (join_assoc a b c)

-- ---- endings at the front

-- an item before a list or another block, with these endings between, and all that follows the item
abbrev put : ℕ → Block → Blocks → Blocks → Blocks → Blocks
put marker item endings bs all =
    cond (eqb (list_marker bs) marker) (Cons (Items (Cons item (join endings (list_items bs)))) (rest_of bs)) (Cons (Items (one item)) all)

-- endings before a block that is none
front_endings : (es : Blocks) (b : Block) (bs : Blocks) → all_endings es ≡ true → is_ending b ≡ false → endings_of (join es (Cons b bs)) ≡ es
front_endings Nil b bs p q = cond-false (is_ending b) _ _ q
front_endings (Cons e es) b bs p q =
    let parts = and_parts (is_ending e) (all_endings es) p in
    cond-true (is_ending e) _ _ parts.0 ∙ ap (Cons e) (front_endings es b bs parts.1 q)

behind_endings : (es : Blocks) (b : Block) (bs : Blocks) → all_endings es ≡ true → is_ending b ≡ false → after_endings (join es (Cons b bs)) ≡ Cons b bs
behind_endings Nil b bs p q = cond-false (is_ending b) _ _ q
behind_endings (Cons e es) b bs p q =
    let parts = and_parts (is_ending e) (all_endings es) p in
    cond-true (is_ending e) _ _ parts.0 ∙ behind_endings es b bs parts.1 q

nothing_behind : (es : Blocks) → all_endings es ≡ true → after_endings es ≡ Nil
nothing_behind Nil p = refl
nothing_behind (Cons e es) p =
    let parts = and_parts (is_ending e) (all_endings es) p in
    cond-true (is_ending e) _ _ parts.0 ∙ nothing_behind es parts.1

put_over : (marker : ℕ) (item : Block) (es : Blocks) (b : Block) (bs : Blocks) → all_endings es ≡ true → is_ending b ≡ false
    → before_list marker item (join es (Cons b bs)) ≡ put marker item es (Cons b bs) (join es (Cons b bs))
put_over marker item es b bs p q =
    ap (λ x. put marker item x (after_endings (join es (Cons b bs))) (join es (Cons b bs))) (front_endings es b bs p q)
    ∙ ap (λ x. put marker item es x (join es (Cons b bs))) (behind_endings es b bs p q)

-- ---- a block that is no ending: what follows it says nothing about what comes before it

-- the first block that is no ending, and what follows it
record Solid (bs : Blocks) : Type 0 where
  block : Block
  others : Blocks
  here : after_endings bs ≡ Cons block others
  joined : (cs : Blocks) → after_endings (join bs cs) ≡ Cons block (join others cs)
  endings : (cs : Blocks) → endings_of (join bs cs) ≡ endings_of bs

solid : (bs : Blocks) → all_endings bs ≡ false → Solid bs
solid Nil p = absurd (false≢true (sym p))
solid (Cons b bs) p = elim (cases_Bool (is_ending b)) [
  | inl e ↦
      let more = solid bs (sym (ap (λ x. x && all_endings bs) e) ∙ p) in
      record {
        block = more.block;
        others = more.others;
        here = cond-true (is_ending b) _ _ e ∙ more.here;
        joined = λ cs. cond-true (is_ending b) _ _ e ∙ more.joined cs;
        endings = λ cs. cond-true (is_ending b) _ _ e ∙ ap (Cons b) (more.endings cs) ∙ sym (cond-true (is_ending b) _ _ e);
      }
  | inr e ↦
      record {
        block = b;
        others = bs;
        here = cond-false (is_ending b) _ _ e;
        joined = λ cs. cond-false (is_ending b) _ _ e;
        endings = λ cs. cond-false (is_ending b) _ _ e ∙ sym (cond-false (is_ending b) _ _ e);
      }
]

-- the first block alone says whether a list comes first, and with which items
pub same_marker : (b : Block) (bs cs : Blocks) → list_marker (Cons b bs) ≡ list_marker (Cons b cs)
same_marker (Items Nil) bs cs = refl
same_marker (Items (Cons item items)) bs cs = refl
same_marker b bs cs = refl

pub same_items : (b : Block) (bs cs : Blocks) → list_items (Cons b bs) ≡ list_items (Cons b cs)
same_items (Items items) bs cs = refl
same_items b bs cs = refl

put-join : (marker : ℕ) (item : Block) (es : Blocks) (b : Block) (bs all cs : Blocks)
    → put marker item es (Cons b (join bs cs)) (join all cs) ≡ join (put marker item es (Cons b bs) all) cs
put-join marker item es b bs all cs =
    let choice : ℕ → Blocks → Blocks =
    λ m items. cond (eqb m marker) (Cons (Items (Cons item (join es items))) (join bs cs)) (Cons (Items (one item)) (join all cs)) in
    ap (λ m. choice m (list_items (Cons b (join bs cs)))) (same_marker b (join bs cs) bs)
    ∙ ap (choice (list_marker (Cons b bs))) (same_items b (join bs cs) bs)
    ∙ elim (cases_Bool (eqb (list_marker (Cons b bs)) marker)) [
      | inl e ↦ cond-true _ _ _ e ∙ sym (ap (λ x. join x cs) (cond-true _ _ _ e))
      | inr e ↦ cond-false _ _ _ e ∙ sym (ap (λ x. join x cs) (cond-false _ _ _ e))
    ]

before_list-join : (marker : ℕ) (item : Block) (bs cs : Blocks) → all_endings bs ≡ false
    → before_list marker item (join bs cs) ≡ join (before_list marker item bs) cs
before_list-join marker item bs cs p =
    let s = solid bs p in
    ap (λ x. put marker item x (after_endings (join bs cs)) (join bs cs)) (s.endings cs)
    ∙ ap (λ x. put marker item (endings_of bs) x (join bs cs)) (s.joined cs)
    ∙ put-join marker item (endings_of bs) s.block s.others bs cs
    ∙ sym (ap (λ x. join (put marker item (endings_of bs) x bs) cs) s.here)

-- ---- blocks that part lists

other_no_ending : (b : Block) → is_other b ≡ true → is_ending b ≡ false
other_no_ending (Ending ending) p = absurd (false≢true p)
other_no_ending (Blank ending) p = absurd (false≢true p)
other_no_ending b p = refl

other_no_item : (b : Block) → is_other b ≡ true → item_marker (grouped_block b) ≡ 0
other_no_item (Holds (Item item) kids) p = absurd (false≢true p)
other_no_item b p = refl

other_grouped : (b : Block) → is_other b ≡ true → is_other (grouped_block b) ≡ true
other_grouped (Holds Quote kids) p = p
other_grouped b p = p

other_no_list : (b : Block) (bs : Blocks) → is_other b ≡ true → list_marker (Cons b bs) ≡ 0
other_no_list (Items items) bs p = absurd (false≢true p)
other_no_list b bs p = refl

before-parted : (x : Block) (bs : Blocks) (b : Block) (cs : Blocks) → is_other b ≡ true
    → put_before x (join bs (Cons b cs)) ≡ join (put_before x bs) (Cons b cs)
before-parted x bs b cs p = elim (cases_Bool (eqb (item_marker x) 0)) [
  | inl e ↦ cond-true _ _ _ e ∙ sym (ap (λ y. join y (Cons b cs)) (cond-true _ _ _ e))
  | inr e ↦
      cond-false _ _ _ e
      ∙ elim (cases_Bool (all_endings bs)) [
        | inl k ↦
            let none : eqb 0 (item_marker x) ≡ false = ne_eqb 0 (item_marker x) (λ h. eqb-false (item_marker x) 0 e (sym h)) in
            put_over (item_marker x) x bs b cs k (other_no_ending b p)
            ∙ cond-false _ _ _ (ap (λ m. eqb m (item_marker x)) (other_no_list b cs p) ∙ none)
            ∙ sym (ap (λ y. join y (Cons b cs)) (cond-false _ _ _ (ap (λ y. eqb (list_marker y) (item_marker x)) (nothing_behind bs k) ∙ none)))
        | inr k ↦ before_list-join (item_marker x) x bs (Cons b cs) k
      ]
      ∙ sym (ap (λ y. join y (Cons b cs)) (cond-false _ _ _ e))
]

pub others_part_lists : OthersPartLists
others_part_lists Nil b rest p = cond-true _ _ _ (eq-eqb (item_marker (grouped_block b)) 0 (other_no_item b p))
others_part_lists (Cons x front) b rest p =
    ap (put_before (grouped_block x)) (others_part_lists front b rest p)
    ∙ before-parted (grouped_block x) (group_items front) (grouped_block b) (group_items rest) (other_grouped b p)

-- ---- what stands before a list

-- children in front of those that are in lists already
abbrev onto : Blocks → Blocks → Blocks
onto Nil bs = bs
onto (Cons b front) bs = put_before (grouped_block b) (onto front bs)

grouped-join : (front bs : Blocks) → group_items (join front bs) ≡ onto front (group_items bs)
grouped-join Nil bs = refl
grouped-join (Cons b front) bs = ap (put_before (grouped_block b)) (grouped-join front bs)

-- what children in front of a list make of it, whatever follows its first item
record Context (front : Blocks) (first : Block) : Type 0 where
  lists : Blocks
  earlier : Blocks
  marker : ℕ
  marked : (items bs : Blocks) → list_marker (Cons (Items (join earlier (Cons first items))) bs) ≡ marker
  shown : (items bs : Blocks) → onto front (Cons (Items (Cons first items)) bs) ≡ join lists (Cons (Items (join earlier (Cons first items))) bs)

more : (b : Block) (front : Blocks) (first : Block) → Context front first → Context (Cons b front) first
more b front first c =
    let x = grouped_block b in
    let m = item_marker x in
    let list : Blocks → Blocks → Blocks = λ items bs. Cons (Items (join c.earlier (Cons first items))) bs in
    elim (cases_Bool (eqb m 0)) [
      | inl e ↦
          record {
            lists = Cons x c.lists;
            earlier = c.earlier;
            marker = c.marker;
            marked = c.marked;
            shown = λ items bs. ap (put_before x) (c.shown items bs) ∙ cond-true _ _ _ e;
          }
      | inr e ↦ elim (cases_Bool (all_endings c.lists)) [
        | inl k ↦ elim (cases_Bool (eqb c.marker m)) [
          | inl same ↦
              record {
                lists = Nil;
                earlier = Cons x (join c.lists c.earlier);
                marker = m;
                marked = λ items bs. refl;
                shown = λ items bs.
                    ap (put_before x) (c.shown items bs) ∙ cond-false _ _ _ e
                    ∙ put_over m x c.lists (Items (join c.earlier (Cons first items))) bs k refl
                    ∙ cond-true _ _ _ (ap (λ n. eqb n m) (c.marked items bs) ∙ same)
                    ∙ ap (λ is. Cons (Items (Cons x is)) bs) (sym (join_assoc c.lists c.earlier (Cons first items)));
              }
          | inr other ↦
              record {
                lists = Cons (Items (one x)) c.lists;
                earlier = c.earlier;
                marker = c.marker;
                marked = c.marked;
                shown = λ items bs.
                    ap (put_before x) (c.shown items bs) ∙ cond-false _ _ _ e
                    ∙ put_over m x c.lists (Items (join c.earlier (Cons first items))) bs k refl
                    ∙ cond-false _ _ _ (ap (λ n. eqb n m) (c.marked items bs) ∙ other);
              }
        ]
        | inr k ↦
            record {
              lists = before_list m x c.lists;
              earlier = c.earlier;
              marker = c.marker;
              marked = c.marked;
              shown = λ items bs. ap (put_before x) (c.shown items bs) ∙ cond-false _ _ _ e ∙ before_list-join m x c.lists (list items bs) k;
            }
      ]
    ]

context : (front : Blocks) (first : Block) → Context front first
context Nil first = record {
  lists = Nil;
  earlier = Nil;
  marker = item_marker first;
  marked = λ items bs. refl;
  shown = λ items bs. refl;
}
context (Cons b front) first = more b front first (context front first)

-- ---- two items

-- an item begins a list
record Begins (item : Block) (bs : Blocks) : Type 0 where
  later : Blocks
  after : Blocks
  shown : put_before item bs ≡ Cons (Items (Cons item later)) after

begin : (item : Block) (bs : Blocks) → IsItem item → Begins item bs
begin item bs p =
    let m = item_marker item in
    let found : eqb m 0 ≡ false = ne_eqb m 0 p in
    elim (cases_Bool (eqb (list_marker (after_endings bs)) m)) [
      | inl e ↦
          record {
            later = join (endings_of bs) (list_items (after_endings bs));
            after = rest_of (after_endings bs);
            shown = cond-false _ _ _ found ∙ cond-true _ _ _ e;
          }
      | inr e ↦ record { later = Nil; after = bs; shown = cond-false _ _ _ found ∙ cond-false _ _ _ e }
    ]

alone : (item : Block) → IsItem item → put_before item Nil ≡ one (Items (one item))
alone item p =
    let m = item_marker item in
    cond-false _ _ _ (ne_eqb m 0 p) ∙ cond-false _ _ _ (ne_eqb 0 m (λ e. p (sym e)))

-- only endings stand between an item and a list
together : (x : Block) (es : Blocks) (y : Block) (ys bs : Blocks) → IsItem x → all_endings es ≡ true → item_marker x ≡ item_marker y
    → put_before x (join es (Cons (Items (Cons y ys)) bs)) ≡ Cons (Items (Cons x (join es (Cons y ys)))) bs
together x es y ys bs p k e =
    cond-false _ _ _ (ne_eqb (item_marker x) 0 p)
    ∙ put_over (item_marker x) x es (Items (Cons y ys)) bs k refl
    ∙ cond-true _ _ _ (eq-eqb (item_marker y) (item_marker x) (sym e))

apart : (x : Block) (es : Blocks) (y : Block) (ys bs : Blocks) → IsItem x → all_endings es ≡ true → item_marker x ≢ item_marker y
    → put_before x (join es (Cons (Items (Cons y ys)) bs)) ≡ Cons (Items (one x)) (join es (Cons (Items (Cons y ys)) bs))
apart x es y ys bs p k e =
    cond-false _ _ _ (ne_eqb (item_marker x) 0 p)
    ∙ put_over (item_marker x) x es (Items (Cons y ys)) bs k refl
    ∙ cond-false _ _ _ (ne_eqb (item_marker y) (item_marker x) (λ h. e (sym h)))

endings-grouped : (es bs : Blocks) → all_endings es ≡ true → group_items (join es bs) ≡ join es (group_items bs)
endings-grouped Nil bs p = refl
endings-grouped (Cons (Ending ending) es) bs p = ap (Cons (Ending ending)) (endings-grouped es bs p)
endings-grouped (Cons (Blank ending) es) bs p = ap (Cons (Blank ending)) (endings-grouped es bs p)
endings-grouped (Cons b es) bs p = absurd (false≢true p)

marker_kept : (b : Block) → item_marker (grouped_block b) ≡ item_marker b
marker_kept (Holds c kids) = refl
marker_kept b = refl

pub neighbours_are_listed : NeighboursAreListed
neighbours_are_listed front first endings second rest p q k =
    let x = grouped_block first in
    let y = grouped_block second in
    let is_x : IsItem x = λ e. p (sym (marker_kept first) ∙ e) in
    let is_y : IsItem y = λ e. q (sym (marker_kept second) ∙ e) in
    let c = context front x in
    let b = begin y (group_items rest) is_y in
    let from_first : group_items (Cons first (join endings (Cons second rest))) ≡ put_before x (join endings (Cons (Items (Cons y b.later)) b.after)) =
    ap (put_before x) (endings-grouped endings (Cons second rest) k ∙ ap (join endings) b.shown) in
    let all : group_items (children front first endings second rest) ≡ onto front (put_before x (join endings (Cons (Items (Cons y b.later)) b.after))) =
    grouped-join front (Cons first (join endings (Cons second rest))) ∙ ap (onto front) from_first in
    record {
      around = record { before = c.lists; earlier = c.earlier; later = b.later; after = b.after };
      up_to_first = grouped-join front (one first) ∙ ap (onto front) (alone x is_x) ∙ c.shown Nil Nil;
      from_second = b.shown;
      same = λ e.
          all
          ∙ ap (onto front) (together x endings y b.later b.after is_x k (marker_kept first ∙ e ∙ sym (marker_kept second)))
          ∙ c.shown (join endings (Cons y b.later)) b.after;
      other = λ e.
          all
          ∙ ap (onto front) (apart x endings y b.later b.after is_x k (λ h. e (sym (marker_kept first) ∙ h ∙ marker_kept second)))
          ∙ c.shown Nil (join endings (Cons (Items (Cons y b.later)) b.after));
    }
