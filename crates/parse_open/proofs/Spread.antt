-- Blocks and their nodes are spread alike, and stay so with one more of each.
use Rattle.std.proofs.Common.{◌≡◌, ◌≤◌, ℕ, suc, ◌+◌, Bool, true, false, not, ◌&&◌, ◌||◌, leb, List, Option, None, Some, length, refl, sym, ap, ap₂, subst, ◌∙◌}
use Rattle.std.proofs.Common.{arith}
use Rattle.parse_open.proofs.Prelude.{AreSpread, Around, Blank, Block, Blocks, Child, Cons, ConsBlock, Container, Ending, endings_at_front, Event}
use Rattle.parse_open.proofs.Prelude.{false_from_ne_true, followed_by, has, has_gap, has_gap_inside, has_loose_item, Holds, if◌then◌else◌, is_ending}
use Rattle.parse_open.proofs.Prelude.{is_loose_item, is_some_block, Items, join, Leaf, line_at, Nil, NoBlock, Node, node_name, Nodes, one_block, same_name}
use Rattle.parse_open.proofs.Prelude.{spot_of, the_type}
use Rattle.std.specs.Option.{option_map}
use denote.Enum.Bare.{same_true}
use Rattle.engine_events.specs.declared.event.Name.TheVariants as n
use Rattle.event_check.specs.Loose.{are_apart, is_far}
use Rattle.event_grammar.specs.declared.spot.Spot.{Spot}
use Rattle.parse_open.specs.Lines.{IsSince, SpreadBlocksCompose, last_end, since}
use Rattle.parse_open.proofs.LineCounts.{far_is}

or_none : (t : Bool) → (t || false) ≡ t
or_none true = refl
or_none false = refl

or_true : (t : Bool) → (t || true) ≡ true
or_true true = refl
or_true false = refl

or_both : (a b c : Bool) → (a || (b || c)) ≡ ((a || b) || c)
or_both true b c = refl
or_both false b c = refl

-- ---- one more node

apart_here : (h f : Bool) → (if h then (f || false) else false) ≡ (false || (h && f))
apart_here true true = refl
apart_here true false = refl
apart_here false f = refl

apart_next : (h f a b c d : Bool) → (if h then (f || (a || c)) else (b || d)) ≡ ((if h then (f || a) else b) || (if h then c else d))
apart_next true true a b c d = refl
apart_next true false a b c d = refl
apart_next false f a b c d = refl

module _ (text : List ℕ) where
  apart_followed : (child : Child) (last : Option Spot) (ns : Nodes) (enter : Event) (kids : Nodes) (exit : Event)
      → are_apart text child last (followed_by ns (Around enter kids exit))
      ≡ (are_apart text child last ns || (has child enter.name && is_far text (last_end child last ns) (spot_of enter)))
  apart_followed child last Nil enter kids exit = apart_here (has child enter.name) (is_far text last (spot_of enter))
  apart_followed child last (Cons (Around first inner end) ns) enter kids exit =
      let here = has child first.name in
      let far = λ (l : Option Spot). has child enter.name && is_far text (last_end child l ns) (spot_of enter) in
      ap₂ (λ (a b : Bool). if here then is_far text last (spot_of first) || a else b)
      (apart_followed child (Some (spot_of end)) ns enter kids exit) (apart_followed child last ns enter kids exit)
      ∙ apart_next here (is_far text last (spot_of first)) (are_apart text child (Some (spot_of end)) ns) (are_apart text child last ns)
      (far (Some (spot_of end))) (far last)
      ∙ ap (λ (t : Bool).
      (if here then is_far text last (spot_of first) || are_apart text child (Some (spot_of end)) ns else are_apart text child last ns) || t)
      (chosen here (Some (spot_of end)) last far)
    where
      chosen : (t : Bool) (x y : Option Spot) (f : Option Spot → Bool) → (if t then f x else f y) ≡ f (if t then x else y)
      chosen true x y f = refl
      chosen false x y f = refl

  end_followed : (child : Child) (last : Option Spot) (ns : Nodes) (enter : Event) (kids : Nodes) (exit : Event)
      → last_end child last (followed_by ns (Around enter kids exit)) ≡ (if has child enter.name then Some (spot_of exit) else last_end child last ns)
  end_followed child last Nil enter kids exit = refl
  end_followed child last (Cons (Around first inner end) ns) enter kids exit =
      end_followed child (if has child first.name then Some (spot_of end) else last) ns enter kids exit

  loose_followed : (ns : Nodes) (enter : Event) (kids : Nodes) (exit : Event)
      → has_loose_item text (followed_by ns (Around enter kids exit))
      ≡ (has_loose_item text ns || (same_name enter.name n.ListItem && is_loose_item text kids))
  loose_followed Nil enter kids exit = or_none (same_name enter.name n.ListItem && is_loose_item text kids)
  loose_followed (Cons (Around first inner end) ns) enter kids exit =
      ap (λ t. (same_name first.name n.ListItem && is_loose_item text inner) || t) (loose_followed ns enter kids exit)
      ∙ or_both (same_name first.name n.ListItem && is_loose_item text inner) (has_loose_item text ns)
      (same_name enter.name n.ListItem && is_loose_item text kids)

-- ---- one more block

-- so many endings are a line between blocks, or more
abbrev is_gap : Option ℕ → Bool
is_gap None = false
is_gap (Some count) = leb 2 count

abbrev more : Option ℕ → ℕ → Option ℕ
more before count = option_map (λ (k : ℕ). k + count) before

since_joined : (before : Option ℕ) (bs : Blocks) (b : Block)
    → since before (join bs (one_block b)) ≡ (if is_ending b then option_map suc (since before bs) else Some 0)
since_joined before NoBlock b = refl
since_joined before (ConsBlock c bs) b = since_joined (if is_ending c then option_map suc before else Some 0) bs b

-- what is at the front of blocks with one more
some_joined : (bs : Blocks) (b : Block) → is_some_block (join bs (one_block b)) ≡ (is_some_block bs || not (is_ending b))
some_joined NoBlock b = or_none (not (is_ending b))
some_joined (ConsBlock c bs) b =
    ap (λ t. not (is_ending c) || t) (some_joined bs b) ∙ or_both (not (is_ending c)) (is_some_block bs) (not (is_ending b))

-- where a block is among them, an ending at the end changes nothing at the front
front_joined : (bs : Blocks) (b : Block) → is_ending b ≡ true
    → (leb 2 (endings_at_front (join bs (one_block b))) && is_some_block bs) ≡ (leb 2 (endings_at_front bs) && is_some_block bs)
front_joined bs b h = by_some bs (is_some_block bs) refl
  where
    same : (bs : Blocks) → is_some_block bs ≡ true → endings_at_front (join bs (one_block b)) ≡ endings_at_front bs
    same NoBlock s = let wrong : false ≡ true = s in absurd (cc)
    same (ConsBlock (Leaf leaf) bs) s = refl
    same (ConsBlock (Holds c kids) bs) s = refl
    same (ConsBlock (Items items) bs) s = refl
    same (ConsBlock (Ending e) bs) s = ap suc (same bs s)
    same (ConsBlock (Blank e) bs) s = ap suc (same bs s)

    and_none : (t : Bool) → (t && false) ≡ false
    and_none true = refl
    and_none false = refl

    by_some : (bs : Blocks) (t : Bool) → is_some_block bs ≡ t
        → (leb 2 (endings_at_front (join bs (one_block b))) && is_some_block bs) ≡ (leb 2 (endings_at_front bs) && is_some_block bs)
    by_some bs true s = ap (λ (k : ℕ). leb 2 k && is_some_block bs) (same bs s)
    by_some bs false s =
        ap (λ (t : Bool). leb 2 (endings_at_front (join bs (one_block b))) && t) s
        ∙ and_none (leb 2 (endings_at_front (join bs (one_block b))))
        ∙ sym (and_none (leb 2 (endings_at_front bs)))
        ∙ ap (λ (t : Bool). leb 2 (endings_at_front bs) && t) (sym s)

gap_ending : (bs : Blocks) (b : Block) → is_ending b ≡ true → has_gap (join bs (one_block b)) ≡ has_gap bs
gap_ending NoBlock b h = ap (λ t. (not t && leb 2 0 && false) || false) h
gap_ending (ConsBlock c bs) b h =
    let front = endings_at_front (join bs (one_block b)) in
    ap₂ (λ (s g : Bool). (not (is_ending c) && leb 2 front && s) || g)
    (some_joined bs b ∙ ap (λ t. is_some_block bs || not t) h ∙ or_none (is_some_block bs)) (gap_ending bs b h)
    ∙ ap (λ t. t || has_gap bs)
    (and_both (not (is_ending c)) (leb 2 front) (is_some_block bs)
    ∙ ap (λ t. not (is_ending c) && t) (front_joined bs b h)
    ∙ sym (and_both (not (is_ending c)) (leb 2 (endings_at_front bs)) (is_some_block bs)))
  where
    and_both : (x y z : Bool) → (x && y && z) ≡ (x && (y && z))
    and_both true y z = refl
    and_both false y z = refl

-- so many endings stand between the block before these and the first of these
abbrev starts_far : Option ℕ → Blocks → Bool
starts_far before bs = is_gap (more before (endings_at_front bs))

front_block : (bs : Blocks) (b : Block) → is_ending b ≡ false → endings_at_front (join bs (one_block b)) ≡ endings_at_front bs
front_block NoBlock b h = ap (λ t. if t then 1 else 0) h
front_block (ConsBlock c bs) b h = ap (λ (k : ℕ). if is_ending c then suc k else 0) (front_block bs b h)

far_none : (before : Option ℕ) → is_gap (more before 0) ≡ is_gap before
far_none None = refl
far_none (Some k) = let same : k + 0 ≡ k = omega arith in ap (leb 2) same

far_next : (before : Option ℕ) (count : ℕ) → is_gap (more before (suc count)) ≡ is_gap (more (option_map suc before) count)
far_next None count = refl
far_next (Some k) count = let same : k + suc count ≡ suc k + count = omega arith in ap (leb 2) same

no_block : (x g : Bool) → x ≡ g → (x || false) ≡ (((x && false) || false) || g)
no_block true g h = h
no_block false g h = h

next_block : (x l s g f others : Bool) → (l || others) ≡ (((l && s) || g) || f) → (x || ((l && true) || others)) ≡ (((x && true) || ((l && s) || g)) || f)
next_block true l s g f others h = refl
next_block false true s g f others h = h
next_block false false s g f others h = h

-- a block at the end, where so many endings are before these
gap_after : (bs : Blocks) (b : Block) → is_ending b ≡ false → (before : Option ℕ)
    → (starts_far before bs || has_gap (join bs (one_block b))) ≡ (((starts_far before bs && is_some_block bs) || has_gap bs) || is_gap (since before bs))
gap_after NoBlock b h before =
    ap (λ t. starts_far before NoBlock || ((not t && false && false) || false)) h ∙ no_block (starts_far before NoBlock) (is_gap before) (far_none before)
gap_after (ConsBlock (Ending e) bs) b h before =
    let next = far_next before (endings_at_front bs) in
    ap (λ t. t || has_gap (join bs (one_block b))) next
    ∙ gap_after bs b h (option_map suc before)
    ∙ ap (λ t. ((t && is_some_block bs) || has_gap bs) || is_gap (since (option_map suc before) bs)) (sym next)
gap_after (ConsBlock (Blank e) bs) b h before =
    let next = far_next before (endings_at_front bs) in
    ap (λ t. t || has_gap (join bs (one_block b))) next
    ∙ gap_after bs b h (option_map suc before)
    ∙ ap (λ t. ((t && is_some_block bs) || has_gap bs) || is_gap (since (option_map suc before) bs)) (sym next)
gap_after (ConsBlock c bs) b h before =
    let x = starts_far before (ConsBlock c bs) in
    let others = has_gap (join bs (one_block b)) in
    let same : 0 + endings_at_front bs ≡ endings_at_front bs = omega arith in
    ap₂ (λ (k : ℕ) s. x || ((leb 2 k && s) || others)) (front_block bs b h)
    (some_joined bs b ∙ ap (λ t. is_some_block bs || not t) h ∙ or_true (is_some_block bs))
    ∙ next_block x (leb 2 (endings_at_front bs)) (is_some_block bs) (has_gap bs) (is_gap (since (Some 0) bs)) others
    (subst (λ (k : ℕ). (leb 2 k || others) ≡ (((leb 2 k && is_some_block bs) || has_gap bs) || is_gap (since (Some 0) bs))) same (gap_after bs b h (Some 0)))

gap_block : (bs : Blocks) (b : Block) → is_ending b ≡ false → has_gap (join bs (one_block b)) ≡ (has_gap bs || is_gap (since None bs))
gap_block bs b h = gap_after bs b h None

inside_joined : (bs : Blocks) (b : Block) → is_ending b ≡ true → has_gap_inside (join bs (one_block b)) ≡ has_gap_inside bs
inside_joined NoBlock (Leaf leaf) h = let wrong : false ≡ true = h in absurd (cc)
inside_joined NoBlock (Holds c kids) h = let wrong : false ≡ true = h in absurd (cc)
inside_joined NoBlock (Items items) h = let wrong : false ≡ true = h in absurd (cc)
inside_joined NoBlock (Ending e) h = refl
inside_joined NoBlock (Blank e) h = refl
inside_joined (ConsBlock (Leaf leaf) bs) b h = inside_joined bs b h
inside_joined (ConsBlock (Holds c kids) bs) b h = ap (λ t. has_gap kids || t) (inside_joined bs b h)
inside_joined (ConsBlock (Items items) bs) b h = inside_joined bs b h
inside_joined (ConsBlock (Ending e) bs) b h = inside_joined bs b h
inside_joined (ConsBlock (Blank e) bs) b h = inside_joined bs b h

inside_item : (bs : Blocks) (c : Container) (kids : Blocks) → has_gap_inside (join bs (one_block (Holds c kids))) ≡ (has_gap_inside bs || has_gap kids)
inside_item NoBlock c kids = or_none (has_gap kids)
inside_item (ConsBlock (Leaf leaf) bs) c kids = inside_item bs c kids
inside_item (ConsBlock (Holds d inner) bs) c kids =
    ap (λ t. has_gap inner || t) (inside_item bs c kids) ∙ or_both (has_gap inner) (has_gap_inside bs) (has_gap kids)
inside_item (ConsBlock (Items items) bs) c kids = inside_item bs c kids
inside_item (ConsBlock (Ending e) bs) c kids = inside_item bs c kids
inside_item (ConsBlock (Blank e) bs) c kids = inside_item bs c kids

-- ---- both

ended_more : (text : List ℕ) (last : Option Spot) (count : Option ℕ) (line : ℕ) → IsSince text last count line
    → IsSince text last (option_map suc count) (line + 1)
ended_more text None None line h = tt
ended_more text None (Some count) line h = absurd h
ended_more text (Some last) None line h = absurd h
ended_more text (Some last) (Some count) line h = omega (arith, h)

far_since : (text : List ℕ) (last : Option Spot) (count : Option ℕ) (at : Spot) → at.index ≤ length text → IsSince text last count (line_at text at.index)
    → is_far text last at ≡ is_gap count
far_since text None None at k h = refl
far_since text None (Some count) at k h = absurd h
far_since text (Some last) None at k h = absurd h
far_since text (Some last) (Some count) at k h = far_is text last.index at.index count k h

quiet_spread : (text : List ℕ) (child : Child) (bs : Blocks) (ns : Nodes) (line : ℕ) (node : Node) → has child (node_name node) ≡ false
    → AreSpread text child bs ns line → AreSpread text child bs (followed_by ns node) line
quiet_spread text child bs ns line (Around enter kids exit) h f =
    let apart = are_apart text child None ns in
    record {
      apart = apart_followed text child None ns enter kids exit
          ∙ ap (λ (t : Bool). apart || (t && is_far text (last_end child None ns) (spot_of enter))) h
          ∙ or_none apart
          ∙ f.apart;
      ended = subst (λ last. IsSince text last (since None bs) line)
          (sym (end_followed text child None ns enter kids exit ∙ ap (λ t. if t then Some (spot_of exit) else last_end child None ns) h)) f.ended;
    }

ending_spread : (text : List ℕ) (child : Child) (bs : Blocks) (ns : Nodes) (line : ℕ) (b : Block) → is_ending b ≡ true
    → AreSpread text child bs ns line → AreSpread text child (join bs (one_block b)) ns (line + 1)
ending_spread text child bs ns line b h f =
    record {
      apart = f.apart ∙ sym (gap_ending bs b h);
      ended = subst (λ count. IsSince text (last_end child None ns) count (line + 1))
          (sym (since_joined None bs b ∙ ap (λ t. if t then option_map suc (since None bs) else Some 0) h))
          (ended_more text (last_end child None ns) (since None bs) line f.ended);
    }

block_spread : (text : List ℕ) (child : Child) (bs : Blocks) (ns : Nodes) (b : Block) (enter exit : Event) (kids : Nodes) → is_ending b ≡ false
    → has child enter.name ≡ true → (spot_of enter).index ≤ length text → AreSpread text child bs ns (line_at text (spot_of enter).index)
    → AreSpread text child (join bs (one_block b)) (followed_by ns (Around enter kids exit)) (line_at text (spot_of exit).index)
block_spread text child bs ns b enter exit kids h k l f =
    let last = last_end child None ns in
    let none : line_at text (spot_of exit).index + 0 ≡ line_at text (spot_of exit).index = omega arith in
    record {
      apart = apart_followed text child None ns enter kids exit
          ∙ ap (λ (t : Bool). are_apart text child None ns || (t && is_far text last (spot_of enter))) k
          ∙ ap₂ (λ (a b : Bool). a || b) f.apart (far_since text last (since None bs) (spot_of enter) l f.ended)
          ∙ sym (gap_block bs b h);
      ended = subst (λ end. IsSince text end (since None (join bs (one_block b))) (line_at text (spot_of exit).index))
          (sym (end_followed text child None ns enter kids exit ∙ ap (λ t. if t then Some (spot_of exit) else last) k))
          (subst (λ count. IsSince text (Some (spot_of exit)) count (line_at text (spot_of exit).index))
          (sym (since_joined None bs b ∙ ap (λ t. if t then option_map suc (since None bs) else Some 0) h)) none);
    }

-- ---- items

item_loose : (text : List ℕ) (bs kids : Blocks) (c : Container) (ns inner : Nodes) (enter exit : Event) → enter.name ≡ n.ListItem
    → is_loose_item text inner ≡ has_gap kids → has_loose_item text ns ≡ has_gap_inside bs
    → has_loose_item text (followed_by ns (Around enter inner exit)) ≡ has_gap_inside (join bs (one_block (Holds c kids)))
item_loose text bs kids c ns inner enter exit is own h =
    loose_followed text ns enter inner exit
    ∙ ap (λ name. has_loose_item text ns || (same_name name n.ListItem && is_loose_item text inner)) is
    ∙ ap₂ (λ (a b : Bool). a || b) h own
    ∙ sym (inside_item bs c kids)

other_loose : (text : List ℕ) (bs : Blocks) (ns : Nodes) (node : Node) → has_loose_item text ns ≡ has_gap_inside bs
    → (node_name node ≡ n.ListItem → ⊥) → has_loose_item text (followed_by ns node) ≡ has_gap_inside bs
other_loose text bs ns (Around enter kids exit) h is_other =
    loose_followed text ns enter kids exit
    ∙ ap (λ t. has_loose_item text ns || (t && is_loose_item text kids))
    (false_from_ne_true (same_name enter.name n.ListItem) (λ yes. is_other (same_true the_type tt enter.name n.ListItem yes)))
    ∙ or_none (has_loose_item text ns)
    ∙ h

pub spread_blocks_compose : SpreadBlocksCompose
spread_blocks_compose = record {
  none = λ text child line. record { apart = refl; ended = tt };
  quiet = quiet_spread;
  ending = ending_spread;
  block = block_spread;
  item = item_loose;
  other = other_loose;
  between = λ text bs ns b h is. h ∙ sym (inside_joined bs b is);
}
