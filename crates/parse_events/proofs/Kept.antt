-- What a parser keeps of what is open, with one more of it or one less, and where the next block stands.
use Rattle.std.proofs.Common.{◌≡◌, ◌<◌, ◌&&◌, ℕ, Bool, true, false, List, [], ◌∷◌, ◌++◌, refl, sym, ap, ap₂, ◌∙◌, subst, arith, length, map, reverse}
use Rattle.parse_events.proofs.Prelude.{after_row, Block, Blocks, ConsBlock, Container, ends_in_list, Held, is_ending, is_in_list, is_last_list, is_list}
use Rattle.parse_events.proofs.Prelude.{IsParsing, ItemPlace, join, KnowsItems, KnowsLists, length-map, length-reverse, Level, next_stands, NoBlock, Nodes}
use Rattle.parse_events.proofs.Prelude.{one_block, Opened, opened, Parser, Place, Reading, Single, standing_after, standing_at, Stands, true≢false, Walk}
use Rattle.parse_events.proofs.Prelude.{which_are_lists, which_go_on}
use Rattle.std.proofs.lemmas.List.{reverse-append, reverse-reverse}
use Rattle.definition_page.specs.Read.{Standing, next_standing}
use Rattle.parse_open.specs.Open as open_blocks

-- ---- one more, one less

pub reverse_push : {X : Type 0} → (xs : List X) (x : X) → reverse (xs ++ x ∷ []) ≡ x ∷ reverse xs
reverse_push xs x = reverse-append xs (x ∷ [])

abbrev others : List Bool → List Bool
others [] = []
others (b ∷ bs) = bs

abbrev first_or : Bool → List Bool → Bool
first_or other [] = other
first_or other (b ∷ bs) = b

pub lists_more : (os : List Held) (o : Held) (l : Level) (levels : List Level) → is_list o ≡ open_blocks.is_list l.holder → KnowsLists os levels
    → KnowsLists (os ++ o ∷ []) (l ∷ levels)
lists_more os o l levels is knows = ap (map is_list) (reverse_push os o) ∙ ap₂ (λ (b : Bool) (bs : List Bool). b ∷ bs) is knows

pub lists_less : (os : List Held) (o : Held) (l : Level) (levels : List Level) → KnowsLists (os ++ o ∷ []) (l ∷ levels) → KnowsLists os levels
lists_less os o l levels knows = ap others (sym (ap (map is_list) (reverse_push os o)) ∙ knows)

pub items_more : (ps : List ItemPlace) (p : ItemPlace) (go_on : List Bool) → KnowsItems ps go_on → KnowsItems (ps ++ p ∷ []) (p.goes_on ∷ go_on)
items_more ps p go_on knows = ap (map (λ (x : ItemPlace). x.goes_on)) (reverse_push ps p) ∙ ap (λ (bs : List Bool). p.goes_on ∷ bs) knows

pub items_less : (ps : List ItemPlace) (p : ItemPlace) (b : Bool) (go_on : List Bool) → KnowsItems (ps ++ p ∷ []) (b ∷ go_on) → KnowsItems ps go_on
items_less ps p b go_on knows = ap others (sym (ap (map (λ (x : ItemPlace). x.goes_on)) (reverse_push ps p)) ∙ knows)

pub items_last : (ps : List ItemPlace) (p : ItemPlace) (b : Bool) (go_on : List Bool) → KnowsItems (ps ++ p ∷ []) (b ∷ go_on) → p.goes_on ≡ b
items_last ps p b go_on knows = ap (first_or false) (sym (ap (map (λ (x : ItemPlace). x.goes_on)) (reverse_push ps p)) ∙ knows)

abbrev is_some : List Bool → Bool
is_some [] = false
is_some (b ∷ bs) = true

pub no_items : (b : Bool) (go_on : List Bool) → KnowsItems [] (b ∷ go_on) → ⊥
no_items b go_on knows = true≢false (sym (ap is_some knows))

-- ---- the last of them

last_is_list : (first : Held) (os : List Held) (o : Held) → is_last_list first (os ++ o ∷ []) ≡ is_list o
last_is_list first [] o = refl
last_is_list first (next ∷ os) o = last_is_list next os o

ends_with_list : (os : List Held) (o : Held) → ends_in_list (os ++ o ∷ []) ≡ is_list o
ends_with_list [] o = refl
ends_with_list (first ∷ os) o = last_is_list first os o

reversed_ends : (os : List Held) → ends_in_list (reverse os) ≡ first_or false (map is_list os)
reversed_ends [] = refl
reversed_ends (o ∷ os) = ap ends_in_list (reverse-append (o ∷ []) os) ∙ ends_with_list (reverse os) o

first_in : (levels : List Level) → first_or false (which_are_lists levels) ≡ is_in_list levels
first_in [] = refl
first_in (l ∷ levels) = refl

pub ends_in : (os : List Held) (levels : List Level) → KnowsLists os levels → ends_in_list os ≡ is_in_list levels
ends_in os levels knows =
    ap ends_in_list (sym (reverse-reverse os)) ∙ reversed_ends (reverse os) ∙ ap (first_or false) knows ∙ first_in levels

pub some_held : (os : List Held) (l : Level) (levels : List Level) → KnowsLists os (l ∷ levels) → 0 < length os
some_held [] l levels knows = absurd (true≢false (sym (ap is_some knows)))
some_held (o ∷ os) l levels knows = omega arith

pub none_held : (os : List Held) → KnowsLists os [] → os ≡ []
none_held [] knows = refl
none_held (o ∷ os) knows =
    let mapped = length-map (reverse (o ∷ os)) is_list in
    let turned = length-reverse (o ∷ os) in
    let none = ap length knows in
    absurd (omega (arith, mapped, turned, none))

-- ---- where the next block stands

and_true : (b : Bool) → (b && true) ≡ b
and_true true = refl
and_true false = refl

and_false : (b : Bool) → (b && false) ≡ false
and_false true = refl
and_false false = refl

after_joined : (s : Standing) (bs : Blocks) (b : Block) → standing_after s (join bs (one_block b)) ≡ next_standing (standing_after s bs) b
after_joined s NoBlock b = refl
after_joined s (ConsBlock c bs) b = after_joined (next_standing s c) bs b

-- blocks come first as before after an ending, and not after others
pub first_kept : (o : Opened) (b : Block) → is_ending b ≡ true
    → (next_stands (opened (join o.kids (one_block b)) o.outer o.places)).first ≡ (next_stands o).first
first_kept o b is =
    ap (λ (s : Standing). s.first) (after_joined (standing_at o.outer) o.kids b) ∙ ap (λ (x : Bool). (next_stands o).first && x) is
    ∙ and_true (next_stands o).first

pub first_over : (o : Opened) (b : Block) → is_ending b ≡ false → (next_stands (opened (join o.kids (one_block b)) o.outer o.places)).first ≡ false
first_over o b is =
    ap (λ (s : Standing). s.first) (after_joined (standing_at o.outer) o.kids b) ∙ ap (λ (x : Bool). (next_stands o).first && x) is
    ∙ and_false (next_stands o).first

pub top_after : (s : Standing) (bs : Blocks) → (standing_after s bs).top ≡ s.top
top_after s NoBlock = refl
top_after s (ConsBlock c bs) = top_after (next_standing s c) bs

-- ---- a parser

-- a parser keeps what it knew of what is open
pub record KeepsOpen {A : Type 0} (old new : Parser A) : Type 0 where
  pub lists : new.open.items ≡ old.open.items
  pub items : new.items.items ≡ old.items.items
  pub places : new.places.items ≡ old.places.items
  pub first : new.first ≡ old.first

module _ {A : Type 0} (r : Reading) (text : List ℕ) (front : Nodes) where
  -- after one more ending
  pub parsing_after : (o : Opened) (b : Block) (within inner : List Container) (p to : Place) (old new : Parser A) → is_ending b ≡ true
      → IsParsing r text front o within p old → KeepsOpen old new
      → Stands r text front (opened (join o.kids (one_block b)) o.outer o.places) inner to new.walk
      → IsParsing r text front (after_row o (Single b)) inner to new
  parsing_after o b within inner p to old new is was keeps stands = record {
    stands = stands;
    lists = subst (λ (os : List Held). KnowsLists os o.outer) (sym keeps.lists) was.lists;
    items = subst (λ (ps : List ItemPlace). KnowsItems ps (which_go_on o.outer)) (sym keeps.items) was.items;
    places = subst (λ (ps : List ItemPlace). reverse ps ≡ o.places) (sym keeps.places) was.places;
    first = keeps.first ∙ was.first ∙ sym (first_kept o b is);
  }

  -- at another place
  pub parsing_kept : (o : Opened) (within inner : List Container) (p to : Place) (old new : Parser A) → IsParsing r text front o within p old → KeepsOpen old new
      → Stands r text front o inner to new.walk → IsParsing r text front o inner to new
  parsing_kept o within inner p to old new was keeps stands = record {
    stands = stands;
    lists = subst (λ (os : List Held). KnowsLists os o.outer) (sym keeps.lists) was.lists;
    items = subst (λ (ps : List ItemPlace). KnowsItems ps (which_go_on o.outer)) (sym keeps.items) was.items;
    places = subst (λ (ps : List ItemPlace). reverse ps ≡ o.places) (sym keeps.places) was.places;
    first = keeps.first ∙ was.first;
  }

  -- a walk stands in other containers and at another place that are the same
  pub stands_there : (o : Opened) (within inner : List Container) (p to : Place) (w : Walk A) → inner ≡ within → to ≡ p → Stands r text front o within p w
      → Stands r text front o inner to w
  stands_there o within inner p to w is there stands =
      subst (λ (cs : List Container). Stands r text front o cs to w) (sym is) (subst (λ (q : Place). Stands r text front o within q w) (sym there) stands)
