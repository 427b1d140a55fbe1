-- A parser stands after the end of a container, and of a list after its last item, if these are written.
use Rattle.std.proofs.Common.{◌≡◌, ◌<◌, ℕ, Bool, true, false, List, [], ◌∷◌, ◌++◌, refl, sym, ap, ◌∙◌, subst, length, reverse, map}
use Rattle.parse_events.proofs.Prelude.{always_go_on, AreOpen, around, AtEnding, bare_container, Between, Blocks, Constructs}
use Rattle.parse_events.proofs.Prelude.{Container, container_view, containers, end_in, Err, Exit, Exits, Footnote, forest_in, GoesOnInLine, Held, Holder}
use Rattle.parse_events.proofs.Prelude.{holder_containers, Holds, if◌then◌else◌, InContainer, InList, is_in_line, is_in_list, is_item, is_item_kind}
use Rattle.parse_events.proofs.Prelude.{IsInOrder, IsNext, IsParsing, Item, ItemParts, ItemPlace, Items, join, KnowsItems, KnowsLists, level, Level}
use Rattle.parse_events.proofs.Prelude.{Nodes, Ok, one_block, OnOk, opened, Opened, opened_name, Output, Parser, Part, Place}
use Rattle.parse_events.proofs.Prelude.{Quote, Reading, Result, Standing, standing, standing_after, standing_at, Stands, StandsAt, StandsInEnd, true≢false}
use Rattle.parse_events.proofs.Prelude.{Walk, which_go_on, Within, written_to}
use Rattle.std.specs.Prelude.{not, IfOk}
use Rattle.markdown_options.specs.declared.container.Container.{Container as CodeContainer}
use Rattle.markdown_options.specs.declared.container.Container.TheVariants as code
use Rattle.parse_lines.specs.Steps.{Leaves}
use Rattle.parse_lines.specs.Steps.{IsSameLine as IsSameStanding}
use Rattle.parse_laid.specs.Places.{Stops}
use Rattle.parse_open.specs.Open.{container_end, list_end}
use Rattle.parse_open.specs.Open as open_blocks
use Rattle.parse_events.specs.Parsing.{Closes, EndsItem, item_goes_on}
use Rattle.parse_events.proofs.Containers.{IsSameLine, container_ends, list_ends}
use Rattle.parse_events.proofs.Kept.{first_over, items_last, items_less, lists_less, no_items, none_held, some_held}

-- ---- what is the innermost

abbrev first_of : Container → List Container → Container
first_of other [] = other
first_of other (c ∷ cs) = c

abbrev others : List Container → List Container
others [] = []
others (c ∷ cs) = cs

abbrev is_some : List Container → Bool
is_some [] = false
is_some (c ∷ cs) = true

-- the innermost level is a container, which is this one
record IsContainerLevel (c : Container) (cs : List Container) (levels : List Level) : Type 0 where
  goes_on : Bool
  before : Blocks
  outer : List Level
  is : levels ≡ level (InContainer c goes_on) before ∷ outer
  same : cs ≡ containers outer

holder_is : (h : Holder) (before : Blocks) (outer : List Level) (c : Container) (cs : List Container) → open_blocks.is_list h ≡ false
    → c ∷ cs ≡ holder_containers h ++ containers outer → IsContainerLevel c cs (level h before ∷ outer)
holder_is (InContainer other goes_on) before outer c cs bare same = record {
  goes_on = goes_on;
  before = before;
  outer = outer;
  is = ap (λ (x : Container). level (InContainer x goes_on) before ∷ outer) (sym (ap (first_of c) same));
  same = ap others same;
}
holder_is InList before outer c cs bare same = absurd (true≢false bare)

level_is : (levels : List Level) (c : Container) (cs : List Container) → is_in_list levels ≡ false → c ∷ cs ≡ containers levels → IsContainerLevel c cs levels
level_is [] c cs bare same = absurd (true≢false (ap is_some same))
level_is (l ∷ levels) c cs bare same = holder_is l.holder l.before levels c cs bare same

-- the innermost level is a list
record IsListLevel (levels : List Level) : Type 0 where
  before : Blocks
  outer : List Level
  is : levels ≡ level InList before ∷ outer

list_holder_is : (h : Holder) (before : Blocks) (outer : List Level) → open_blocks.is_list h ≡ true → IsListLevel (level h before ∷ outer)
list_holder_is (InContainer c goes_on) before outer listed = absurd (true≢false (sym listed))
list_holder_is InList before outer listed = record { before = before; outer = outer; is = refl }

list_is : (levels : List Level) → is_in_list levels ≡ true → IsListLevel levels
list_is [] listed = absurd (true≢false (sym listed))
list_is (l ∷ levels) listed = list_holder_is l.holder l.before levels listed

-- around an item is a list
open_in : (r : Reading) (text : List ℕ) (front : Nodes) (l : Level) (levels : List Level) (parts : List Part) → AreOpen r text front (l ∷ levels) parts
    → is_in_list levels ≡ is_item l.holder
open_in r text front l levels [] are = absurd are
open_in r text front l levels (part ∷ parts) are = are.2

-- a container ends where it was
stops_there : (p to : Place) → is_in_line p ≡ true → (on : Constructs) (outer : List Container) → Stops on outer p to → to ≡ p
stops_there (Between left) to in_line on outer stops = absurd (true≢false (sym in_line))
stops_there (Within here left) to in_line on outer stops = stops
stops_there (AtEnding ending left) to in_line on outer stops = stops

-- ---- what a call of `exit` leaves

module _ {A : Type 0} where
  same_line : (old left new : Walk A) → IsSameStanding (standing old) (standing left) → standing new ≡ standing left → written_to new ≡ written_to old
      → IsSameLine old new
  same_line old left new line stays end = record {
    size = ap (λ (s : Standing). s.size) stays ∙ line.size;
    left = ap (λ (s : Standing). s.left) stays ∙ line.left;
    rest = ap (λ (s : Standing). s.rest) stays ∙ line.rest;
    line_end = ap (λ (s : Standing). s.line_end) stays ∙ line.line_end;
    written = end;
  }

  -- the innermost item isn't kept any more
  pub record PopsItem (place : ItemPlace) (old new : Parser A) : Type 0 where
    pub walk : new.walk ≡ old.walk
    pub lists : new.open.items ≡ old.open.items
    pub items : old.items.items ≡ new.items.items ++ place ∷ []
    pub places : new.places.items ≡ old.places.items
    pub first : new.first ≡ old.first

  popped_is : (old new : Parser A) (place : ItemPlace) (goes_on last : Bool) (go_on : List Bool) → PopsItem place old new → place.goes_on ≡ last
      → KnowsItems old.items.items (goes_on ∷ go_on) → (goes_on ≡ last) × KnowsItems new.items.items go_on
  popped_is old new place goes_on last go_on pops is knows =
      let here : KnowsItems (new.items.items ++ place ∷ []) (goes_on ∷ go_on) = subst (λ (ps : List ItemPlace). KnowsItems ps (goes_on ∷ go_on)) pops.items knows in
      (sym (items_last new.items.items place goes_on go_on here) ∙ is, items_less new.items.items place goes_on go_on here)

  -- no item is kept, but one is open
  pub no_item_ends : (old new : Parser A) → old.items.items ≡ [] → EndsItem old new
  no_item_ends old new none r text front o within p goes_on was =
      absurd (no_items goes_on (which_go_on o.outer) (subst (λ (ps : List ItemPlace). KnowsItems ps (goes_on ∷ which_go_on o.outer)) none was.items))

  -- its list goes on
  pub list_goes_on : (old new : Parser A) (place : ItemPlace) → PopsItem place old new → place.goes_on ≡ true → EndsItem old new
  list_goes_on old new place pops last r text front o within p goes_on was =
      let popped = popped_is old new place goes_on true (which_go_on o.outer) pops last was.items in
      subst (λ (b : Bool). IsParsing r text front (if not b then list_end o.kids o.outer o.places else o) within p new) (sym popped.0) (
      record {
        stands = subst (λ (w : Walk A). Stands r text front o within p w) (sym pops.walk) was.stands;
        lists = subst (λ (os : List Held). KnowsLists os o.outer) (sym pops.lists) was.lists;
        items = popped.1;
        places = ap reverse pops.places ∙ was.places;
        first =
            pops.first ∙ was.first ∙ sym (first_over (opened was.before o.outer o.places) was.item was.is_item)
            ∙ sym (ap (λ (ks : Blocks). (standing_after (standing_at o.outer) ks).first) was.kids);
      })

  -- its list ends with it
  pub list_ends_too : (old mid new : Parser A) (place : ItemPlace) → PopsItem place old mid → place.goes_on ≡ false → (0 < length mid.open.items → Closes mid new) → EndsItem old new
  list_ends_too old mid new place pops last closing r text front o within p goes_on was =
      let popped = popped_is old mid place goes_on false (which_go_on o.outer) pops last was.items in
      let l = list_is o.outer was.in_list in
      let bound = level InList l.before in
      let stands : Stands r text front o within p mid.walk = subst (λ (w : Walk A). Stands r text front o within p w) (sym pops.walk) was.stands in
      let held : KnowsLists mid.open.items (bound ∷ l.outer) =
      subst (λ (ls : List Level). KnowsLists mid.open.items ls) l.is (subst (λ (os : List Held). KnowsLists os o.outer) (sym pops.lists) was.lists) in
      let closes = closing (some_held mid.open.items bound l.outer held) in
      let done = opened (join l.before (one_block (Items o.kids))) l.outer o.places in
      let ended : Stands r text front done within p new.walk =
      list_ends r text front (always_go_on r text front) o l.before was.before was.item l.outer within p (opened_name closes.last) mid.walk new.walk l.is was.kids stands
      closes.stays (stands.same ∙ ap containers l.is)
      (same_line mid.walk mid.walk new.walk (record { size = refl; left = refl; begun = refl; rest = refl; line_end = refl; ending = refl }) closes.stays closes.end)
      (closes.exits text stands.order) in
      let parsing : IsParsing r text front done within p new =
      record {
        stands = ended;
        lists =
            lists_less new.open.items closes.last bound l.outer (subst (λ (os : List Held). KnowsLists os (bound ∷ l.outer)) closes.parts held);
        items =
            subst (λ (ps : List ItemPlace). KnowsItems ps (which_go_on l.outer)) (sym closes.items) (
            subst (λ (ls : List Level). KnowsItems mid.items.items (which_go_on ls)) l.is popped.1);
        places = ap reverse (closes.places ∙ pops.places) ∙ was.places;
        first = closes.first ∙ pops.first ∙ was.first ∙ sym (first_over (opened l.before l.outer o.places) (Items o.kids) refl);
      } in
      subst (λ (b : Bool). IsParsing r text front (if not b then list_end o.kids o.outer o.places else o) within p new) (sym popped.0) (
      subst (λ (ls : List Level). IsParsing r text front (list_end o.kids ls o.places) within p new) (sym l.is) parsing)

-- ---- the end of a container

-- a container that isn't an item ends no list
other_end : (c : Container) (goes_on : Bool) (kids before : Blocks) (outer : List Level) (places : List ItemPlace) → is_item_kind c ≡ false
    → container_end kids (level (InContainer (bare_container c) goes_on) before ∷ outer) places
    ≡ opened (join before (one_block (Holds (bare_container c) kids))) outer places
other_end Quote goes_on kids before outer places other = refl
other_end (Item item) goes_on kids before outer places other = absurd (true≢false other)
other_end (Footnote label) goes_on kids before outer places other = refl

other_go_on : (c : Container) (goes_on : Bool) → is_item_kind c ≡ false → item_goes_on (bare_container c) goes_on ≡ []
other_go_on Quote goes_on other = refl
other_go_on (Item item) goes_on other = absurd (true≢false other)
other_go_on (Footnote label) goes_on other = refl

-- which container was left
pub item_kind : (x : CodeContainer) (item : ItemParts) → x ≡ code.Item item → is_item_kind (container_view x) ≡ true
item_kind x item is = ap (λ (y : CodeContainer). is_item_kind (container_view y)) is

pub other_kind : (x : CodeContainer) → ((item : ItemParts) → x ≡ code.Item item → ⊥) → is_item_kind (container_view x) ≡ false
other_kind code.Quote other = refl
other_kind (code.Item item) other = absurd (other item refl)
other_kind (code.Footnote label) other = refl

-- an item may end its list
item_end : (c : Container) (goes_on : Bool) (kids before : Blocks) (outer : List Level) (places : List ItemPlace) → is_item_kind c ≡ true
    → (let more = join before (one_block (Holds (bare_container c) kids)) in if not goes_on then list_end more outer places else opened more outer places)
    ≡ container_end kids (level (InContainer (bare_container c) goes_on) before ∷ outer) places
item_end Quote goes_on kids before outer places is = absurd (true≢false (sym is))
item_end (Item item) goes_on kids before outer places is = refl
item_end (Footnote label) goes_on kids before outer places is = absurd (true≢false (sym is))

item_go_on : (c : Container) (goes_on : Bool) → is_item_kind c ≡ true → item_goes_on (bare_container c) goes_on ≡ goes_on ∷ []
item_go_on Quote goes_on is = absurd (true≢false (sym is))
item_go_on (Item item) goes_on is = refl
item_go_on (Footnote label) goes_on is = absurd (true≢false (sym is))

item_in_list : (c : Container) (goes_on : Bool) → is_item_kind c ≡ true → is_item (InContainer (bare_container c) goes_on) ≡ true
item_in_list Quote goes_on is = absurd (true≢false (sym is))
item_in_list (Item item) goes_on is = refl
item_in_list (Footnote label) goes_on is = absurd (true≢false (sym is))

module _ {A : Type 0} where
  -- the walk has left a container
  pub record LeavesOne (c : Container) (old new : Parser A) : Type 0 where
    pub leaves : Leaves c (standing old.walk) (standing new.walk)
    pub line : IsSameStanding (standing old.walk) (standing new.walk)
    pub out : new.walk.out ≡ old.walk.out
    pub lists : new.open.items ≡ old.open.items
    pub items : new.items.items ≡ old.items.items
    pub places : new.places.items ≡ old.places.items
    pub first : new.first ≡ false

  -- what is known then of what is around it
  record IsExited (r : Reading) (text : List ℕ) (front : Nodes) (o : Opened) (c : Container) (inner : List Container) (to : Place) (new : Parser A) : Type 0 where
    goes_on : Bool
    before : Blocks
    outer : List Level
    is : o.outer ≡ level (InContainer (bare_container c) goes_on) before ∷ outer
    stands : Stands r text front (opened (join before (one_block (Holds (bare_container c) o.kids))) outer o.places) inner to new.walk
    lists : KnowsLists new.open.items outer
    items : KnowsItems new.items.items (item_goes_on (bare_container c) goes_on ++ which_go_on outer)
    places : reverse new.places.items ≡ o.places
    first : new.first ≡ false
    stands_in : is_in_list outer ≡ is_item (InContainer (bare_container c) goes_on)

  exited_one : (r : Reading) (text : List ℕ) (front : Nodes) (o : Opened) (c : Container) (outer inner : List Container) (p to : Place) (old left new : Parser A)
      → is_in_line p ≡ true → IsNext r.parse.constructs o outer p Exit inner to → IsParsing r text front o outer p old → LeavesOne c old left
      → (0 < length left.open.items → Closes left new) → IsExited r text front o c inner to new
  exited_one r text front o c outer inner p to old left new in_line next was leaves closing =
      let stands = was.stands in
      let around_is : c ∷ around (standing left.walk) ≡ next.laid.0 ∷ inner = sym leaves.leaves.0 ∙ stands.around ∙ next.laid.1 in
      let inside : around (standing left.walk) ≡ inner = ap others around_is in
      let outer_is : c ∷ inner ≡ outer = ap (λ (x : Container). x ∷ inner) (ap (first_of c) around_is) ∙ sym next.laid.1 in
      let l = level_is o.outer (bare_container c) (map bare_container inner) next.fits (ap (map bare_container) outer_is ∙ stands.same) in
      let bound = level (InContainer (bare_container c) l.goes_on) l.before in
      let held : KnowsLists left.open.items (bound ∷ l.outer) =
      subst (λ (ls : List Level). KnowsLists left.open.items ls) l.is (subst (λ (os : List Held). KnowsLists os o.outer) (sym leaves.lists) was.lists) in
      let closes = closing (some_held left.open.items bound l.outer held) in
      let done = opened (join l.before (one_block (Holds (bare_container c) o.kids))) l.outer o.places in
      let there = stops_there p to in_line r.parse.constructs outer next.laid.2 in
      let ended : Stands r text front done inner p new.walk =
      container_ends r text front (always_go_on r text front) o (bare_container c) l.goes_on l.before l.outer outer inner p (opened_name closes.last) old.walk new.walk l.is stands
      (ap (λ (s : Standing). s.on) closes.stays ∙ leaves.leaves.1) (ap around closes.stays ∙ inside) l.same
      (λ st. subst (StandsAt text p) (sym closes.stays) (leaves.leaves.2 text p st))
      (same_line old.walk left.walk new.walk leaves.line closes.stays (closes.end ∙ ap end_in leaves.out))
      (subst (λ (x : Output A). Exits text (opened_name closes.last) x new.walk.out) leaves.out (
      closes.exits text (subst (λ (x : Output A). IsInOrder text x) (sym leaves.out) stands.order))) in
      record {
        goes_on = l.goes_on;
        before = l.before;
        outer = l.outer;
        is = l.is;
        stands = subst (λ (q : Place). Stands r text front done inner q new.walk) (sym there) ended;
        lists = lists_less new.open.items closes.last bound l.outer (subst (λ (os : List Held). KnowsLists os (bound ∷ l.outer)) closes.parts held);
        items =
            subst (λ (ps : List ItemPlace). KnowsItems ps (item_goes_on (bare_container c) l.goes_on ++ which_go_on l.outer)) (sym (closes.items ∙ leaves.items)) (
            subst (λ (ls : List Level). KnowsItems old.items.items (which_go_on ls)) l.is was.items);
        places = ap reverse (closes.places ∙ leaves.places) ∙ was.places;
        first = closes.first ∙ leaves.first;
        stands_in = open_in r text front bound l.outer _ (subst (λ (ls : List Level). AreOpen r text front ls (forest_in text old.walk.out).outer) l.is stands.spells.around);
      }

  -- a quote or a footnote definition ends
  pub other_exits : (old left new : Parser A) (c : Container) (r : Reading) → is_item_kind c ≡ false → LeavesOne c old left
      → (0 < length left.open.items → Closes left new) → GoesOnInLine r Exit old new
  other_exits old left new c r other leaves closing text front o outer inner p to in_line next was =
      let x = exited_one r text front o c outer inner p to old left new in_line next was leaves closing in
      subst (λ (ls : List Level). IsParsing r text front (container_end o.kids ls o.places) inner to new) (sym x.is) (
      subst (λ (q : Opened). IsParsing r text front q inner to new) (sym (other_end c x.goes_on o.kids x.before x.outer o.places other)) (
      record {
        stands = x.stands;
        lists = x.lists;
        items = subst (λ (bs : List Bool). KnowsItems new.items.items (bs ++ which_go_on x.outer)) (other_go_on c x.goes_on other) x.items;
        places = x.places;
        first = x.first ∙ sym (first_over (opened x.before x.outer o.places) (Holds (bare_container c) o.kids) refl);
      }))

  -- an item ends, and its list unless it goes on
  pub item_exits : (old left mid new : Parser A) (c : Container) (r : Reading) → is_item_kind c ≡ true → LeavesOne c old left
      → (0 < length left.open.items → Closes left mid) → EndsItem mid new → GoesOnInLine r Exit old new
  item_exits old left mid new c r item leaves closing ends text front o outer inner p to in_line next was =
      let x = exited_one r text front o c outer inner p to old left mid in_line next was leaves closing in
      let done = opened (join x.before (one_block (Holds (bare_container c) o.kids))) x.outer o.places in
      subst (λ (ls : List Level). IsParsing r text front (container_end o.kids ls o.places) inner to new) (sym x.is) (
      subst (λ (q : Opened). IsParsing r text front q inner to new) (item_end c x.goes_on o.kids x.before x.outer o.places item) (
      ends r text front done inner to x.goes_on (
      record {
        stands = x.stands;
        lists = x.lists;
        items = subst (λ (bs : List Bool). KnowsItems mid.items.items (bs ++ which_go_on x.outer)) (item_go_on c x.goes_on item) x.items;
        places = x.places;
        first = x.first;
        in_list = x.stands_in ∙ item_in_list c x.goes_on item;
        before = x.before;
        item = Holds (bare_container c) o.kids;
        kids = refl;
        is_item = refl;
      })))

  -- no container is left
  pub none_exits : (old new : Parser A) (r : Reading) → around (standing old.walk) ≡ [] → GoesOnInLine r Exit old new
  none_exits old new r none text front o outer inner p to in_line next was =
      absurd (true≢false (sym (ap is_some (sym none ∙ was.stands.around ∙ next.laid.1))))

  -- if the calls succeed
  pub list_ended : {T E : Type 0} (result : Result T E) (old mid new : Parser A) (place : ItemPlace) → PopsItem place old mid → place.goes_on ≡ false
      → (0 < length mid.open.items → OnOk result (Closes mid new)) → OnOk result (EndsItem old new)
  list_ended (Ok x) old mid new place pops last closing = list_ends_too old mid new place pops last closing
  list_ended (Err e) old mid new place pops last closing = tt

  pub other_exited : {T E : Type 0} (result : Result T E) (old left new : Parser A) (c : Container) → is_item_kind c ≡ false → LeavesOne c old left
      → (0 < length left.open.items → OnOk result (Closes left new)) → OnOk result ((r : Reading) → GoesOnInLine r Exit old new)
  other_exited (Ok x) old left new c other leaves closing = λ r. other_exits old left new c r other leaves closing
  other_exited (Err e) old left new c other leaves closing = tt

  pub item_exited : {T E : Type 0} (result : Result T E) (old left mid new : Parser A) (c : Container) → is_item_kind c ≡ true → LeavesOne c old left
      → (0 < length left.open.items → Closes left mid) → OnOk result (EndsItem mid new) → OnOk result ((r : Reading) → GoesOnInLine r Exit old new)
  item_exited (Ok x) old left mid new c item leaves closing ends = λ r. item_exits old left mid new c r item leaves closing ends
  item_exited (Err e) old left mid new c item leaves closing ends = tt

  pub all_exited : {E : Type 0} (result : Result (Walk A) E) (parser : Parser A) → (parser.open.items ≡ [] → IfOk result (λ w. w ≡ parser.walk))
      → IfOk result (λ w. StandsInEnd parser w)
  all_exited (Ok w) parser stays =
      λ r text front o within p none was.
      subst (λ (x : Walk A). Stands r text front o within p x) (sym (stays (none_held parser.open.items (subst (KnowsLists parser.open.items) none was.lists)))) was.stands
  all_exited (Err e) parser stays = tt
