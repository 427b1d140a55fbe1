-- A parser stands after the start of an item, and of its list if it is the first, if these are written.
use Rattle.std.proofs.Common.{◌≡◌, ◌⊎◌, inl, inr, ℕ, Bool, true, false, List, [], ◌∷◌, ◌++◌, Option, None, Some, refl, sym, ap, ap₂, ◌∙◌, subst, length, reverse, take}
use Rattle.parse_events.proofs.Prelude.{after_row, always_go_on, append-nil, around, bare_container, bare_end, beside_in, BlockRow, bytes_of}
use Rattle.parse_events.proofs.Prelude.{Constructs, Container, end_at, ends_in_list, EnterItem, Enters, Err, Footnote, forest_in, GoesOnInLine}
use Rattle.parse_events.proofs.Prelude.{Growth, Held, if◌then◌else◌, InContainer, InList, innermost, is_in_list, is_item_kind, is_list, IsBegun}
use Rattle.parse_events.proofs.Prelude.{IsInOrder, IsListed, IsOfList, IsParsing, IsWrittenToRest, Item, ItemParts, ItemPlace, KnowsItems, KnowsLists}
use Rattle.parse_events.proofs.Prelude.{level, line_rest, LineRest, list_name, more_if, Name, NoBlock, Nodes, Ok, OnOk, Opened, opened, opened_name}
use Rattle.parse_events.proofs.Prelude.{OpensIf, Parser, Place, Quote, Reading, Result, standing, Standing, Stands, StandsAt, start_row, Starts, StartsOf}
use Rattle.parse_events.proofs.Prelude.{true≢false, Walk, which_go_on, within, Within, WritesStartOf, WritesUpTo, written_to}
use Rattle.std.specs.Prelude.{◌+◌, ◌-◌, MatchOption}
use Rattle.std.specs.Option.{UnwrapsOrElse, option_to_list}
use Rattle.definition_text.specs.Columns.{bare}
use Rattle.engine_events.specs.declared.event.Name.TheVariants as n
use Rattle.parse_lines.specs.Ends.{IsWrittenToStart}
use Rattle.parse_lines.proofs.Starts.{white_quiet}
use Rattle.parse_open.specs.Filled.{marker_list}
use Rattle.parse_open.specs.Open.{first_marker, in_list, item_begun, next_goes_on, other_places}
use Rattle.parse_open.proofs.Filled.{list_marked}
use Rattle.parse_open.proofs.Markers.{IsMarkedAlike, marked_alike}
use Rattle.parse_events.specs.declared.opened.Opened.TheVariants as held
use Rattle.parse_events.specs.Parsing.{BeginsList, IsListing}
use Rattle.parse_events.proofs.Kept.{ends_in, items_more, lists_more, reverse_push, stands_there}
use Rattle.parse_events.proofs.Lists.{item_starts, list_starts, listed_already}
use Rattle.parse_events.proofs.StartRows.{started_on}

-- ---- the list of an item

in_list_places : (b : Bool) (o : Opened) → (if b then o else within InList o).places ≡ o.places
in_list_places true o = refl
in_list_places false o = refl

in_list_go_on : (b : Bool) (o : Opened) → which_go_on (if b then o else within InList o).outer ≡ which_go_on o.outer
in_list_go_on true o = refl
in_list_go_on false o = refl

already : (b : Bool) (o : Opened) → b ≡ true → o ≡ (if b then o else within InList o)
already true o is = refl
already false o is = absurd (true≢false (sym is))

anew : (b : Bool) (o : Opened) → b ≡ false → within InList o ≡ (if b then o else within InList o)
anew true o is = absurd (true≢false is)
anew false o is = refl

-- an item in a list whose items have its marker
later_item : (item : ItemParts) (goes_on : Bool) (list : Name) → list ≡ marker_list item.marker → list_name item.number ≡ marker_list item.marker
    → IsOfList (InContainer (bare_container (Item item)) goes_on) list
later_item item goes_on list marked alike = (marked ∙ sym alike, marked)

-- the first item of a list
first_item : (item : ItemParts) (goes_on : Bool) (list : Name) → list ≡ list_name item.number → list_name item.number ≡ marker_list item.marker
    → IsOfList (InContainer (bare_container (Item item)) goes_on) list
first_item item goes_on list is alike = (is, is ∙ alike)

-- in a list that is open, the items have the marker of the first
in_list_marked : (b : Bool) (o : Opened) (marker : ℕ) → (b ≡ true → first_marker o.kids ≡ marker)
    → ((if b then o else within InList o).kids ≡ NoBlock → ⊥) → first_marker (if b then o else within InList o).kids ≡ marker
in_list_marked true o marker same some = same refl
in_list_marked false o marker same some = absurd (some refl)

module _ {A : Type 0} where
  -- where the white space ahead ends is told by the line
  pub bare_end_by : (a b : Walk A) → standing a ≡ standing b → bare_end a ≡ bare_end b
  bare_end_by a b same =
      ap (λ (s : Standing). end_at (s.line_end - length (bytes_of (bare s.rest))) 0) same

  -- one is open already
  pub list_is_open : (list : Held) (old new : Parser A) → ends_in_list old.open.items ≡ true → new ≡ old → BeginsList list old new
  list_is_open list old new ends stays r text front o outer here left number name was knows =
      let inside : is_in_list o.outer ≡ true = sym (ends_in old.open.items o.outer knows) ∙ ends in
      subst (λ (x : Parser A). IsListing r text front (in_list o) outer here left number x) (sym stays) (
      subst (λ (q : Opened). IsListing r text front q outer here left number old) (already (is_in_list o.outer) o inside) (
      record {
        listed = listed_already r text front (always_go_on r text front) o outer here left old.walk inside was;
        lists = knows;
        of_list = λ item goes_on is alike same.
            let list = innermost (forest_in text old.walk.out).outer in
            later_item item goes_on list
            (list_marked o.outer list o.kids (forest_in text old.walk.out).kids inside (was.begun inside) was.spells.fill
            ∙ ap marker_list (same (was.begun inside))) alike;
      }))

  -- one begins after white space
  pub list_begins : (list : Held) (old new : Parser A) (white entered : Walk A) (named : Name) → ends_in_list old.open.items ≡ false → is_list list ≡ true
      → WritesUpTo n.SpaceOrTab (bare_end old.walk) old.walk white → standing white ≡ standing old.walk → written_to white ≡ bare_end old.walk
      → named ≡ opened_name list → ((text : List ℕ) → IsInOrder text white.out → Enters text named white.out entered.out) → standing entered ≡ standing white
      → written_to entered ≡ written_to white → new.walk ≡ entered → new.open.items ≡ old.open.items ++ list ∷ [] → BeginsList list old new
  list_begins list old new white entered named ends is_list space space_stays space_end is_named enters stays end walk opens r text front o outer here left number name was knows =
      let outside : is_in_list o.outer ≡ false = sym (ends_in old.open.items o.outer knows) ∙ ends in
      let same : standing entered ≡ standing old.walk = stays ∙ space_stays in
      let same_end : bare_end entered ≡ bare_end old.walk = bare_end_by entered old.walk same in
      elim was.at [
        | inl at ↦
            let quiet = white_quiet text here left old.walk white at.0 (inl at.1) was.order space in
            let enter = enters text quiet.writes.order in
            let entered_named : Enters text (list_name number) white.out entered.out =
            subst (λ (x : Name). Enters text x white.out entered.out) (is_named ∙ name) enter in
            let listed : IsListed r text front (within InList o) outer here left entered =
            list_starts r text front (always_go_on r text front) o outer here left number old.walk white entered outside was quiet space_end entered_named end same
            same_end in
            let first : (item : ItemParts) (goes_on : Bool) → item.number ≡ number → list_name item.number ≡ marker_list item.marker
            → ((NoBlock ≡ NoBlock → ⊥) → first_marker NoBlock ≡ item.marker)
            → IsOfList (InContainer (bare_container (Item item)) goes_on) (innermost (forest_in text entered.out).outer) =
            λ item goes_on is alike same. first_item item goes_on (innermost (forest_in text entered.out).outer) (
            ap (λ (g : Growth). innermost g.outer) entered_named.forest ∙ ap list_name (sym is)) alike in
            subst (λ (q : Opened). IsListing r text front q outer here left number new) (anew (is_in_list o.outer) o outside) (
            record {
              listed = subst (λ (w : Walk A). IsListed r text front (within InList o) outer here left w) (sym walk) listed;
              lists =
                  subst (λ (os : List Held). KnowsLists os (level InList o.kids ∷ o.outer)) (sym opens) (
                  lists_more old.open.items list (level InList o.kids) o.outer is_list knows);
              of_list = subst (λ (w : Walk A). (item : ItemParts) (goes_on : Bool) → item.number ≡ number → list_name item.number ≡ marker_list item.marker
                  → ((NoBlock ≡ NoBlock → ⊥) → first_marker NoBlock ≡ item.marker)
                  → IsOfList (InContainer (bare_container (Item item)) goes_on) (innermost (forest_in text w.out).outer)) (sym walk) first;
            })
        | inr past ↦ absurd past
      ]

-- ---- the item

-- what is known of the item, and of those after it
pub record TakesPlace (place : ItemPlace) (old new : List ItemPlace) : Type 0 where
  pub goes_on : place.goes_on ≡ next_goes_on (reverse old)
  pub others : reverse new ≡ other_places (reverse old)

pub takes_some : (place : ItemPlace) (old new : List ItemPlace) → old ≡ new ++ place ∷ [] → TakesPlace place old new
takes_some place old new is =
    let turned : reverse old ≡ place ∷ reverse new = ap reverse is ∙ reverse_push new place in
    record { goes_on = sym (ap next_goes_on turned); others = sym (ap other_places turned) }

pub takes_none : (place : ItemPlace) (old new : List ItemPlace) → old ≡ [] → new ≡ [] → place.goes_on ≡ false → TakesPlace place old new
takes_none place old new none left last = record {
  goes_on = last ∙ sym (ap (λ (ps : List ItemPlace). next_goes_on (reverse ps)) none);
  others = ap reverse left ∙ sym (ap (λ (ps : List ItemPlace). other_places (reverse ps)) none);
}

pub place_taken : (popped : Option ItemPlace) (IsDefault : ItemPlace → Type 0) (place : ItemPlace) (old new : List ItemPlace) (len left : ℕ)
    → old ≡ new ++ option_to_list popped → MatchOption popped ((len ≡ 0) × (left ≡ 0)) (λ p. left + 1 ≡ len) → new ≡ take (len - 1) old
    → UnwrapsOrElse popped IsDefault place → (IsDefault place → place.goes_on ≡ false) → TakesPlace place old new
place_taken None IsDefault place old new len left is sizes rest unwraps last =
    let none : new ≡ [] = rest ∙ ap (λ (k : ℕ). take (k - 1) old) sizes.0 in
    takes_none place old new (is ∙ append-nil new ∙ none) none (last unwraps)
place_taken (Some p) IsDefault place old new len left is sizes rest unwraps last =
    takes_some place old new (is ∙ ap (λ (x : ItemPlace). new ++ x ∷ []) (sym unwraps))

-- by which row an item starts
abbrev is_item_row : BlockRow → Bool
is_item_row (EnterItem marker number) = true
is_item_row row = false

abbrev number_in : BlockRow → Option ℕ
number_in (EnterItem marker number) = number
number_in row = None

abbrev marker_in : BlockRow → ℕ
marker_in (EnterItem marker number) = marker
marker_in row = 0

item_row : (c : Container) (marker : ℕ) (number : Option ℕ) → EnterItem marker number ≡ start_row c
    → (item : ItemParts) × (c ≡ Item item) × (item.number ≡ number) × (item.marker ≡ marker)
item_row Quote marker number is = absurd (true≢false (ap is_item_row is))
item_row (Item item) marker number is = (item, refl, sym (ap number_in is), sym (ap marker_in is))
item_row (Footnote label) marker number is = absurd (true≢false (ap is_item_row is))

module _ {A : Type 0} where
  listed_placed : (r : Reading) (text : List ℕ) (front : Nodes) (o : Opened) (places : List ItemPlace) (outer : List Container) (here : LineRest)
      (left : List LineRest) (w : Walk A) → IsListed r text front o outer here left w
      → IsListed r text front (opened o.kids o.outer places) outer here left w
  listed_placed r text front o places outer here left w was = record {
    constructs = was.constructs;
    around = was.around;
    same = was.same;
    order = was.order;
    stands = was.stands;
    in_list = was.in_list;
    written = was.written;
    fits = was.fits;
    bare = was.bare;
    spells = record { kids = was.spells.kids; around = was.spells.around; fill = was.spells.fill };
  }

  written_before : (o : Opened) (w : Walk A) → (IsWrittenToRest w × IsBegun o) ⊎ ((written_to w ≡ bare_end w) × (o.kids ≡ NoBlock)) → IsWrittenToStart w
  written_before o w (inl rest) = inl rest.0
  written_before o w (inr bare) = inr bare.0

  -- an item is open
  pub record OpensItem (place : ItemPlace) (old new : Parser A) : Type 0 where
    pub lists : new.open.items ≡ old.open.items ++ held.Item ∷ []
    pub items : new.items.items ≡ old.items.items ++ place ∷ []
    pub places : new.places.items ≡ old.places.items
    pub first : new.first ≡ true

  item_stands : (r : Reading) (text : List ℕ) (front : Nodes) (o : Opened) (item : ItemParts) (outer inner : List Container) (here : LineRest) (left : List LineRest)
      (to : Place) (number : Option ℕ) (list : Held) (old listing new : Parser A) (place : ItemPlace) (places : List ItemPlace) (starts : Bool) → item.number ≡ number
      → opened_name list ≡ list_name number → TakesPlace place old.places.items places → BeginsList list old listing
      → listing.items.items ≡ old.items.items → listing.places.items ≡ places
      → StartsOf is_item_kind (standing listing.walk) starts (standing new.walk) → WritesStartOf is_item_kind n.ListItem listing.walk new.walk
      → (starts ≡ true → OpensItem place listing new) → Starts r.parse.constructs outer (Item item) (Within here left) to
      → Stands r text front o outer (Within here left) old.walk → inner ≡ Item item ∷ outer → KnowsLists old.open.items o.outer
      → KnowsItems old.items.items (which_go_on o.outer) → reverse old.places.items ≡ o.places
      → list_name item.number ≡ marker_list item.marker → (is_in_list o.outer ≡ true → first_marker o.kids ≡ item.marker)
      → IsParsing r text front (item_begun (bare_container (Item item)) (in_list o)) inner to new
  item_stands r text front o item outer inner here left to number list old listing new place places starts same name takes begins items_kept places_are starts_of writes
      opens laid was inside lists items known alike marked =
      let q = in_list o in
      let goes_on = next_goes_on q.places in
      let o2 = opened q.kids q.outer (other_places q.places) in
      let h = InContainer (bare_container (Item item)) goes_on in
      let there = line_rest laid.2.rest (beside_in laid.2.before laid.0.beside) in
      let listing_is = begins r text front o outer here left number name was lists in
      let listed = listed_placed r text front q (other_places q.places) outer here left listing.walk listing_is.listed in
      let here_laid : Starts listing.walk.on.now (around (standing listing.walk)) (Item item) (Within here left) to =
      subst (λ (on : Constructs). Starts on (around (standing listing.walk)) (Item item) (Within here left) to) (sym listed.constructs) (
      subst (λ (cs : List Container). Starts r.parse.constructs cs (Item item) (Within here left) to) (sym listed.around) laid) in
      let steps = starts_of text (Item item) here left to refl listed.stands here_laid in
      let opens_one = opens steps.0 in
      let written = writes text (Item item) here left to refl listed.stands here_laid (written_before o2 listing.walk listed.written) listed.order in
      let places_same : q.places ≡ reverse old.places.items = in_list_places (is_in_list o.outer) o ∙ sym known in
      let stands : Stands r text front (within h o2) (Item item ∷ outer) (Within there laid.1) new.walk =
      item_starts r text front (always_go_on r text front) o2 outer item goes_on here there left laid.1 listing.walk new.walk listed
      (listing_is.of_list item goes_on same alike (in_list_marked (is_in_list o.outer) o item.marker marked))
      written.0 written.0.nothing written.1 (subst (λ (x : Place). StandsAt text x (standing new.walk)) laid.6 steps.1) steps.2 steps.3 in
      record {
        stands = stands_there r text front (within h o2) (Item item ∷ outer) inner (Within there laid.1) to new.walk inside laid.6 stands;
        lists =
            subst (λ (os : List Held). KnowsLists os (level h q.kids ∷ q.outer)) (sym opens_one.lists) (
            lists_more listing.open.items held.Item (level h q.kids) q.outer refl listing_is.lists);
        items =
            subst (λ (ps : List ItemPlace). KnowsItems ps (goes_on ∷ which_go_on q.outer)) (sym opens_one.items) (
            subst (λ (b : Bool). KnowsItems (listing.items.items ++ place ∷ []) (b ∷ which_go_on q.outer)) (takes.goes_on ∙ ap next_goes_on (sym places_same)) (
            items_more listing.items.items place (which_go_on q.outer) (
            subst (λ (ps : List ItemPlace). KnowsItems ps (which_go_on q.outer)) (sym items_kept) (
            subst (λ (bs : List Bool). KnowsItems old.items.items bs) (sym (in_list_go_on (is_in_list o.outer) o)) items))));
        places = ap reverse (opens_one.places ∙ places_are) ∙ takes.others ∙ ap other_places (sym places_same);
        first = opens_one.first;
      }

  item_goes_on : (list : Held) (old listing new : Parser A) (place : ItemPlace) (places : List ItemPlace) (starts : Bool) (r : Reading) (marker : ℕ) (number : Option ℕ)
      → opened_name list ≡ list_name number → TakesPlace place old.places.items places → BeginsList list old listing
      → listing.items.items ≡ old.items.items → listing.places.items ≡ places
      → StartsOf is_item_kind (standing listing.walk) starts (standing new.walk) → WritesStartOf is_item_kind n.ListItem listing.walk new.walk
      → (starts ≡ true → OpensItem place listing new) → GoesOnInLine r (EnterItem marker number) old new
  item_goes_on list old listing new place places starts r marker number name takes begins items_kept places_are starts_of writes opens text front o outer inner p to
      in_line next was =
      let c = next.laid.0 in
      let is = item_row c marker number next.laid.1 in
      let item = is.0 in
      let laid : Starts r.parse.constructs outer (Item item) p to = subst (λ (x : Container). Starts r.parse.constructs outer x p to) is.1 next.laid.3 in
      let at = started_on r.parse.constructs outer (Item item) p to in_line laid in
      let here = at.0 in
      let left = at.1 in
      let laid_here : Starts r.parse.constructs outer (Item item) (Within here left) to =
      subst (λ (q : Place). Starts r.parse.constructs outer (Item item) q to) at.2 laid in
      let stands : Stands r text front o outer (Within here left) old.walk = subst (λ (q : Place). Stands r text front o outer q old.walk) at.2 was.stands in
      let inside : inner ≡ Item item ∷ outer = next.laid.2 ∙ ap (λ (x : Container). x ∷ outer) is.1 in
      let row : start_row (Item item) ≡ EnterItem marker number = sym (next.laid.1 ∙ ap start_row is.1) in
      subst (λ (b : BlockRow). IsParsing r text front (after_row o b) inner to new) row (
      item_stands r text front o item outer inner here left to number list old listing new place places starts is.2 name takes begins items_kept places_are starts_of
      writes opens laid_here stands inside was.lists was.items was.places
      (subst IsMarkedAlike (sym laid_here.5) (marked_alike r.parse.constructs false laid_here.0.rest laid_here.2 laid_here.4))
      (λ in_list. next.fits in_list ∙ sym is.3))

  -- if its start is written, it is open
  opens_item : (starts : Bool) (place : ItemPlace) (listing started new : Parser A) → started.open.items ≡ listing.open.items
      → started.items.items ≡ listing.items.items ++ place ∷ [] → started.places.items ≡ listing.places.items → started.first ≡ true
      → OpensIf starts held.Item started new → starts ≡ true → OpensItem place listing new
  opens_item starts place listing started new lists items places first opens is = record {
    lists = opens.lists ∙ ap₂ (λ (b : Bool) (os : List Held). more_if b held.Item os) is lists;
    items = opens.items ∙ items;
    places = opens.places ∙ places;
    first = opens.first ∙ first;
  }

  -- if the calls succeed
  pub item_started : {T E : Type 0} (result : Result T E) (list : Held) (old listing started new : Parser A) (place : ItemPlace) (places : List ItemPlace)
      (starts : Bool) → started.open.items ≡ listing.open.items → started.items.items ≡ listing.items.items ++ place ∷ []
      → started.places.items ≡ listing.places.items → started.first ≡ true → TakesPlace place old.places.items places → BeginsList list old listing
      → listing.items.items ≡ old.items.items → listing.places.items ≡ places
      → StartsOf is_item_kind (standing listing.walk) starts (standing started.walk) → WritesStartOf is_item_kind n.ListItem listing.walk started.walk
      → OnOk result (OpensIf starts held.Item started new)
      → OnOk result ((r : Reading) (marker : ℕ) (number : Option ℕ) → opened_name list ≡ list_name number → GoesOnInLine r (EnterItem marker number) old new)
  item_started (Ok x) list old listing started new place places starts lists items places_same first takes begins items_kept places_are starts_of writes opens =
      λ r marker number name.
      item_goes_on list old listing new place places starts r marker number name takes begins items_kept places_are
      (subst (λ (v : Walk A). StartsOf is_item_kind (standing listing.walk) starts (standing v)) (sym opens.walk) starts_of)
      (subst (λ (v : Walk A). WritesStartOf is_item_kind n.ListItem listing.walk v) (sym opens.walk) writes)
      (opens_item starts place listing started new lists items places_same first opens)
  item_started (Err e) list old listing started new place places starts lists items places_same first takes begins items_kept places_are starts_of writes opens = tt
