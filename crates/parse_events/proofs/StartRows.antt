-- A parser stands after the start of a container, if that is written.
use Rattle.std.proofs.Common.{◌≡◌, inl, inr, ℕ, Bool, true, false, List, [], ◌∷◌, ◌++◌, refl, sym, ap, ◌∙◌, subst, reverse}
use Rattle.parse_events.proofs.Prelude.{always_go_on, around, AtEnding, bare_container, beside_in, Between, BlockRow, Constructs, Container}
use Rattle.parse_events.proofs.Prelude.{ends_in_list, EnterFootnote, EnterQuote, Err, Footnote, GoesOnInLine, Held, holder_standing, InContainer, is_in_line}
use Rattle.parse_events.proofs.Prelude.{is_in_list, is_item, is_list, IsNamed, IsOfList, IsParsing, Item, ItemPlace, KnowsItems, KnowsLists, level}
use Rattle.parse_events.proofs.Prelude.{Level, line_rest, LineRest, more_if, Name, Nodes, Ok, OnOk, Opened, OpensIf, Parser, Place, Quote, Reading, Result}
use Rattle.parse_events.proofs.Prelude.{standing, Stands, StandsAt, start_row, Starts, StartsOf, true≢false, Walk, which_go_on, Within, within, WritesStartOf}
use Rattle.engine_events.specs.declared.event.Name.TheVariants as n
use Rattle.parse_lines.specs.Kinds.{is_footnote}
use Rattle.parse_laid.specs.EmptyRests.{is_quote}
use Rattle.parse_events.specs.declared.opened.Opened.TheVariants as held
use Rattle.parse_events.specs.Parsing.{holder_goes_on}
use Rattle.parse_events.proofs.Kept.{ends_in, lists_more, stands_there}
use Rattle.parse_events.proofs.Starts.{container_starts}

-- the lists in which no item is are left: there is none
pub record LeavesLists {A : Type 0} (old new : Parser A) : Type 0 where
  pub walk : new.walk ≡ old.walk
  pub lists : new.open.items ≡ old.open.items
  pub items : new.items.items ≡ old.items.items
  pub places : new.places.items ≡ old.places.items
  pub first : new.first ≡ false

-- one more is open
pub record OpensOne {A : Type 0} (o : Held) (old new : Parser A) : Type 0 where
  pub lists : new.open.items ≡ old.open.items ++ o ∷ []
  pub items : new.items.items ≡ old.items.items
  pub places : new.places.items ≡ old.places.items
  pub first : new.first ≡ old.first

-- what is known of a container that isn't an item
record IsOther (r : Reading) (text : List ℕ) (front : Nodes) (c : Container) (o : Held) (name : Name) : Type 0 where
  stands : is_item (InContainer (bare_container c) false) ≡ false
  is : IsNamed (InContainer (bare_container c) false) name
  of_list : (list : Name) → IsOfList (InContainer (bare_container c) false) list
  go_on : holder_goes_on (InContainer (bare_container c) false) ≡ []
  first : (holder_standing (InContainer (bare_container c) false)).first ≡ false
  list : is_list o ≡ false

-- which container starts by a row
abbrev is_quote_row : BlockRow → Bool
is_quote_row EnterQuote = true
is_quote_row row = false

abbrev is_footnote_row : BlockRow → Bool
is_footnote_row (EnterFootnote label) = true
is_footnote_row row = false

abbrev label_in : BlockRow → List ℕ
label_in (EnterFootnote label) = label
label_in row = []

quote_row : (c : Container) → EnterQuote ≡ start_row c → c ≡ Quote
quote_row Quote is = refl
quote_row (Item item) is = absurd (true≢false (ap is_quote_row is))
quote_row (Footnote label) is = absurd (true≢false (ap is_quote_row is))

footnote_row : (c : Container) (label : List ℕ) → EnterFootnote label ≡ start_row c → c ≡ Footnote label
footnote_row Quote label is = absurd (true≢false (ap is_footnote_row is))
footnote_row (Item item) label is = absurd (true≢false (ap is_footnote_row is))
footnote_row (Footnote other) label is = ap Footnote (sym (ap label_in is))

-- a place in a line on which a container starts
pub started_on : (on : Constructs) (outer : List Container) (c : Container) (p to : Place) → is_in_line p ≡ true → Starts on outer c p to
    → (here : LineRest) × (left : List LineRest) × (p ≡ Within here left)
started_on on outer c (Between left) to in_line starts = absurd (true≢false (sym in_line))
started_on on outer c (AtEnding ending left) to in_line starts = absurd starts.3
started_on on outer c (Within here left) to in_line starts = (here, left, refl)

module _ {A : Type 0} where
  pub lists_left : (old mid : Parser A) (levels : List Level) → (ends_in_list old.open.items ≡ false → mid ≡ record old { first = false })
      → KnowsLists old.open.items levels → is_in_list levels ≡ false → LeavesLists old mid
  lists_left old mid levels stays knows none =
      subst (λ (x : Parser A). LeavesLists old x) (sym (stays (ends_in old.open.items levels knows ∙ none)))
      (record { walk = refl; lists = refl; items = refl; places = refl; first = refl })

  -- where a container starts, a walk that starts it stands after it
  pub starts_stand : (r : Reading) (text : List ℕ) (front : Nodes) (o : Opened) (c : Container) (outer : List Container) (here : LineRest) (left : List LineRest)
      (to : Place) (is_kind : Container → Bool) (starts : Bool) (old new : Walk A) → Stands r text front o outer (Within here left) old
      → Starts r.parse.constructs outer c (Within here left) to → is_kind c ≡ true → StartsOf is_kind (standing old) starts (standing new)
      → Starts old.on.now (around (standing old)) c (Within here left) to × ((starts ≡ true) × StandsAt text to (standing new)
      × (around (standing new) ≡ c ∷ around (standing old)) × (new.on.now ≡ old.on.now))
  starts_stand r text front o c outer here left to is_kind starts old new was laid kind begins =
      let there : Starts old.on.now (around (standing old)) c (Within here left) to =
      subst (λ (on : Constructs). Starts on (around (standing old)) c (Within here left) to) (sym was.constructs) (
      subst (λ (cs : List Container). Starts r.parse.constructs cs c (Within here left) to) (sym was.around) laid) in
      elim was.at [
        | inl at ↦ (there, begins text c here left to kind at.0 there)
        | inr past ↦ absurd past
      ]

  -- a quote or a footnote definition begins
  module _ (r : Reading) (text : List ℕ) (front : Nodes) where
    started : (o : Opened) (c : Container) (one : Held) (outer inner : List Container) (here : LineRest) (left : List LineRest) (to : Place)
        (is_kind : Container → Bool) (name : Name) (starts : Bool) (old mid new : Parser A) → IsOther r text front c one name → is_kind c ≡ true
        → is_in_list o.outer ≡ false → inner ≡ c ∷ outer → Starts r.parse.constructs outer c (Within here left) to
        → IsParsing r text front o outer (Within here left) old → LeavesLists old mid → StartsOf is_kind (standing mid.walk) starts (standing new.walk)
        → WritesStartOf is_kind name mid.walk new.walk → (starts ≡ true → OpensOne one mid new)
        → IsParsing r text front (within (InContainer (bare_container c) false) o) inner to new
    started o c one outer inner here left to is_kind name starts old mid new other kind none inside laid was leaves begins writes opens =
        let walk : Stands r text front o outer (Within here left) mid.walk =
        subst (λ (w : Walk A). Stands r text front o outer (Within here left) w) (sym leaves.walk) was.stands in
        let steps = starts_stand r text front o c outer here left to is_kind starts mid.walk new.walk walk laid kind begins in
        let opened = opens steps.1.0 in
        let there = line_rest laid.2.rest (beside_in laid.2.before laid.0.beside) in
        let stands : Stands r text front (within (InContainer (bare_container c) false) o) (c ∷ outer) (Within there laid.1) new.walk =
        elim walk.at [
          | inl at ↦
              let written = writes text c here left to kind at.0 steps.0 (inl at.1) walk.order in
              container_starts r text front (always_go_on r text front) o outer c false here there left laid.1 name mid.walk new.walk (none ∙ sym other.stands) other.is
              (other.of_list _) walk written.0 written.1 (subst (λ (q : Place). StandsAt text q (standing new.walk)) laid.6 steps.1.1) steps.1.2 steps.1.3
          | inr past ↦ absurd past
        ] in
        record {
          stands = stands_there r text front (within (InContainer (bare_container c) false) o) (c ∷ outer) inner (Within there laid.1) to new.walk inside laid.6 stands;
          lists =
              subst (λ (os : List Held). KnowsLists os (level (InContainer (bare_container c) false) o.kids ∷ o.outer)) (sym opened.lists) (
              lists_more mid.open.items one (level (InContainer (bare_container c) false) o.kids) o.outer other.list (
              subst (λ (os : List Held). KnowsLists os o.outer) (sym leaves.lists) was.lists));
          items =
              subst (λ (bs : List Bool). KnowsItems new.items.items (bs ++ which_go_on o.outer)) (sym other.go_on) (
              subst (λ (ps : List ItemPlace). KnowsItems ps (which_go_on o.outer)) (sym (opened.items ∙ leaves.items)) was.items);
          places = ap reverse (opened.places ∙ leaves.places) ∙ was.places;
          first = opened.first ∙ leaves.first ∙ sym other.first;
        }

  quote_goes_on : (old mid new : Parser A) (starts : Bool) (r : Reading) → (ends_in_list old.open.items ≡ false → mid ≡ record old { first = false })
      → StartsOf is_quote (standing mid.walk) starts (standing new.walk) → WritesStartOf is_quote n.BlockQuote mid.walk new.walk
      → (starts ≡ true → OpensOne held.Quote mid new) → GoesOnInLine r EnterQuote old new
  quote_goes_on old mid new starts r stays begins writes opens text front o outer inner p to in_line next was =
      let is = quote_row next.laid.0 next.laid.1 in
      let laid : Starts r.parse.constructs outer Quote p to = subst (λ (c : Container). Starts r.parse.constructs outer c p to) is next.laid.3 in
      let at = started_on r.parse.constructs outer Quote p to in_line laid in
      started r text front o Quote held.Quote outer inner at.0 at.1 to is_quote n.BlockQuote starts old mid new
      (record { stands = refl; is = refl; of_list = λ list. tt; go_on = refl; first = refl; list = refl }) refl next.fits
      (next.laid.2 ∙ ap (λ (c : Container). c ∷ outer) is) (subst (λ (q : Place). Starts r.parse.constructs outer Quote q to) at.2 laid)
      (subst (λ (q : Place). IsParsing r text front o outer q old) at.2 was) (lists_left old mid o.outer stays was.lists next.fits) begins writes opens

  footnote_goes_on : (old mid new : Parser A) (starts : Bool) (r : Reading) (label : List ℕ)
      → (ends_in_list old.open.items ≡ false → mid ≡ record old { first = false })
      → StartsOf is_footnote (standing mid.walk) starts (standing new.walk) → WritesStartOf is_footnote n.GfmFootnoteDefinition mid.walk new.walk
      → (starts ≡ true → OpensOne held.Footnote mid new) → GoesOnInLine r (EnterFootnote label) old new
  footnote_goes_on old mid new starts r label stays begins writes opens text front o outer inner p to in_line next was =
      let is = footnote_row next.laid.0 label next.laid.1 in
      let laid : Starts r.parse.constructs outer (Footnote label) p to = subst (λ (c : Container). Starts r.parse.constructs outer c p to) is next.laid.3 in
      let at = started_on r.parse.constructs outer (Footnote label) p to in_line laid in
      started r text front o (Footnote label) held.Footnote outer inner at.0 at.1 to is_footnote n.GfmFootnoteDefinition starts old mid new
      (record { stands = refl; is = refl; of_list = λ list. tt; go_on = refl; first = refl; list = refl }) refl next.fits
      (next.laid.2 ∙ ap (λ (c : Container). c ∷ outer) is) (subst (λ (q : Place). Starts r.parse.constructs outer (Footnote label) q to) at.2 laid)
      (subst (λ (q : Place). IsParsing r text front o outer q old) at.2 was) (lists_left old mid o.outer stays was.lists next.fits) begins writes opens

  -- if its start is written, it is open
  pub opens_one : (o : Held) (starts : Bool) (mid new : Parser A) (w : Walk A) → OpensIf starts o (record mid { walk = w }) new → starts ≡ true
      → OpensOne o mid new
  opens_one o starts mid new w opens is = record {
    lists = opens.lists ∙ ap (λ (b : Bool). more_if b o mid.open.items) is;
    items = opens.items;
    places = opens.places;
    first = opens.first;
  }

  -- if the calls succeed
  pub quote_started : {T E : Type 0} (result : Result T E) (old mid new : Parser A) (w : Walk A) (starts : Bool)
      → (ends_in_list old.open.items ≡ false → mid ≡ record old { first = false }) → StartsOf is_quote (standing mid.walk) starts (standing w)
      → WritesStartOf is_quote n.BlockQuote mid.walk w → OnOk result (OpensIf starts held.Quote (record mid { walk = w }) new)
      → OnOk result ((r : Reading) → GoesOnInLine r EnterQuote old new)
  quote_started (Ok x) old mid new w starts stays begins writes opens = λ r.
      quote_goes_on old mid new starts r stays (subst (λ (v : Walk A). StartsOf is_quote (standing mid.walk) starts (standing v)) (sym opens.walk) begins)
      (subst (λ (v : Walk A). WritesStartOf is_quote n.BlockQuote mid.walk v) (sym opens.walk) writes) (opens_one held.Quote starts mid new w opens)
  quote_started (Err e) old mid new w starts stays begins writes opens = tt

  pub footnote_started : {T E : Type 0} (result : Result T E) (old mid new : Parser A) (w : Walk A) (starts : Bool)
      → (ends_in_list old.open.items ≡ false → mid ≡ record old { first = false }) → StartsOf is_footnote (standing mid.walk) starts (standing w)
      → WritesStartOf is_footnote n.GfmFootnoteDefinition mid.walk w → OnOk result (OpensIf starts held.Footnote (record mid { walk = w }) new)
      → OnOk result ((r : Reading) (label : List ℕ) → GoesOnInLine r (EnterFootnote label) old new)
  footnote_started (Ok x) old mid new w starts stays begins writes opens = λ r label.
      footnote_goes_on old mid new starts r label stays
      (subst (λ (v : Walk A). StartsOf is_footnote (standing mid.walk) starts (standing v)) (sym opens.walk) begins)
      (subst (λ (v : Walk A). WritesStartOf is_footnote n.GfmFootnoteDefinition mid.walk v) (sym opens.walk) writes)
      (opens_one held.Footnote starts mid new w opens)
  footnote_started (Err e) old mid new w starts stays begins writes opens = tt
