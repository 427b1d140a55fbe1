-- The rows of blocks lead to the blocks, put into lists.
use Rattle.std.proofs.Common.{◌≡◌, ◌≤◌, ℕ, Bool, true, false, ◌==◌, List, [], ◌∷◌, ◌++◌, refl, sym, ap, subst, ◌∙◌, append_assoc}
use Rattle.parse_open.proofs.Prelude.{after_endings, append-nil, bare_blocks, Blank, Block, Blocks, Container, Ending, Footnote, group_items, has_gap, Holds}
use Rattle.parse_open.proofs.Prelude.{if◌then◌else◌, InContainer, InList, is_in_list, Item, ItemParts, Items, join, Leaf, level, Level, list_marker, Opened}
use Rattle.parse_open.proofs.Prelude.{eqb-true, item_marker, opened, Place, Quote, spaced_leaf, true≢false}
use Rattle.definition_block.specs.Tree.{Nil, Cons, one}
use Rattle.block_rows.specs.Rows.{BlockRow, Exit, rows_of}
use Rattle.block_state.proofs.Trees.{join-assoc, join-nil}
use Rattle.html_looseness.specs.Loose.{PassView, place_at, places_of}
use Rattle.html_looseness.specs.Printable.{CanBePrinted}
use Rattle.html_looseness.proofs.Ahead.{ahead_of, after_list, before_item_is, list_ahead, listed, no_marker}
use Rattle.html_looseness.proofs.BlockPlaces.{blocks_passed, places_within}
use Rattle.html_looseness.proofs.ListPlaces.{next_marker}
use Rattle.parse_open.specs.BlockLaws.{RowsLeadToBlocks}
use Rattle.parse_open.specs.Open.{within, bare_item, first_marker, item_begun}
use Rattle.parse_open.specs.Open.{container_end}
use Rattle.parse_open.specs.Open.{list_end, ends_list, LeadTo}
use Rattle.parse_open.proofs.Bare.{bare_groups, bare_marker}

-- blocks as their rows have them, put into lists
abbrev pub grouped : Blocks → Blocks
grouped bs = group_items (bare_blocks bs)

-- the rows of blocks lead on from where no list is open
abbrev LeadOn : Blocks → Type 0
LeadOn bs =
    (kids : Blocks) (outer : List Level) (places : List Place) (rows : List BlockRow) (all : Blocks) → is_in_list outer ≡ false
    → LeadTo (opened (join kids (grouped bs)) outer places) rows all
    → LeadTo (opened kids outer (places_within bs ++ places)) (rows_of bs ++ rows) all

-- the rows of blocks lead on from within a list, whose next item is the first of these that is no ending
abbrev LeadOutOfList : Blocks → Type 0
LeadOutOfList bs =
    (items before : Blocks) (outer : List Level) (places : List Place) (rows : List BlockRow) (all : Blocks) → is_in_list outer ≡ false
    → 1 ≤ list_marker (after_endings (grouped bs)) → first_marker items ≡ list_marker (after_endings (grouped bs))
    → LeadTo (opened (join before (Cons (Items (join items (list_ahead (grouped bs)))) (after_list (grouped bs)))) outer places) rows all
    → LeadTo (opened items (level InList before ∷ outer) (places_within bs ++ places)) (rows_of bs ++ rows) all

-- the first of some items is still the first before more
first_more : (items more : Blocks) → 1 ≤ first_marker items → first_marker (join items more) ≡ first_marker items
first_more Nil more some = absurd (no_marker some)
first_more (Cons b items) more some = refl

-- the marker of a list that begins with an item is the item's
listed_marker : (t : Bool) (item : Block) (gs : Blocks) → list_marker (after_endings (listed t item gs)) ≡ item_marker item
listed_marker true item gs = refl
listed_marker false item gs = refl

-- what leads on from other states, places and rows that are the same
leads_by : (o p : Opened) (rows others : List BlockRow) (all : Blocks) → o ≡ p → rows ≡ others → LeadTo o rows all → LeadTo p others all
leads_by o p rows others all same same_rows h = subst (λ rs. LeadTo p rs all) same_rows (subst (λ q. LeadTo q rows all) same h)

-- ---- in a container

in_container : (kids : Blocks) → LeadOn kids → (c : Container) (goes_on : Bool) (before : Blocks) (outer : List Level) (places : List Place)
    (rows : List BlockRow) (all : Blocks) → LeadTo (container_end (grouped kids) (level (InContainer c goes_on) before ∷ outer) places) rows all
    → LeadTo (opened Nil (level (InContainer c goes_on) before ∷ outer) (places_within kids ++ places)) (rows_of kids ++ (Exit ∷ rows)) all
in_container kids h c goes_on before outer places rows all k =
    h Nil (level (InContainer c goes_on) before ∷ outer) places (Exit ∷ rows) all refl (refl, k)

-- the rows of a container's children, its end, and more
rows_inside : (inner rows more : List BlockRow) → inner ++ (Exit ∷ (rows ++ more)) ≡ ((inner ++ Exit ∷ []) ++ rows) ++ more
rows_inside inner rows more = simp append_assoc

-- ---- an item in a list

module _ (item : ItemParts) (kids bs : Blocks) (some : 1 ≤ item.marker) where
  abbrev own : Block
  own = Holds (bare_item item.marker item.number) (grouped kids)

  -- whether the next item is in the same list
  abbrev goes_on : Bool
  goes_on = list_marker (after_endings (grouped bs)) == item.marker

  abbrev all_of : Blocks
  all_of = grouped (Cons (Holds (Item item) kids) bs)

  listed_is : all_of ≡ listed goes_on own (grouped bs)
  listed_is = before_item_is (record { marker = item.marker; number = item.number; size = 0 }) (grouped kids) (grouped bs) some

  -- items, and this one: they have its marker
  abbrev HaveMarker : Blocks → Type 0
  HaveMarker items = first_marker (join items (one own)) ≡ item.marker

  own_marker : list_marker (after_endings all_of) ≡ item.marker
  own_marker = ap (λ gs. list_marker (after_endings gs)) listed_is ∙ listed_marker goes_on own (grouped bs)

  -- the items before it have it, too
  marked_by : (items : Blocks) → 1 ≤ list_marker (after_endings all_of) → first_marker items ≡ list_marker (after_endings all_of) → HaveMarker items
  marked_by items next same = first_more items (one own) (subst (λ n. 1 ≤ n) (sym same) next) ∙ same ∙ own_marker

  list_is : Cons (Items (list_ahead all_of)) (after_list all_of) ≡ all_of
  list_is = ap (λ gs. Cons (Items (list_ahead gs)) (after_list gs)) listed_is ∙ sym listed_is

  after_item : (items before : Blocks) (outer : List Level) (places : List Place) (rows : List BlockRow) (all : Blocks) → is_in_list outer ≡ false
      → HaveMarker items → LeadOn bs → LeadOutOfList bs → (t : Bool) → goes_on ≡ t
      → LeadTo
      (opened (join before (Cons (Items (join items (list_ahead (listed t own (grouped bs))))) (after_list (listed t own (grouped bs))))) outer places) rows all
      → LeadTo (container_end (grouped kids) (level (InContainer (bare_item item.marker item.number) t) items ∷ level InList before ∷ outer)
      (places_within bs ++ places)) (rows_of bs ++ rows) all
  after_item items before outer places rows all free own_is on out false is h =
      on (join before (one (Items (join items (one own))))) outer places rows all free
      (subst (λ xs. LeadTo (opened xs outer places) rows all) (sym (join-assoc before (one (Items (join items (one own)))) (grouped bs))) h)
  after_item items before outer places rows all free own_is on out true is h =
      out (join items (one own)) before outer places rows all free (next_marker item (grouped bs) some is)
      (own_is ∙ sym (eqb-true (list_marker (after_endings (grouped bs))) item.marker is))
      (subst (λ xs. LeadTo (opened (join before (Cons (Items xs) (after_list (grouped bs)))) outer places) rows all)
      (sym (join-assoc items (one own) (list_ahead (grouped bs)))) h)

  -- the place of the item says whether the list goes on
  abbrev place : Place
  place = place_at (ahead_of (group_items bs)) item.marker (has_gap (group_items kids))

  same_goes_on : place.goes_on ≡ goes_on
  same_goes_on = ap (λ (m : ℕ). m == item.marker) (sym (bare_marker (group_items bs)) ∙ ap (λ gs. list_marker (after_endings gs)) (bare_groups bs))

  item_in_list : LeadOn kids → LeadOn bs → LeadOutOfList bs → (items before : Blocks) (outer : List Level) (places : List Place) (rows : List BlockRow)
      (all : Blocks) → is_in_list outer ≡ false → HaveMarker items
      → LeadTo (opened (join before (Cons (Items (join items (list_ahead all_of))) (after_list all_of))) outer places) rows all
      → LeadTo (item_begun (bare_item item.marker item.number)
      (opened items (level InList before ∷ outer) (((place ∷ places_within kids) ++ places_within bs) ++ places)))
      (((rows_of kids ++ Exit ∷ []) ++ rows_of bs) ++ rows) all
  item_in_list inner on out items before outer places rows all free own_is h =
      let c = bare_item item.marker item.number in
      let around = λ (t : Bool). level (InContainer c t) items ∷ level InList before ∷ outer in
      let more = λ (gs : Blocks). opened (join before (Cons (Items (join items (list_ahead gs))) (after_list gs))) outer places in
      let begun = in_container kids inner c goes_on items (level InList before ∷ outer) (places_within bs ++ places) (rows_of bs ++ rows) all
      (after_item items before outer places rows all free own_is on out goes_on refl (subst (λ gs. LeadTo (more gs) rows all) listed_is h)) in
      leads_by (opened Nil (around goes_on) (places_within kids ++ (places_within bs ++ places)))
      (opened Nil (around place.goes_on) ((places_within kids ++ places_within bs) ++ places)) _ _ all
      (ap (λ t. opened Nil (around t) (places_within kids ++ (places_within bs ++ places))) (sym same_goes_on)
      ∙ ap (opened Nil (around place.goes_on)) (sym (append_assoc (places_within kids) (places_within bs) places)))
      (rows_inside (rows_of kids) (rows_of bs) rows)
      begun

-- ---- one more block

-- a block that is one row
single_on : (b : Block) (bs : Blocks) → LeadOn bs → (kids : Blocks) (outer : List Level) (places : List Place) (rows : List BlockRow) (all : Blocks)
    → is_in_list outer ≡ false → LeadTo (opened (join kids (Cons b (grouped bs))) outer places) rows all
    → LeadTo (opened (join kids (one b)) outer (places_within bs ++ places)) (rows_of bs ++ rows) all
single_on b bs on kids outer places rows all free h =
    on (join kids (one b)) outer places rows all free
    (subst (λ xs. LeadTo (opened xs outer places) rows all) (sym (join-assoc kids (one b) (grouped bs))) h)

-- a container that is no item
held_on : (c : Container) (kids bs : Blocks) → ends_list c false ≡ false → LeadOn kids → LeadOn bs
    → (before : Blocks) (outer : List Level) (places : List Place) (rows : List BlockRow) (all : Blocks)
    → is_in_list outer ≡ false → LeadTo (opened (join before (Cons (Holds c (grouped kids)) (grouped bs))) outer places) rows all
    → LeadTo (opened Nil (level (InContainer c false) before ∷ outer) ((places_within kids ++ places_within bs) ++ places))
    (((rows_of kids ++ Exit ∷ []) ++ rows_of bs) ++ rows) all
held_on c kids bs no_item inner on before outer places rows all free h =
    let more = join before (one (Holds c (grouped kids))) in
    let others = places_within bs ++ places in
    let next = single_on (Holds c (grouped kids)) bs on before outer places rows all free h in
    let ended = subst (λ t. LeadTo (if t then list_end more outer others else opened more outer others) (rows_of bs ++ rows) all) (sym no_item) next in
    leads_by (opened Nil (level (InContainer c false) before ∷ outer) (places_within kids ++ others))
    (opened Nil (level (InContainer c false) before ∷ outer) ((places_within kids ++ places_within bs) ++ places)) _ _ all
    (ap (opened Nil (level (InContainer c false) before ∷ outer)) (sym (append_assoc (places_within kids) (places_within bs) places)))
    (rows_inside (rows_of kids) (rows_of bs) rows)
    (in_container kids inner c false before outer others (rows_of bs ++ rows) all ended)

-- an item where no list is open
item_on : (item : ItemParts) (kids bs : Blocks) → 1 ≤ item.marker → LeadOn kids → LeadOn bs → LeadOutOfList bs → LeadOn (Cons (Holds (Item item) kids) bs)
item_on item kids bs some inner on out before outer places rows all free h =
    let gs = grouped (Cons (Holds (Item item) kids) bs) in
    let around = ((place item kids bs some ∷ places_within kids) ++ places_within bs) ++ places in
    let o = opened before outer around in
    let first = item_in_list item kids bs some inner on out Nil before outer places rows all free refl
    (subst (λ xs. LeadTo (opened (join before xs) outer places) rows all) (sym (list_is item kids bs some)) h) in (
      (λ listed. absurd (true≢false (sym listed ∙ free))),
      subst (λ t.
          LeadTo (item_begun (bare_item item.marker item.number) (if t then o else within InList o)) (((rows_of kids ++ Exit ∷ []) ++ rows_of bs) ++ rows) all)
          (sym free) first,
    )

ending_out : (b : Block) (bs : Blocks) → LeadOutOfList bs → (items before : Blocks) (outer : List Level) (places : List Place) (rows : List BlockRow)
    (all : Blocks)
    → is_in_list outer ≡ false → 1 ≤ list_marker (after_endings (grouped bs)) → first_marker items ≡ list_marker (after_endings (grouped bs))
    → LeadTo (opened (join before (Cons (Items (join items (Cons b (list_ahead (grouped bs))))) (after_list (grouped bs)))) outer places) rows all
    → LeadTo (opened (join items (one b)) (level InList before ∷ outer) (places_within bs ++ places)) (rows_of bs ++ rows) all
ending_out b bs out items before outer places rows all free next same h =
    out (join items (one b)) before outer places rows all free next (first_more items (one b) (subst (λ n. 1 ≤ n) (sym same) next) ∙ same)
    (subst (λ xs. LeadTo (opened (join before (Cons (Items xs) (after_list (grouped bs)))) outer places) rows all)
    (sym (join-assoc items (one b) (list_ahead (grouped bs)))) h)

-- ---- all blocks

mutual
  lead_on : (bs : Blocks) → CanBePrinted bs → LeadOn bs
  lead_on Nil p kids outer places rows all free h = subst (λ xs. LeadTo (opened xs outer places) rows all) (join-nil kids) h
  lead_on (Cons (Leaf leaf) bs) p kids outer places rows all free h =
      ((λ _. free), single_on (Leaf (spaced_leaf leaf)) bs (lead_on bs p.1) kids outer places rows all free h)
  lead_on (Cons (Holds Quote kids) bs) p before outer places rows all free h =
      (free, held_on Quote kids bs refl (lead_on kids p.0.1) (lead_on bs p.1) before outer places rows all free h)
  lead_on (Cons (Holds (Item item) kids) bs) p before outer places rows all free h =
      item_on item kids bs p.0.0 (lead_on kids p.0.1) (lead_on bs p.1) (lead_out bs p.1) before outer places rows all free h
  lead_on (Cons (Holds (Footnote label) kids) bs) p before outer places rows all free h =
      (free, held_on (Footnote label) kids bs refl (lead_on kids p.0.1) (lead_on bs p.1) before outer places rows all free h)
  lead_on (Cons (Items items) bs) p kids outer places rows all free h = absurd p.0
  lead_on (Cons (Ending e) bs) p kids outer places rows all free h =
      ((λ _. free), single_on (Ending e) bs (lead_on bs p.1) kids outer places rows all free h)
  lead_on (Cons (Blank e) bs) p kids outer places rows all free h =
      ((λ _. free), single_on (Blank e) bs (lead_on bs p.1) kids outer places rows all free h)

  lead_out : (bs : Blocks) → CanBePrinted bs → LeadOutOfList bs
  lead_out Nil p items before outer places rows all free next same h = absurd (no_marker next)
  lead_out (Cons (Leaf leaf) bs) p items before outer places rows all free next same h = absurd (no_marker next)
  lead_out (Cons (Holds Quote kids) bs) p items before outer places rows all free next same h = absurd (no_marker next)
  lead_out (Cons (Holds (Item item) kids) bs) p items before outer places rows all free next same h = (
    (λ listed. same ∙ own_marker item kids bs p.0.0),
    item_in_list item kids bs p.0.0 (lead_on kids p.0.1) (lead_on bs p.1) (lead_out bs p.1) items before outer places rows all free
        (marked_by item kids bs p.0.0 items next same) h,
  )
  lead_out (Cons (Holds (Footnote label) kids) bs) p items before outer places rows all free next same h = absurd (no_marker next)
  lead_out (Cons (Items inside) bs) p items before outer places rows all free next same h = absurd p.0
  lead_out (Cons (Ending e) bs) p items before outer places rows all free next same h =
      ((λ no. let wrong : true ≡ false = no in absurd (cc)), ending_out (Ending e) bs (lead_out bs p.1) items before outer places rows all free next same h)
  lead_out (Cons (Blank e) bs) p items before outer places rows all free next same h =
      ((λ no. let wrong : true ≡ false = no in absurd (cc)), ending_out (Blank e) bs (lead_out bs p.1) items before outer places rows all free next same h)

pub rows_lead : RowsLeadToBlocks
rows_lead = λ bs p.
    leads_by (opened Nil [] (places_within bs ++ [])) (opened Nil [] (places_of (rows_of bs))) (rows_of bs ++ []) (rows_of bs) (grouped bs)
    (ap (opened Nil []) (sym (ap (λ (v : PassView). v.places) (blocks_passed bs p [] []))))
    (append-nil (rows_of bs))
    (lead_on bs p Nil [] [] [] (grouped bs) refl refl)
