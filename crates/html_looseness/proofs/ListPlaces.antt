-- The places that the pass over rows finds are those of the definition's lists.
use Rattle.std.proofs.Common.{◌≡◌, ◌≤◌, Bool, true, false, ◌==◌, List, [], ◌∷◌, ◌++◌, refl, sym, ap, ◌∙◌, subst, append_assoc, append-nil}
use Rattle.std.proofs.lemmas.Bool.{eqb-true}
use Rattle.markdown_options.specs.declared.container.Item.{Item as ItemOf}
use Rattle.definition_block.specs.Container.{Item}
use Rattle.definition_block.specs.Tree.{Block, Leaf, Holds, Items, Ending, Blank, Blocks, Nil, Cons}
use Rattle.definition_block.specs.Lists.{after_endings, has_gap, is_loose, is_some_block, list_marker, put_before, group_items, grouped_block}
use Rattle.block_rows.specs.Rows.{rows_of}
use Rattle.html_looseness.specs.declared.loose.Place.{Place}
use Rattle.html_looseness.specs.declared.loose.Ahead.{Ahead}
use Rattle.html_looseness.specs.Printable.{IsPrintable, CanBePrinted}
use Rattle.html_looseness.specs.Loose.{PassView, place_at, places_of}
use Rattle.html_looseness.specs.Places.{item_place, list_places, all_places}
use Rattle.html_looseness.proofs.Ahead.{ahead_of, ahead_of_item, before_item_is, list_ahead, after_list, on_list, off_list, list_first, no_marker}
use Rattle.html_looseness.proofs.BlockPlaces.{places_in, places_within, blocks_passed}

-- ---- an item before others

-- a list that comes first, after endings, and what follows it
first_list : (gs : Blocks) → 1 ≤ list_marker (after_endings gs) → list_places (list_ahead gs) ++ all_places (after_list gs) ≡ all_places gs
first_list Nil h = absurd (no_marker h)
first_list (Cons (Ending e) gs) h = first_list gs h
first_list (Cons (Blank e) gs) h = first_list gs h
first_list (Cons (Items items) gs) h = refl
first_list (Cons b gs) h = absurd (no_marker h)

-- what follows an item on its list, and after it, where the list goes on or not
on_and_off : (goes_on : Bool) (gs : Blocks) → (goes_on ≡ true → 1 ≤ list_marker (after_endings gs))
    → list_places (on_list goes_on gs) ++ all_places (off_list goes_on gs) ≡ all_places gs
on_and_off true gs some = first_list gs (some refl)
on_and_off false gs some = refl

some_on_list : (goes_on : Bool) (gs : Blocks) → (goes_on ≡ true → 1 ≤ list_marker (after_endings gs)) → is_some_block (on_list goes_on gs) ≡ goes_on
some_on_list true gs some = (list_first gs (some refl)).some
some_on_list false gs some = refl

-- where a list goes on, its next item has a marker
pub next_marker : (item : ItemOf) (gs : Blocks) → 1 ≤ item.marker → (list_marker (after_endings gs) == item.marker) ≡ true
    → 1 ≤ list_marker (after_endings gs)
next_marker item gs some same = subst (λ n. 1 ≤ n) (sym (eqb-true (list_marker (after_endings gs)) item.marker same)) some

-- the place says whether the list is loose
pub place_loose : (item : ItemOf) (kids gs : Blocks) → 1 ≤ item.marker
    → (place_at (ahead_of gs) item.marker (has_gap kids)).loose
    ≡ is_loose (Cons (Holds (Item item) kids) (on_list (list_marker (after_endings gs) == item.marker) gs))
place_loose item kids gs some = sym (ap (λ (a : Ahead). a.loose) (ahead_of_item item kids gs some))

item_before : (item : ItemOf) (kids gs : Blocks) → 1 ≤ item.marker
    → place_at (ahead_of gs) item.marker (has_gap kids) ∷ (all_places kids ++ all_places gs) ≡ all_places (put_before (Holds (Item item) kids) gs)
item_before item kids gs some =
    let goes_on = list_marker (after_endings gs) == item.marker in
    let next = next_marker item gs some in
    let on = on_list goes_on gs in
    let loose = (place_at (ahead_of gs) item.marker (has_gap kids)).loose in
    let at = λ (l : Bool) (g : Bool) (ps : List Place). record { loose = l; goes_on = g } ∷ ps in
    let b = Holds (Item item) kids in
    ap (λ g. at loose g (all_places kids ++ all_places gs)) (sym (some_on_list goes_on gs next))
    ∙ ap (λ l. at l (is_some_block on) (all_places kids ++ all_places gs)) (place_loose item kids gs some)
    ∙ ap (λ ps. item_place b on ∷ (all_places kids ++ ps)) (sym (on_and_off goes_on gs next))
    ∙ ap (λ ps. item_place b on ∷ ps) (sym (append_assoc (all_places kids) (list_places on) (all_places (off_list goes_on gs))))
    ∙ ap all_places (sym (before_item_is item kids gs some))

-- ---- all blocks

mutual
  block_before : (b : Block) → IsPrintable b → (gs : Blocks) → places_in b gs ++ all_places gs ≡ all_places (put_before (grouped_block b) gs)
  block_before (Leaf leaf) h gs = refl
  block_before (Holds (Item item) kids) h gs =
      ap (λ ps. place_at (ahead_of gs) item.marker (has_gap (group_items kids)) ∷ (ps ++ all_places gs)) (blocks_within kids h.1)
      ∙ item_before item (group_items kids) gs h.0
  block_before (Holds c kids) h gs = ap (λ ps. ps ++ all_places gs) (blocks_within kids h.1)
  block_before (Items items) h gs = absurd h
  block_before (Ending e) h gs = refl
  block_before (Blank e) h gs = refl

  blocks_within : (bs : Blocks) → CanBePrinted bs → places_within bs ≡ all_places (group_items bs)
  blocks_within Nil h = refl
  blocks_within (Cons b bs) h = ap (λ ps. places_in b (group_items bs) ++ ps) (blocks_within bs h.1) ∙ block_before b h.0 (group_items bs)

pub places_are : (bs : Blocks) → CanBePrinted bs → places_of (rows_of bs) ≡ all_places (group_items bs)
places_are bs h = ap (λ (p : PassView). p.places) (blocks_passed bs h [] []) ∙ append-nil (places_within bs) ∙ blocks_within bs h
