-- What the pass over the rows of blocks finds.
use Rattle.std.proofs.Common.{◌≡◌, List, [], ◌∷◌, ◌++◌, refl, sym, ap, ◌∙◌, append_assoc}
use Rattle.definition_block.specs.Container.{Container, Item}
use Rattle.definition_block.specs.Tree.{Block, Leaf, Holds, Items, Ending, Blank, Blocks, Nil, Cons}
use Rattle.definition_block.specs.Lists.{has_gap, put_before, group_items, grouped_block}
use Rattle.block_rows.specs.Rows.{BlockRow, Exit, start_row, rows_of, block_rows}
use Rattle.html_looseness.specs.declared.loose.Place.{Place}
use Rattle.html_looseness.specs.declared.loose.Ahead.{Ahead}
use Rattle.html_looseness.specs.Printable.{IsPrintable, IsPrintableContainer, CanBePrinted}
use Rattle.html_looseness.specs.Loose.{PassView, pass_at, pass_row, pass_rows, nothing_ahead, place_at}
use Rattle.html_looseness.proofs.Ahead.{ahead_of, ahead_of_ending, ahead_of_blank, ahead_of_item, before_item_is}

-- ---- the places of items

abbrev pub own_place : Container → Blocks → Blocks → List Place
own_place (Item item) kids gs = place_at (ahead_of gs) item.marker (has_gap (group_items kids)) ∷ []
own_place c kids gs = []

-- those of a block before these, and of blocks
abbrev mutual
  pub places_in : Block → Blocks → List Place
  places_in (Holds c kids) gs = own_place c kids gs ++ places_within kids
  places_in b gs = []

  pub places_within : Blocks → List Place
  places_within Nil = []
  places_within (Cons b bs) = places_in b (group_items bs) ++ places_within bs

-- ---- the pass

pub pass_rows-append : (p : PassView) (xs ys : List BlockRow) → pass_rows p (xs ++ ys) ≡ pass_rows (pass_rows p ys) xs
pass_rows-append p [] ys = refl
pass_rows-append p (x ∷ xs) ys = ap (λ q. pass_row q x) (pass_rows-append p xs ys)

-- the pass over what a container holds
abbrev KidsPassed : Blocks → Type 0
KidsPassed kids = (outer : List Ahead) (places : List Place)
    → pass_rows (pass_at nothing_ahead outer places) (rows_of kids) ≡ pass_at (ahead_of (group_items kids)) outer (places_within kids ++ places)

abbrev BlockPassed : Block → Type 0
BlockPassed b = (gs : Blocks) (outer : List Ahead) (places : List Place)
    → pass_rows (pass_at (ahead_of gs) outer places) (block_rows b) ≡ pass_at (ahead_of (put_before (grouped_block b) gs)) outer (places_in b gs ++ places)

holds_passed : (c : Container) (kids : Blocks) → IsPrintableContainer c → KidsPassed kids → BlockPassed (Holds c kids)
holds_passed (Item item) kids some k gs outer places =
    let at = λ (a : Ahead). pass_at a outer (place_at (ahead_of gs) item.marker (has_gap (group_items kids)) ∷ (places_within kids ++ places)) in
    ap (λ p. pass_row p (start_row (Item item))) (pass_rows-append (pass_at (ahead_of gs) outer places) (rows_of kids) (Exit ∷ [])
    ∙ k (ahead_of gs ∷ outer) places)
    ∙ ap at (sym (ahead_of_item item (group_items kids) gs some))
    ∙ ap (λ (bs : Blocks). at (ahead_of bs)) (sym (before_item_is item (group_items kids) gs some))
holds_passed c kids some k gs outer places =
    ap (λ p. pass_row p (start_row c)) (pass_rows-append (pass_at (ahead_of gs) outer places) (rows_of kids) (Exit ∷ []) ∙ k (ahead_of gs ∷ outer) places)

more_passed : (b : Block) (bs : Blocks) → BlockPassed b → KidsPassed bs → KidsPassed (Cons b bs)
more_passed b bs h k outer places =
    let gs = group_items bs in
    pass_rows-append (pass_at nothing_ahead outer places) (block_rows b) (rows_of bs)
    ∙ ap (λ p. pass_rows p (block_rows b)) (k outer places)
    ∙ h gs outer (places_within bs ++ places)
    ∙ ap (λ ps. pass_at (ahead_of (put_before (grouped_block b) gs)) outer ps) (sym (append_assoc (places_in b gs) (places_within bs) places))

mutual
  pub block_passed : (b : Block) → IsPrintable b → BlockPassed b
  block_passed (Leaf leaf) h gs outer places = refl
  block_passed (Holds c kids) h gs outer places = holds_passed c kids h.0 (blocks_passed kids h.1) gs outer places
  block_passed (Items items) h gs outer places = absurd h
  block_passed (Ending e) h gs outer places = ap (λ (a : Ahead). pass_at a outer places) (sym (ahead_of_ending e gs))
  block_passed (Blank e) h gs outer places = ap (λ (a : Ahead). pass_at a outer places) (sym (ahead_of_blank e gs))

  pub blocks_passed : (bs : Blocks) → CanBePrinted bs → KidsPassed bs
  blocks_passed Nil h outer places = refl
  blocks_passed (Cons b bs) h outer places = more_passed b bs (block_passed b h.0) (blocks_passed bs h.1) outer places
