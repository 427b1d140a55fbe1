-- What the rows of blocks print, in each container and list.
use Rattle.std.proofs.Common.{◌≡◌, ℕ, ◌≤◌, Bool, true, false, not, ◌==◌, List, [], ◌∷◌, ◌++◌, Option, refl, sym, ap, ◌∙◌, append_assoc, codes, None}
use Rattle.std.proofs.Common.{Some}
use Rattle.html_rows.proofs.Prelude.{Blank, Block, block_rows, Blocks, CanBePrinted, children_bytes, Cons, Definition, Document, Ending, Exit, fold}
use Rattle.html_rows.proofs.Prelude.{fold-append, Footnote, group_items, Holds, IsPrintable, Items, LayoutState, Leaf, LeafBlock, Level, new_level, Nil, Place}
use Rattle.html_rows.proofs.Prelude.{print_all, print_row, printer_at, PrinterView, Quote, rows_of, Single, spaced_leaf, with_text}
use Rattle.markdown_options.specs.declared.container.Item.{Item as ItemOf}
use Rattle.definition_block.specs.Container.{Item}
use Rattle.definition_block.specs.Lists.{after_endings, has_gap, is_loose, list_marker, put_before, grouped_block}
use Rattle.html_bytes.specs.Pieces.{Piece, Bytes, Eol, Fresh, NoteStart, NoteEnd, print}
use Rattle.html_bytes.specs.Layout.{lay as lay_piece}
use Rattle.definition_page.specs.Read.{in_container, in_item}
use Rattle.html_bytes.specs.Html.{block_bytes, ends_tight, fresh_unless, number_tag, number_end}
use Rattle.html_looseness.specs.declared.level.Holder.{Holder}
use Rattle.html_looseness.specs.declared.level.Holder.TheVariants as holder
use Rattle.html_looseness.specs.Loose.{place_at}
use Rattle.html_looseness.specs.Levels.{standing_of, is_list, level_of, after_block, after_footnote, level_after}
use Rattle.html_rows.specs.Printing.{in_list, start_item, exit_of, leave_list_if, more}
use Rattle.html_looseness.proofs.Ahead.{ahead_of, before_item_is, list_ahead, after_list, on_list, off_list, no_marker}
use Rattle.html_looseness.proofs.BlockPlaces.{places_in, places_within}
use Rattle.html_looseness.proofs.ListPlaces.{next_marker, place_loose}
use Rattle.html_looseness.proofs.Past.{level_past, past_kind, past_plain}

module _ (d : Document) (default : List ℕ) where
  -- a page after pieces
  abbrev one_more : LayoutState → Piece → LayoutState
  one_more l p = lay_piece d.options.compile default l p

  abbrev lay : LayoutState → List Piece → LayoutState
  lay out pieces = fold one_more out pieces

  lay_more : (out : LayoutState) (ps qs : List Piece) → lay (lay out ps) qs ≡ lay out (ps ++ qs)
  lay_more out ps qs = sym (fold-append one_more out ps qs)

  -- the end of an item is text
  item_end : (said : Bool) (out : LayoutState)
      → with_text out (fold (print default) out.text (fresh_unless said ++ Bytes (codes "</li>") ∷ []))
      ≡ lay out (fresh_unless said ++ Bytes (codes "</li>") ∷ [])
  item_end true out = refl
  item_end false out = refl

  -- what blocks print at a level
  abbrev at_level : Level → Blocks → List Piece
  at_level l bs = children_bytes d (standing_of l) l.tight l.silent bs

  -- ---- what is to be shown

  -- in a container or the document
  abbrev pub ChildrenPrinted : Blocks → Type 0
  ChildrenPrinted bs = (l : Level) (out : LayoutState) (outer : List Level) (places : List Place) → is_list l.holder ≡ false
      → print_all d default (printer_at out l outer (places_within bs ++ places)) (rows_of bs)
      ≡ printer_at (lay out (at_level l (group_items bs))) (level_past l (group_items bs)) outer places

  -- on a list that is open in a level
  abbrev on_list_at : LayoutState → Option ℕ → Bool → Bool → Level → List Level → List Place → PrinterView
  on_list_at out number tight plain l outer places = printer_at out (level_of (holder.List number) tight plain false false) (l ∷ outer) places

  -- after the rest of a list, and what follows it
  abbrev list_then : LayoutState → Option ℕ → Bool → Level → Blocks → Blocks → List Level → List Place → PrinterView
  list_then out number tight l items others outer places =
      printer_at (lay (lay out (children_bytes d in_container tight false items ++ Eol ∷ Bytes (number_end number) ∷ [])) (at_level l others))
      (level_past l others) outer places

  abbrev pub ListPrinted : Blocks → Type 0
  ListPrinted bs = (number : Option ℕ) (tight plain : Bool) (l : Level) (out : LayoutState) (outer : List Level) (places : List Place)
      → is_list l.holder ≡ false → 1 ≤ list_marker (after_endings (group_items bs))
      → print_all d default (on_list_at out number tight plain l outer (places_within bs ++ places)) (rows_of bs)
      ≡ list_then out number tight l (list_ahead (group_items bs)) (after_list (group_items bs)) outer places

  -- ---- an item

  -- the end of an item
  item_left : (number : Option ℕ) (tight last : Bool) (l inner : Level) (out : LayoutState) (outer : List Level) (places : List Place)
      → inner.holder ≡ holder.Item last
      → print_row d default (printer_at out inner (level_of (holder.List number) tight false false false ∷ l ∷ outer) places) Exit
      ≡ leave_list_if default last (on_list_at (lay out (fresh_unless inner.plain ++ Bytes (codes "</li>") ∷ [])) number tight false l outer places)
  item_left number tight last l inner out outer places is =
      ap (λ (k : Holder). exit_of default k (printer_at out inner (level_of (holder.List number) tight false false false ∷ l ∷ outer) places)) is
      ∙ ap (λ x. leave_list_if default last (on_list_at x number tight false l outer places)) (item_end inner.plain out)

  -- an item on a list that is open
  item_printed : (item : ItemOf) (kids : Blocks) (place : Place) (number : Option ℕ) (tight plain : Bool) (l : Level) (out : LayoutState) (outer : List Level)
      (places : List Place)
      → ChildrenPrinted kids
      → print_all d default (on_list_at out number tight plain l outer (place ∷ (places_within kids ++ places))) (block_rows (Holds (Item item) kids))
      ≡ leave_list_if default (not place.goes_on)
      (on_list_at (lay out (block_bytes d in_container tight false (Holds (Item item) (group_items kids)))) number tight false l outer places)
  item_printed item kids place number tight plain l out outer places k =
      let gs = group_items kids in
      let start : List Piece = Fresh ∷ Bytes (codes "<li>") ∷ [] in
      let new = new_level (holder.Item (not place.goes_on)) tight in
      let inner = level_past new gs in
      let around : List Level = level_of (holder.List number) tight false false false ∷ l ∷ outer in
      let body = children_bytes d in_item tight false gs in
      let end : List Piece = Bytes (codes "</li>") ∷ [] in
      fold-append (print_row d default) (printer_at (lay out start) new around (places_within kids ++ places)) (rows_of kids) (Exit ∷ [])
      ∙ ap (λ (p : PrinterView). print_row d default p Exit) (k new (lay out start) around places refl)
      ∙ item_left number tight (not place.goes_on) l inner (lay (lay out start) body) outer places (past_kind new gs)
      ∙ ap (λ x. leave_list_if default (not place.goes_on)
      (on_list_at (lay (lay (lay out start) body) (fresh_unless x ++ end)) number tight false l outer places)) (sym (past_plain new gs))
      ∙ ap (λ x. leave_list_if default (not place.goes_on) (on_list_at x number tight false l outer places))
      (lay_more (lay out start) body (fresh_unless (ends_tight tight true gs) ++ end)
      ∙ ap (λ ps. lay (lay out start) ps) (sym (append_assoc body (fresh_unless (ends_tight tight true gs)) end)))

  -- what follows an item that is printed: more of its list, or what stands after it
  item_then : (goes_on : Bool) (bs : Blocks) (number : Option ℕ) (tight : Bool) (l : Level) (out : LayoutState) (outer : List Level) (places : List Place)
      → is_list l.holder ≡ false → (goes_on ≡ true → 1 ≤ list_marker (after_endings (group_items bs))) → ChildrenPrinted bs → ListPrinted bs
      → print_all d default (leave_list_if default (not goes_on) (on_list_at out number tight false l outer (places_within bs ++ places))) (rows_of bs)
      ≡ list_then out number tight l (on_list goes_on (group_items bs)) (off_list goes_on (group_items bs)) outer places
  item_then true bs number tight l out outer places no_list some children list = list number tight false l out outer places no_list (some refl)
  item_then false bs number tight l out outer places no_list some children list =
      children l (lay out (Eol ∷ Bytes (number_end number) ∷ [])) outer places no_list

  -- the pieces of an item, of what follows it on its list, and of what follows the list
  split_list : (out : LayoutState) (item more end others : List Piece)
      → lay (lay (lay out item) (more ++ end)) others ≡ lay (lay out ((item ++ more) ++ end)) others
  split_list out item more end others =
      ap (λ x. lay x others) (lay_more out item (more ++ end) ∙ ap (λ ps. lay out ps) (sym (append_assoc item more end)))

  -- ---- blocks in a container or the document

  -- a block, and those after it
  abbrev StepPrinted : Block → Blocks → Type 0
  StepPrinted b bs = (l : Level) (out : LayoutState) (outer : List Level) (places : List Place) → is_list l.holder ≡ false
      → print_all d default (print_all d default (printer_at out l outer (places_in b (group_items bs) ++ (places_within bs ++ places))) (block_rows b))
      (rows_of bs)
      ≡ printer_at (lay out (at_level l (put_before (grouped_block b) (group_items bs))))
      (level_past l (put_before (grouped_block b) (group_items bs))) outer places

  -- the row of a leaf
  leaf_row : (leaf : LeafBlock) (p : PrinterView) → print_row d default p (Single (Leaf (spaced_leaf leaf))) ≡ print_row d default p (Single (Leaf leaf))
  leaf_row (Definition ls label destination title) p = refl
  leaf_row leaf p = refl

  -- a block that is a row
  row_step : (b : Block) (bs : Blocks) → ChildrenPrinted bs → (l : Level) (out : LayoutState) (outer : List Level) (places : List Place)
      → is_list l.holder ≡ false
      → print_all d default (print_row d default (printer_at out l outer (places_within bs ++ places)) (Single b)) (rows_of bs)
      ≡ printer_at (lay out (at_level l (Cons b (group_items bs)))) (level_past l (Cons b (group_items bs))) outer places
  row_step b bs children l out outer places no_list =
      let own = block_bytes d (standing_of l) l.tight l.silent b in
      let after = level_after l (Single b) in
      children after (lay out own) outer places no_list
      ∙ ap (λ x. printer_at x (level_past after (group_items bs)) outer places) (lay_more out own (at_level after (group_items bs)))

  leaf_step : (leaf : LeafBlock) (bs : Blocks) → ChildrenPrinted bs → StepPrinted (Leaf leaf) bs
  leaf_step leaf bs children l out outer places no_list =
      ap (λ (p : PrinterView). print_all d default p (rows_of bs)) (leaf_row leaf (printer_at out l outer (places_within bs ++ places)))
      ∙ row_step (Leaf leaf) bs children l out outer places no_list

  -- a container that holds blocks between a start and an end
  held_step : (start end : List Piece) (k : Holder) (kids bs : Blocks) → is_list k ≡ false
      → ((inner around : Level) (out : LayoutState) (outer : List Level) (places : List Place) → inner.holder ≡ k
      → print_row d default (printer_at out inner (around ∷ outer) places) Exit ≡ printer_at (lay out end) around outer places)
      → ChildrenPrinted kids → ChildrenPrinted bs
      → (l : Level) (out : LayoutState) (outer : List Level) (places : List Place) → is_list l.holder ≡ false
      → (let entered = printer_at (lay out start) (new_level k false) (l ∷ outer) (places_within kids ++ (places_within bs ++ places)) in
      print_all d default (print_all d default entered (rows_of kids ++ Exit ∷ [])) (rows_of bs))
      ≡ printer_at (lay out ((start ++ (at_level (new_level k false) (group_items kids) ++ end)) ++ at_level l (group_items bs)))
      (level_past l (group_items bs)) outer places
  held_step start end k kids bs no_items left_at held children l out outer places no_list =
      let gs = group_items kids in
      let new = new_level k false in
      let body = at_level new gs in
      let left = places_within bs ++ places in
      ap (λ (p : PrinterView). print_all d default p (rows_of bs))
      (fold-append (print_row d default) (printer_at (lay out start) new (l ∷ outer) (places_within kids ++ left)) (rows_of kids) (Exit ∷ [])
      ∙ ap (λ (p : PrinterView). print_row d default p Exit) (held new (lay out start) (l ∷ outer) left no_items)
      ∙ left_at (level_past new gs) l (lay (lay out start) body) outer left (past_kind new gs)
      ∙ ap (λ x. printer_at x l outer left) (lay_more (lay out start) body end ∙ lay_more out start (body ++ end)))
      ∙ children l (lay out (start ++ (body ++ end))) outer places no_list
      ∙ ap (λ x. printer_at x (level_past l (group_items bs)) outer places) (lay_more out (start ++ (body ++ end)) (at_level l (group_items bs)))

  quote_step : (kids bs : Blocks) → ChildrenPrinted kids → ChildrenPrinted bs → StepPrinted (Holds Quote kids) bs
  quote_step kids bs held children l out outer places no_list =
      held_step (Fresh ∷ Bytes (codes "<blockquote>") ∷ []) (Fresh ∷ Bytes (codes "</blockquote>") ∷ []) holder.Quote kids bs refl
      (λ inner around o others left is. ap (λ (k : Holder). exit_of default k (printer_at o inner (around ∷ others) left)) is)
      held children (after_block l) out outer places no_list

  footnote_step : (label : List ℕ) (kids bs : Blocks) → ChildrenPrinted kids → ChildrenPrinted bs → StepPrinted (Holds (Footnote label) kids) bs
  footnote_step label kids bs held children l out outer places no_list =
      held_step (NoteStart ∷ []) (NoteEnd ∷ []) holder.Footnote kids bs refl
      (λ inner around o others left is. ap (λ (k : Holder). exit_of default k (printer_at o inner (around ∷ others) left)) is)
      held children (after_footnote l) out outer places no_list

  -- the list that an item starts, if none is open
  list_started : (item : ItemOf) (kids : Blocks) (place : Place) (l : Level) (out : LayoutState) (outer : List Level) (places : List Place)
      → is_list l.holder ≡ false
      → print_all d default (printer_at out l outer (place ∷ places)) (block_rows (Holds (Item item) kids))
      ≡ print_all d default (on_list_at (lay out (Fresh ∷ Bytes (number_tag item.number) ∷ [])) item.number (not place.loose) true (after_block l) outer
      (place ∷ places)) (block_rows (Holds (Item item) kids))
  list_started item kids place l out outer places no_list =
      ap (λ x. print_all d default (start_item default (not place.goes_on) (in_list default x item.number (not place.loose) (printer_at out l outer places)))
      (rows_of kids ++ Exit ∷ [])) no_list

  item_step : (item : ItemOf) (kids bs : Blocks) → 1 ≤ item.marker → ChildrenPrinted kids → ChildrenPrinted bs → ListPrinted bs
      → StepPrinted (Holds (Item item) kids) bs
  item_step item kids bs some k children list l out outer places no_list =
      let gs = group_items bs in
      let b = Holds (Item item) (group_items kids) in
      let goes_on = list_marker (after_endings gs) == item.marker in
      let place = place_at (ahead_of gs) item.marker (has_gap (group_items kids)) in
      let left = places_within bs ++ places in
      let start : List Piece = Fresh ∷ Bytes (number_tag item.number) ∷ [] in
      let end : List Piece = Eol ∷ Bytes (number_end item.number) ∷ [] in
      let tight = not place.loose in
      let own = block_bytes d in_container tight false b in
      let items = on_list goes_on gs in
      let others = off_list goes_on gs in
      let body = λ (t : Bool). children_bytes d in_container t false (Cons b items) in
      let at = λ (x : LayoutState). printer_at x (level_past (after_block l) others) outer places in
      ap (λ (p : PrinterView). print_all d default p (rows_of bs))
      (list_started item kids place l out outer (places_within kids ++ left) no_list
      ∙ item_printed item kids place item.number tight true (after_block l) (lay out start) outer left k)
      ∙ item_then goes_on bs item.number tight (after_block l) (lay (lay out start) own) outer places no_list (next_marker item gs some) children list
      ∙ ap at (split_list (lay out start) own (children_bytes d in_container tight false items) end (at_level (after_block l) others))
      ∙ ap (λ (loose : Bool). at (lay (lay (lay out start) (body (not loose) ++ end)) (at_level (after_block l) others)))
      (place_loose item (group_items kids) gs some)
      ∙ ap at (lay_more out (start ++ (body (not (is_loose (Cons b items))) ++ end)) (at_level (after_block l) others))
      ∙ ap (λ (cs : Blocks). printer_at (lay out (at_level l cs)) (level_past l cs) outer places) (sym (before_item_is item (group_items kids) gs some))

  -- ---- blocks on a list

  abbrev OnListPrinted : Block → Blocks → Type 0
  OnListPrinted b bs = (number : Option ℕ) (tight plain : Bool) (l : Level) (out : LayoutState) (outer : List Level) (places : List Place)
      → is_list l.holder ≡ false → 1 ≤ list_marker (after_endings (put_before (grouped_block b) (group_items bs)))
      → print_all d default (print_all d default (on_list_at out number tight plain l outer (places_in b (group_items bs) ++ (places_within bs ++ places)))
      (block_rows b)) (rows_of bs)
      ≡ list_then out number tight l (list_ahead (put_before (grouped_block b) (group_items bs)))
      (after_list (put_before (grouped_block b) (group_items bs))) outer places

  -- an ending, by what it prints
  ending_on_list : (own : List Piece) (bs : Blocks) → ListPrinted bs
      → (number : Option ℕ) (tight plain : Bool) (l : Level) (out : LayoutState) (outer : List Level) (places : List Place)
      → is_list l.holder ≡ false → 1 ≤ list_marker (after_endings (group_items bs))
      → print_all d default (on_list_at (lay out own) number tight plain l outer (places_within bs ++ places)) (rows_of bs)
      ≡ printer_at (lay (lay out ((own ++ children_bytes d in_container tight false (list_ahead (group_items bs))) ++ Eol ∷ Bytes (number_end number) ∷ []))
      (at_level l (after_list (group_items bs))))
      (level_past l (after_list (group_items bs))) outer places
  ending_on_list own bs list number tight plain l out outer places no_list some =
      let others = after_list (group_items bs) in
      list number tight plain l (lay out own) outer places no_list some
      ∙ ap (λ x. printer_at x (level_past l others) outer places)
      (split_list out own (children_bytes d in_container tight false (list_ahead (group_items bs))) (Eol ∷ Bytes (number_end number) ∷ []) (at_level l others))

  item_on_list : (item : ItemOf) (kids bs : Blocks) → 1 ≤ item.marker → ChildrenPrinted kids → ChildrenPrinted bs → ListPrinted bs
      → OnListPrinted (Holds (Item item) kids) bs
  item_on_list item kids bs some k children list number tight plain l out outer places no_list listed_ahead =
      let gs = group_items bs in
      let b = Holds (Item item) (group_items kids) in
      let goes_on = list_marker (after_endings gs) == item.marker in
      let place = place_at (ahead_of gs) item.marker (has_gap (group_items kids)) in
      let left = places_within bs ++ places in
      let own = block_bytes d in_container tight false b in
      let items = on_list goes_on gs in
      let others = off_list goes_on gs in
      ap (λ (p : PrinterView). print_all d default p (rows_of bs)) (item_printed item kids place number tight plain l out outer left k)
      ∙ item_then goes_on bs number tight l (lay out own) outer places no_list (next_marker item gs some) children list
      ∙ ap (λ x. printer_at x (level_past l others) outer places)
      (split_list out own (children_bytes d in_container tight false items) (Eol ∷ Bytes (number_end number) ∷ []) (at_level l others))
      ∙ ap (λ (cs : Blocks). list_then out number tight l (list_ahead cs) (after_list cs) outer places) (sym (before_item_is item (group_items kids) gs some))

  -- ---- all blocks

  -- what holds of the children of a block
  abbrev KidsPrinted : Block → Type 0
  KidsPrinted (Holds c kids) = ChildrenPrinted kids
  KidsPrinted b = Unit {0}

  step : (b : Block) (bs : Blocks) → IsPrintable b → KidsPrinted b → ChildrenPrinted bs → ListPrinted bs → StepPrinted b bs
  step (Leaf leaf) bs h k children list = leaf_step leaf bs children
  step (Holds Quote kids) bs h k children list = quote_step kids bs k children
  step (Holds (Item item) kids) bs h k children list = item_step item kids bs h.0 k children list
  step (Holds (Footnote label) kids) bs h k children list = footnote_step label kids bs k children
  step (Items items) bs h k children list = absurd h
  step (Ending ending) bs h k children list = row_step (Ending ending) bs children
  step (Blank ending) bs h k children list = row_step (Blank ending) bs children

  list_step : (b : Block) (bs : Blocks) → IsPrintable b → KidsPrinted b → ChildrenPrinted bs → ListPrinted bs → OnListPrinted b bs
  list_step (Ending None) bs h k children list number tight plain l out outer places no_list some =
      ending_on_list (block_bytes d in_container tight false (Ending None)) bs list number tight plain l out outer places no_list some
  list_step (Ending (Some ending)) bs h k children list number tight plain l out outer places no_list some =
      ending_on_list (block_bytes d in_container tight false (Ending (Some ending))) bs list number tight plain l out outer places no_list some
  list_step (Blank None) bs h k children list number tight plain l out outer places no_list some =
      ending_on_list [] bs list number tight plain l out outer places no_list some
  list_step (Blank (Some ending)) bs h k children list number tight plain l out outer places no_list some =
      ending_on_list [] bs list number tight plain l out outer places no_list some
  list_step (Holds (Item item) kids) bs h k children list number tight plain l out outer places no_list some =
      item_on_list item kids bs h.0 k children list number tight plain l out outer places no_list some
  list_step (Items items) bs h k children list number tight plain l out outer places no_list some = absurd h
  list_step b bs h k children list number tight plain l out outer places no_list some = absurd (no_marker some)

  pub record BlocksPrinted (bs : Blocks) : Type 0 where
    pub children : ChildrenPrinted bs
    pub list : ListPrinted bs

  more_printed : (b : Block) (bs : Blocks) → IsPrintable b → KidsPrinted b → BlocksPrinted bs → BlocksPrinted (Cons b bs)
  more_printed b bs h k others =
      let rows = λ (p : PrinterView). fold-append (print_row d default) p (block_rows b) (rows_of bs) in
      let split = λ (places : List Place). append_assoc (places_in b (group_items bs)) (places_within bs) places in
      record {
        children = λ l out outer places no_list.
            ap (λ ps. print_all d default (printer_at out l outer ps) (rows_of (Cons b bs))) (split places)
            ∙ rows (printer_at out l outer (places_in b (group_items bs) ++ (places_within bs ++ places)))
            ∙ step b bs h k others.children others.list l out outer places no_list;
        list = λ number tight plain l out outer places no_list some.
            ap (λ ps. print_all d default (on_list_at out number tight plain l outer ps) (rows_of (Cons b bs))) (split places)
            ∙ rows (on_list_at out number tight plain l outer (places_in b (group_items bs) ++ (places_within bs ++ places)))
            ∙ list_step b bs h k others.children others.list number tight plain l out outer places no_list some;
      }

  none_printed : BlocksPrinted Nil
  none_printed = record {
    children = λ l out outer places no_list. refl;
    list = λ number tight plain l out outer places no_list some. absurd (no_marker some);
  }

  mutual
    pub kids_printed : (b : Block) → IsPrintable b → KidsPrinted b
    kids_printed (Holds c kids) h = (blocks_printed kids h.1).children
    kids_printed b h = tt

    pub blocks_printed : (bs : Blocks) → CanBePrinted bs → BlocksPrinted bs
    blocks_printed Nil h = none_printed
    blocks_printed (Cons b bs) h = more_printed b bs h.0 (kids_printed b h.0) (blocks_printed bs h.1)
