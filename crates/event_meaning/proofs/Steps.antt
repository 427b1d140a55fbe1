-- One step after another: what is left to print before an event is what that prints, and then what is left after it.
use Rattle.std.proofs.Common.{◌≡◌, ℕ, Bool, true, false, not, ◌||◌, ◌&&◌, if◌then◌else◌, List, [], ◌∷◌, ◌++◌, Option, None, Some, refl, sym, ap, ◌∙◌, codes}
use Rattle.std.proofs.lemmas.List.{append_assoc}
use Rattle.markdown_options.specs.LineEndings.{ending_bytes}
use Rattle.engine_events.specs.Names.{same_name}
use Rattle.engine_events.specs.declared.event.Event.{Event}
use Rattle.engine_events.specs.declared.event.Name.{Name}
use Rattle.definition_text.specs.Columns.{Code}
use Rattle.definition_inline.specs.CharacterReference.{Names}
use Rattle.definition_page.specs.BlockPieces.{Place, inside, list_tag, is_silent, is_visible, last_visible, ends_plainly, fresh_unless, block_pieces, children_pieces}
use Rattle.definition_page.specs.InlinePieces.{Meaning}
use Rattle.definition_page.specs.Page as page
use Rattle.definition_page.specs.Pieces.{Piece, Says, Close, Eol, Fresh}
use Rattle.definition_page.specs.Tags.{Words}
use Rattle.event_grammar.specs.Trees.{Node, Nodes, Around, Nil, Cons, node_events, events_of}
use Rattle.event_meaning.specs.Blocks.{join, one, start_of, block_of, blocks_of, blocks_from}
use Rattle.event_meaning.specs.Children.{text_of}
use Rattle.event_meaning.specs.Left.{Holder, Quote, Item, Footnote, ListOf, is_document, first_name, Frame, place_of, sibling_of, visible_of, blocks_by}
use Rattle.event_meaning.specs.Left.{opening, closing, left_events, frame_pieces, left_pieces, counts, passed, after_block, new_frame}

no_true : (A : Type 0) → (let b : Bool = false in b ≡ true) → A
no_true A h = absurd (cc)

append_around : (a b c d : List Piece) → ((a ++ b) ++ c) ++ d ≡ a ++ ((b ++ c) ++ d)
append_around a b c d = ap (λ ps. ps ++ d) (append_assoc a b c) ∙ append_assoc a (b ++ c) d

-- ---- the sibling before counts only by whether it silences an ending

and_false : (t : Bool) → ((t && false) || true) ≡ true
and_false true = refl
and_false false = refl

silent_same : (place : Place) (silent : Bool) → is_silent place (sibling_of silent) ≡ silent
silent_same place true = and_false place.tight
silent_same place false = refl

module _ (m : Meaning) (place : Place) where
  block_same : (before : Option page.Block) (b : page.Block)
      → block_pieces m place before b ≡ block_pieces m place (sibling_of (is_silent place before)) b
  block_same before (page.Leaf leaf) = refl
  block_same before (page.Holds page.Quote kids) = refl
  block_same before (page.Holds page.Item kids) = refl
  block_same before (page.Holds (page.Footnote label) kids) = refl
  block_same before (page.ItemList number loose items) = refl
  block_same before (page.Ending ending) =
      ap (λ silent. if silent then [] else Says (Words (ending_bytes ending)) ∷ []) (sym (silent_same place (is_silent place before)))
  block_same before (page.Blank ending) = refl

  children_same : (before : Option page.Block) (bs : page.Blocks)
      → children_pieces m place before bs ≡ children_pieces m place (sibling_of (is_silent place before)) bs
  children_same before page.Nil = refl
  children_same before (page.Cons b bs) = ap (λ ps. ps ++ children_pieces m place (Some b) bs) (block_same before b)

-- ---- an item ends on the same line by the last child that is visible

plain_same : (tight plain : Bool) → ends_plainly tight (visible_of plain) ≡ plain
plain_same tight true = refl
plain_same tight false = refl

module _ (tight : Bool) where
  last_by : (v : Bool) (before : Option page.Block) (b : page.Block) (bs : page.Blocks)
      → ends_plainly tight (last_visible before bs) ≡ ends_plainly tight (last_visible (visible_of (ends_plainly tight before)) bs)
      → ends_plainly tight (last_visible (if v then Some b else before) bs)
      ≡ ends_plainly tight (last_visible (if v then Some b else visible_of (ends_plainly tight before)) bs)
  last_by true before b bs h = refl
  last_by false before b bs h = h

  last_same : (before : Option page.Block) (bs : page.Blocks)
      → ends_plainly tight (last_visible before bs) ≡ ends_plainly tight (last_visible (visible_of (ends_plainly tight before)) bs)
  last_same before page.Nil = sym (plain_same tight (ends_plainly tight before))
  last_same before (page.Cons b bs) = last_by (is_visible b) before b bs (last_same before bs)

  -- after a child that is visible or isn't
  plain_after : (v plain : Bool) (b : page.Block)
      → ends_plainly tight (if v then Some b else visible_of plain) ≡ (if v then ends_plainly tight (Some b) else plain)
  plain_after true plain b = refl
  plain_after false plain b = plain_same tight plain

  last_after : (plain : Bool) (b : page.Block) (bs : page.Blocks)
      → ends_plainly tight (last_visible (visible_of plain) (page.Cons b bs))
      ≡ ends_plainly tight (last_visible (visible_of (if is_visible b then ends_plainly tight (Some b) else plain)) bs)
  last_after plain b bs =
      last_same (if is_visible b then Some b else visible_of plain) bs
      ∙ ap (λ p. ends_plainly tight (last_visible (visible_of p) bs)) (plain_after (is_visible b) plain b)

-- ---- the blocks that are left

module _ (names : Names) (bytes : List ℕ) where
  -- what a child spells
  abbrev pub spelled_by : Bool → Event → Nodes → Event → page.Blocks
  spelled_by top enter kids exit =
      block_of names bytes top enter.name (text_of bytes (Around enter kids exit)) kids (blocks_from names bytes (start_of enter.name) kids)

  module _ (start : Name) (enter exit : Event) (kids ns : Nodes) where
    passes_by : (s : Bool) → (s ≡ true → spelled_by false enter kids exit ≡ page.Nil)
        → (if s then join (spelled_by false enter kids exit) (blocks_of names bytes false ns) else blocks_from names bytes start ns)
        ≡ blocks_by names bytes false s start ns
    passes_by true h = ap (λ bs. join bs (blocks_of names bytes false ns)) (h refl)
    passes_by false h = refl

    blocks_pass : (top begun : Bool) → ((top || (begun || same_name enter.name start)) ≡ true → spelled_by top enter kids exit ≡ page.Nil)
        → blocks_by names bytes top begun start (Cons (Around enter kids exit) ns) ≡ blocks_by names bytes top (begun || same_name enter.name start) start ns
    blocks_pass true begun h = ap (λ bs. join bs (blocks_of names bytes true ns)) (h refl)
    blocks_pass false true h = ap (λ bs. join bs (blocks_of names bytes false ns)) (h refl)
    blocks_pass false false h = passes_by (same_name enter.name start) h

    stands_by : (s : Bool) (b : page.Block) → s ≡ true → spelled_by false enter kids exit ≡ one b
        → (if s then join (spelled_by false enter kids exit) (blocks_of names bytes false ns) else blocks_from names bytes start ns)
        ≡ page.Cons b (blocks_of names bytes false ns)
    stands_by true b h e = ap (λ bs. join bs (blocks_of names bytes false ns)) e
    stands_by false b h e = no_true _ h

    blocks_stand : (top begun : Bool) (b : page.Block) → (top || (begun || same_name enter.name start)) ≡ true → spelled_by top enter kids exit ≡ one b
        → blocks_by names bytes top begun start (Cons (Around enter kids exit) ns) ≡ page.Cons b (blocks_by names bytes top true start ns)
    blocks_stand true begun b h e = ap (λ bs. join bs (blocks_of names bytes true ns)) e
    blocks_stand false true b h e = ap (λ bs. join bs (blocks_of names bytes false ns)) e
    blocks_stand false false b h e = stands_by (same_name enter.name start) b h e

  nothing_left : (top begun : Bool) (start : Name) → blocks_by names bytes top begun start Nil ≡ page.Nil
  nothing_left true begun start = refl
  nothing_left false true start = refl
  nothing_left false false start = refl

-- ---- the pieces that are left

-- a frame with these children to come
abbrev pub with_siblings : Frame → Nodes → Frame
with_siblings f ns = record f { siblings = ns }

module _ (names : Names) (bytes : List ℕ) (m : Meaning) (f : Frame) where
  abbrev pieces_with : page.Blocks → List Piece
  pieces_with bs = children_pieces m (place_of f) (sibling_of f.silent) bs ++ closing f.holder (ends_plainly f.tight (last_visible (visible_of f.plain) bs))

  -- a child that spells nothing, or stands before the content
  pub passes : (enter exit : Event) (kids ns : Nodes) (fs : List Frame)
      → (counts f enter.name ≡ true → spelled_by names bytes (is_document f.holder) enter kids exit ≡ page.Nil)
      → left_pieces names bytes m (with_siblings f (Cons (Around enter kids exit) ns) ∷ fs) ≡ left_pieces names bytes m (passed f enter.name ns ∷ fs)
  passes enter exit kids ns fs h =
      ap (λ bs. pieces_with bs ++ left_pieces names bytes m fs)
      (blocks_pass names bytes (first_name f.holder) enter exit kids ns (is_document f.holder) f.begun h)

  block_with : (b : page.Block) (bs : page.Blocks) (others : List Piece)
      → pieces_with (page.Cons b bs) ++ others
      ≡ block_pieces m (place_of f) (sibling_of f.silent) b
      ++ (children_pieces m (place_of f) (sibling_of (is_silent (place_of f) (Some b))) bs
      ++ closing f.holder (ends_plainly f.tight (last_visible (visible_of (if is_visible b then ends_plainly f.tight (Some b) else f.plain)) bs)) ++ others)
  block_with b bs others =
      let block = block_pieces m (place_of f) (sibling_of f.silent) b in
      let after = sibling_of (is_silent (place_of f) (Some b)) in
      let end = λ (p : Bool). closing f.holder p in
      ap (λ p. children_pieces m (place_of f) (sibling_of f.silent) (page.Cons b bs) ++ end p ++ others) (last_after f.tight f.plain b bs)
      ∙ ap (λ ps. (block ++ ps) ++ end (ends_plainly f.tight (last_visible (visible_of (if is_visible b then ends_plainly f.tight (Some b) else f.plain)) bs)) ++ others)
      (children_same m (place_of f) (Some b) bs)
      ∙ append_around block (children_pieces m (place_of f) after bs) _ others

  -- a child that spells a block
  pub stands : (b : page.Block) (enter exit : Event) (kids ns : Nodes) (fs : List Frame) → counts f enter.name ≡ true
      → spelled_by names bytes (is_document f.holder) enter kids exit ≡ one b
      → left_pieces names bytes m (with_siblings f (Cons (Around enter kids exit) ns) ∷ fs)
      ≡ block_pieces m (place_of f) (sibling_of f.silent) b ++ left_pieces names bytes m (after_block f b ns ∷ fs)
  stands b enter exit kids ns fs h e =
      let start = first_name f.holder in
      ap (λ bs. pieces_with bs ++ left_pieces names bytes m fs)
      (blocks_stand names bytes start enter exit kids ns (is_document f.holder) f.begun b h e)
      ∙ block_with b (blocks_by names bytes (is_document f.holder) true start ns) (left_pieces names bytes m fs)

  -- the end of what is open
  pub ends : (fs : List Frame) → left_pieces names bytes m (with_siblings f Nil ∷ fs) ≡ closing f.holder f.plain ++ left_pieces names bytes m fs
  ends fs =
      ap (λ bs. pieces_with bs ++ left_pieces names bytes m fs) (nothing_left names bytes (is_document f.holder) f.begun (first_name f.holder))
      ∙ ap (λ p. closing f.holder p ++ left_pieces names bytes m fs) (plain_same f.tight f.plain)

-- ---- what holds blocks

module _ (names : Names) (bytes : List ℕ) (m : Meaning) (place : Place) (before : Option page.Block) (kids : Nodes) (exit : Event) where
  pub quote_opens : block_pieces m place before (page.Holds page.Quote (blocks_from names bytes (first_name Quote) kids))
      ≡ opening Quote ++ frame_pieces names bytes m (new_frame Quote false kids exit)
  quote_opens =
      let inner = children_pieces m (inside false) None (blocks_from names bytes (first_name Quote) kids) in
      ap (λ ps. opening Quote ++ ps) (append_assoc inner (Fresh ∷ []) (Close (codes "blockquote") ∷ []))

  pub item_opens : block_pieces m place before (page.Holds page.Item (blocks_from names bytes (first_name Item) kids))
      ≡ opening Item ++ frame_pieces names bytes m (new_frame Item place.tight kids exit)
  item_opens =
      let bs = blocks_from names bytes (first_name Item) kids in
      ap (λ ps. opening Item ++ ps)
      (append_assoc (children_pieces m (inside place.tight) None bs) (fresh_unless (ends_plainly place.tight (last_visible None bs))) (Close (codes "li") ∷ []))

  pub footnote_opens : (label : List Code) → block_pieces m place before (page.Holds (page.Footnote label) (blocks_from names bytes (first_name Footnote) kids))
      ≡ opening Footnote ++ frame_pieces names bytes m (new_frame Footnote false kids exit)
  footnote_opens label = refl

  pub list_opens : (number : Option ℕ) (loose : Bool)
      → block_pieces m place before (page.ItemList number loose (blocks_from names bytes (first_name (ListOf number)) kids))
      ≡ opening (ListOf number) ++ frame_pieces names bytes m (new_frame (ListOf number) (not loose) kids exit)
  list_opens number loose =
      let inner = children_pieces m (inside (not loose)) None (blocks_from names bytes (first_name (ListOf number)) kids) in
      ap (λ ps. opening (ListOf number) ++ ps) (append_assoc inner (Eol ∷ []) (Close (list_tag number).name ∷ []))

-- one of them that begins among others
pub opens : (names : Names) (bytes : List ℕ) (m : Meaning) (block : List Piece) (h : Holder) (tight : Bool) (kids : Nodes) (exit : Event) (fs : List Frame)
    → block ≡ opening h ++ frame_pieces names bytes m (new_frame h tight kids exit)
    → block ++ left_pieces names bytes m fs ≡ opening h ++ left_pieces names bytes m (new_frame h tight kids exit ∷ fs)
opens names bytes m block h tight kids exit fs e =
    ap (λ ps. ps ++ left_pieces names bytes m fs) e
    ∙ append_assoc (opening h) (frame_pieces names bytes m (new_frame h tight kids exit)) (left_pieces names bytes m fs)

-- ---- the events that are left

-- a child that is passed whole
pub passed_events : (f : Frame) (node : Node) (ns : Nodes) (fs : List Frame)
    → left_events (with_siblings f (Cons node ns) ∷ fs) ≡ node_events node ++ left_events (with_siblings f ns ∷ fs)
passed_events f node ns fs = append_assoc (node_events node) (events_of ns) (f.exit ++ left_events fs)

-- what holds blocks is entered
pub entered_events : (f g : Frame) (enter exit : Event) (kids ns : Nodes) (fs : List Frame) → g.siblings ≡ kids → g.exit ≡ exit ∷ []
    → left_events (with_siblings f (Cons (Around enter kids exit) ns) ∷ fs) ≡ enter ∷ left_events (g ∷ with_siblings f ns ∷ fs)
entered_events f g enter exit kids ns fs p q =
    passed_events f (Around enter kids exit) ns fs
    ∙ ap (λ es. enter ∷ es) (append_assoc (events_of kids) (exit ∷ []) (left_events (with_siblings f ns ∷ fs)))
    ∙ ap (λ ks. enter ∷ (events_of ks ++ ((exit ∷ []) ++ left_events (with_siblings f ns ∷ fs)))) (sym p)
    ∙ ap (λ es. enter ∷ (events_of g.siblings ++ (es ++ left_events (with_siblings f ns ∷ fs)))) (sym q)
