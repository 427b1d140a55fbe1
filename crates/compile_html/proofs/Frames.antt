-- What a child makes of the frame that it is in.
use Rattle.std.proofs.Common.{◌≡◌, ℕ, Bool, true, false, ◌&&◌, ◌||◌, if◌then◌else◌, List, [], ◌∷◌, ◌++◌, refl, sym, ap, ◌∙◌, append_assoc}
use denote.Enum.Bare.{same_true}
use Rattle.compile_html.proofs.Prelude.{after_spelled, AreOpen, Around, begins, block_of, block_pieces, BlockKind, blocks_from, blocks_of, Cons}
use Rattle.compile_html.proofs.Prelude.{container_names, counts, Document, Event, events_of, first_name, first_pieces, first_sound, Footnote, Frame}
use Rattle.compile_html.proofs.Prelude.{frame_pieces, has_begun, HasChildren, HasExit, Holder, holder_of, holder_view, HoldsLists, is_document, is_leaf}
use Rattle.compile_html.proofs.Prelude.{is_list, is_listed, is_loose_list, Item, kind_of, LeafPlace, left_events, left_lists, left_pieces, level_document}
use Rattle.compile_html.proofs.Prelude.{level_of, level_passed, ListOf, lists_before, loose_lists, Meaning, Name, Names, new_frame, Nil, Node, node_lists}
use Rattle.compile_html.proofs.Prelude.{node_name, Nodes, one, opening, passed, passes, place_of, Quote, same_name, sibling_of, spelled_by, the_type}
use Rattle.compile_html.proofs.Prelude.{with_siblings}
use Rattle.engine_events.specs.declared.event.Name.TheVariants as n
use Rattle.definition_page.specs.Page as page
use Rattle.compile_levels.specs.declared.kind.BlockKind.TheVariants as k
use Rattle.event_meaning.specs.Left.{blocks_by}
use Rattle.event_meaning.proofs.Steps.{stands, opens}
use Rattle.compile_html.specs.Frames.{levels_of}

-- ---- names and kinds

abbrev is_quote : BlockKind → Bool
is_quote k.Quote = true
is_quote kind = false

abbrev is_unordered : BlockKind → Bool
is_unordered k.UnorderedList = true
is_unordered kind = false

abbrev is_ordered : BlockKind → Bool
is_ordered k.OrderedList = true
is_ordered kind = false

abbrev is_item : BlockKind → Bool
is_item k.Item = true
is_item kind = false

abbrev is_footnote : BlockKind → Bool
is_footnote k.Footnote = true
is_footnote kind = false

quote_same : (name : Name) → is_quote (kind_of name) ≡ same_name name n.BlockQuote
quote_same n.Data = refl
quote_same name = refl

unordered_same : (name : Name) → is_unordered (kind_of name) ≡ same_name name n.ListUnordered
unordered_same n.Data = refl
unordered_same name = refl

ordered_same : (name : Name) → is_ordered (kind_of name) ≡ same_name name n.ListOrdered
ordered_same n.Data = refl
ordered_same name = refl

item_same : (name : Name) → is_item (kind_of name) ≡ same_name name n.ListItem
item_same n.Data = refl
item_same name = refl

footnote_same : (name : Name) → is_footnote (kind_of name) ≡ same_name name n.GfmFootnoteDefinition
footnote_same n.Data = refl
footnote_same name = refl

pub named_quote : (name : Name) → kind_of name ≡ k.Quote → name ≡ n.BlockQuote
named_quote name e = same_true the_type tt name n.BlockQuote (sym (quote_same name) ∙ ap is_quote e)

pub named_unordered : (name : Name) → kind_of name ≡ k.UnorderedList → name ≡ n.ListUnordered
named_unordered name e = same_true the_type tt name n.ListUnordered (sym (unordered_same name) ∙ ap is_unordered e)

pub named_ordered : (name : Name) → kind_of name ≡ k.OrderedList → name ≡ n.ListOrdered
named_ordered name e = same_true the_type tt name n.ListOrdered (sym (ordered_same name) ∙ ap is_ordered e)

pub named_item : (name : Name) → kind_of name ≡ k.Item → name ≡ n.ListItem
named_item name e = same_true the_type tt name n.ListItem (sym (item_same name) ∙ ap is_item e)

pub named_footnote : (name : Name) → kind_of name ≡ k.Footnote → name ≡ n.GfmFootnoteDefinition
named_footnote name e = same_true the_type tt name n.GfmFootnoteDefinition (sym (footnote_same name) ∙ ap is_footnote e)

and_false : (a b : Bool) → (a && b) ≡ false → a ≡ true → b ≡ false
and_false true b h e = h
and_false false b h e = absurd (cc)

leaf_plain : (name : Name) → (is_leaf (kind_of name) && is_listed container_names name) ≡ false
leaf_plain n.Data = refl
leaf_plain name = refl

leaf_no_list : (name : Name) → (is_leaf (kind_of name) && is_list name) ≡ false
leaf_no_list n.Data = refl
leaf_no_list name = refl

leaf_name : (name : Name) → is_leaf (kind_of name) ≡ true → (is_listed container_names name ≡ false) × (is_list name ≡ false)
leaf_name name e = (
  and_false (is_leaf (kind_of name)) (is_listed container_names name) (leaf_plain name) e,
  and_false (is_leaf (kind_of name)) (is_list name) (leaf_no_list name) e,
)

-- no lists are in a leaf
pub no_lists : (bytes : List ℕ) (enter exit : Event) (kids : Nodes) → is_leaf (kind_of enter.name) ≡ true → HoldsLists bytes (Around enter kids exit)
    → node_lists bytes (Around enter kids exit) ≡ []
no_lists bytes enter exit kids e h =
    let l = leaf_name enter.name e in
    ap (λ (t : Bool). if t then is_loose_list bytes true kids ∷ loose_lists bytes kids else loose_lists bytes kids) l.1 ∙ h.0 l.0

-- ---- the level after a child

begins_by : (h : Holder) (name : Name) (tight silent plain begun : Bool) (ns : Nodes) (exits : List Event)
    → let f : Frame = record { holder = h; tight = tight; silent = silent; plain = plain; begun = begun; siblings = ns; exit = exits } in
    has_begun f name ≡ begins (level_of f) name
begins_by h name tight silent plain true ns exits = refl
begins_by Document name tight silent plain false ns exits = refl
begins_by Quote name tight silent plain false ns exits = refl
begins_by Item name tight silent plain false ns exits = refl
begins_by Footnote name tight silent plain false ns exits = refl
begins_by (ListOf number) name tight silent plain false ns exits = refl

pub holder_back : (h : Holder) → holder_view (holder_of h) ≡ h
holder_back Document = refl
holder_back Quote = refl
holder_back Item = refl
holder_back Footnote = refl
holder_back (ListOf number) = refl

pub holder_document : (h : Holder) → level_document (holder_of h) ≡ is_document h
holder_document Document = refl
holder_document Quote = refl
holder_document Item = refl
holder_document Footnote = refl
holder_document (ListOf number) = refl

-- whether the content has begun, as the printer sees it
pub begins_is : (f : Frame) (name : Name) → has_begun f name ≡ begins (level_of f) name
begins_is f name = begins_by f.holder name f.tight f.silent f.plain f.begun f.siblings f.exit

module _ (names : Names) (bytes : List ℕ) (h : Holder) (silent plain : Bool) (ms ns : Nodes) (exits : List Event) (text : List ℕ) (kids : Nodes)
    (inner : page.Blocks) where
  abbrev begun_frame : Bool → Frame
  begun_frame tight = record { holder = h; tight = tight; silent = silent; plain = plain; begun = true; siblings = ms; exit = exits }

  level_by : (tight : Bool) (name : Name) → level_of (after_spelled (begun_frame tight) (block_of names bytes (is_document h) name text kids inner) ns)
      ≡ level_passed (level_of (begun_frame tight)) (kind_of name)
  level_by true n.LineEnding = refl
  level_by true name = refl
  level_by false n.LineEnding = refl
  level_by false name = refl

-- a frame whose content has begun
abbrev pub begun : Frame → Frame
begun f = record f { begun = true }

pub level_after : (names : Names) (bytes : List ℕ) (f : Frame) (enter exit : Event) (kids ns : Nodes)
    → level_of (after_spelled (begun f) (spelled_by names bytes (is_document f.holder) enter kids exit) ns) ≡ level_passed (level_of (begun f)) (kind_of enter.name)
level_after names bytes f enter exit kids ns = level_by names bytes f.holder f.silent f.plain f.siblings ns f.exit _ kids _ f.tight enter.name

-- ---- frames after a child

-- one block or none
abbrev pub AtMostOne : page.Blocks → Type 0
AtMostOne page.Nil = Unit {0}
AtMostOne (page.Cons b page.Nil) = Unit {0}
AtMostOne (page.Cons b (page.Cons c bs)) = ⊥

one_spelled : (names : Names) (bytes : List ℕ) (top : Bool) (name : Name) (text : List ℕ) (kids : Nodes) (inner : page.Blocks)
    → AtMostOne (block_of names bytes top name text kids inner)
one_spelled names bytes top n.LineEnding text kids inner = tt
one_spelled names bytes top name text kids inner = tt

module _ (f : Frame) (ns : Nodes) where
  pub exit_spelled : (bs : page.Blocks) (fs : List Frame) → HasExit fs f.holder f.exit → HasExit fs (after_spelled f bs ns).holder (after_spelled f bs ns).exit
  exit_spelled page.Nil fs h = h
  exit_spelled (page.Cons b bs) fs h = h

  pub children_spelled : (bytes : List ℕ) (bs : page.Blocks) (node : Node) → HasChildren bytes (with_siblings f (Cons node ns))
      → HasChildren bytes (after_spelled f bs ns)
  children_spelled bytes page.Nil node c =
      record { sound = (first_sound bytes node ns c.sound).1; lists = c.lists.1; numbers = c.numbers.1; before = λ e. absurd (cc); document = λ e. refl }
  children_spelled bytes (page.Cons b bs) node c =
      record { sound = (first_sound bytes node ns c.sound).1; lists = c.lists.1; numbers = c.numbers.1; before = λ e. absurd (cc); document = λ e. refl }

  pub events_spelled : (bs : page.Blocks) (fs : List Frame) → left_events (after_spelled f bs ns ∷ fs) ≡ left_events (with_siblings f ns ∷ fs)
  events_spelled page.Nil fs = refl
  events_spelled (page.Cons b bs) fs = refl

  pub lists_spelled : (bytes : List ℕ) (bs : page.Blocks) (fs : List Frame) → left_lists bytes (after_spelled f bs ns ∷ fs) ≡ loose_lists bytes ns ++ left_lists bytes fs
  lists_spelled bytes page.Nil fs = refl
  lists_spelled bytes (page.Cons b bs) fs = refl

-- ---- the pieces that are left

module _ (names : Names) (bytes : List ℕ) (m : Meaning) (f : Frame) (enter exit : Event) (kids ns : Nodes) (fs : List Frame) where
  abbrev spells : page.Blocks
  spells = spelled_by names bytes (is_document f.holder) enter kids exit

  abbrev before_it : List Frame
  before_it = with_siblings (begun f) (Cons (Around enter kids exit) ns) ∷ fs

  abbrev place : LeafPlace
  place = record { top = is_document f.holder; tight = f.tight; silent = f.silent }

  or_true : (top : Bool) → (top || true) ≡ true
  or_true true = refl
  or_true false = refl

  left_by : (bs : page.Blocks) → AtMostOne bs → spells ≡ bs
      → left_pieces names bytes m before_it ≡ first_pieces m place bs ++ left_pieces names bytes m (after_spelled (begun f) bs ns ∷ fs)
  left_by page.Nil one e = passes names bytes m (begun f) enter exit kids ns fs (λ h. e)
  left_by (page.Cons b page.Nil) one e = stands names bytes m (begun f) b enter exit kids ns fs (or_true (is_document f.holder)) e
  left_by (page.Cons b (page.Cons c bs)) one e = absurd one

  pub left_spelled : left_pieces names bytes m before_it ≡ first_pieces m place spells ++ left_pieces names bytes m (after_spelled (begun f) spells ns ∷ fs)
  left_spelled = left_by spells (one_spelled names bytes (is_document f.holder) enter.name _ kids _) refl

  -- a container or a list that begins
  pub left_opened : (h : Holder) (tight : Bool) (b : page.Block) → spells ≡ one b
      → block_pieces m (place_of f) (sibling_of f.silent) b ≡ opening h ++ frame_pieces names bytes m (new_frame h tight kids exit)
      → left_pieces names bytes m before_it
      ≡ opening h ++ left_pieces names bytes m (new_frame h tight kids exit ∷ after_spelled (begun f) spells ns ∷ fs)
  left_opened h tight b e opens_it =
      let bs = spells in
      stands names bytes m (begun f) b enter exit kids ns fs (or_true (is_document f.holder)) e
      ∙ opens names bytes m _ h tight kids exit (after_spelled (begun f) (one b) ns ∷ fs) opens_it
      ∙ ap (λ (x : page.Blocks). opening h ++ left_pieces names bytes m (new_frame h tight kids exit ∷ after_spelled (begun f) x ns ∷ fs)) (sym e)

-- ---- where the content begins

if_yes : {A : Type 0} (b : Bool) (x y : A) → b ≡ true → (if b then x else y) ≡ x
if_yes true x y h = refl
if_yes false x y h = absurd (cc)

begins_from : (names : Names) (bytes : List ℕ) (start : Name) (ns : Nodes) (node : Node) → same_name (node_name node) start ≡ true
    → blocks_from names bytes start (Cons node ns) ≡ blocks_of names bytes false (Cons node ns)
begins_from names bytes start ns (Around enter kids exit) h = if_yes (same_name enter.name start) _ _ h

module _ (names : Names) (bytes : List ℕ) (start : Name) (node : Node) (ns : Nodes) where
  pub content_begins : (top begun : Bool) → (begun || same_name (node_name node) start) ≡ true
      → blocks_by names bytes top begun start (Cons node ns) ≡ blocks_by names bytes top true start (Cons node ns)
  content_begins true begun h = refl
  content_begins false true h = refl
  content_begins false false h = begins_from names bytes start ns node h
