-- Containers and lists that begin, one by one.
use Rattle.std.proofs.Common.{◌≡◌, ℕ, Bool, true, false, not, if◌then◌else◌, List, [], ◌∷◌, ◌++◌, Option, None, Some, refl, sym, ap, ◌∙◌, append_assoc, reverse, drop}
use Rattle.compile_html.proofs.Prelude.{Around, block_of, BlockKind, blocks_from, container_names, Event, first_name, Footnote, GoesOn, Holder, holder_of}
use Rattle.compile_html.proofs.Prelude.{is_document, is_leaf, is_list, is_listed, is_loose_list, Item, KeepsEnding, kind_of, LayoutState, left_lists, Level}
use Rattle.compile_html.proofs.Prelude.{level_of, list_number, ListOf, loose_lists, Meaning, Name, Names, next_loose, Node, node_lists, Opened, opened_of}
use Rattle.compile_html.proofs.Prelude.{opening, place_of, Printer, Prints, Quote, sibling_of, start_of, text_of, Vec, within}
use Rattle.engine_events.specs.declared.event.Name.TheVariants as n
use Rattle.definition_page.specs.Page as page
use Rattle.compile_levels.specs.declared.kind.BlockKind.TheVariants as k
use Rattle.compile_levels.specs.declared.level.Holder.TheVariants as holders
use Rattle.event_meaning.specs.Blocks.{footnote_label}
use Rattle.event_meaning.proofs.Steps.{quote_opens, item_opens, footnote_opens, list_opens}
use Rattle.compile_html.specs.Views.{head_or_tight}
use Rattle.compile_html.proofs.Frames.{named_quote, named_unordered, named_ordered, named_item, named_footnote}
use Rattle.compile_html.proofs.Going.{Entering, holder_step}

-- none of the containers and lists is a leaf
pub leaf_kind : (kind : BlockKind) → (kind ≡ k.Quote → ⊥) → (kind ≡ k.UnorderedList → ⊥) → (kind ≡ k.OrderedList → ⊥) → (kind ≡ k.Item → ⊥)
    → (kind ≡ k.Footnote → ⊥) → is_leaf kind ≡ true
leaf_kind k.Quote a b c d e = absurd (a refl)
leaf_kind k.UnorderedList a b c d e = absurd (b refl)
leaf_kind k.OrderedList a b c d e = absurd (c refl)
leaf_kind k.Item a b c d e = absurd (d refl)
leaf_kind k.Footnote a b c d e = absurd (e refl)
leaf_kind kind a b c d e = refl

-- lists that are left, after those of the children
regrouped : (inner ns outer : List Bool) → (inner ++ ns) ++ outer ≡ inner ++ (ns ++ outer)
regrouped inner ns outer = append_assoc inner ns outer

module _ (names : Names) (bytes : List ℕ) (m : Meaning) {A : Type 0} {events : List Event} {whole : LayoutState} {old : Printer A} {event : Event}
    {after : List Event} (e : Entering names bytes m events whole old event after) (begun : old.level.begun ≡ true) (new : Printer A)
    (keeps : KeepsEnding old.leaves.page new.leaves.page) where
  abbrev own_lists : Name → List Bool
  own_lists name = if is_list name then is_loose_list bytes true e.kids ∷ loose_lists bytes e.kids else loose_lists bytes e.kids

  abbrev later : List Bool
  later = loose_lists bytes e.ns ++ left_lists bytes e.fs

  -- the lists to come, by the name of the event
  lists_are : (name : Name) → event.name ≡ name → reverse old.loose.items ≡ (own_lists name ++ loose_lists bytes e.ns) ++ left_lists bytes e.fs
  lists_are name is =
      e.stands.loose ∙ ap (λ (a : Name). (own_lists a ++ loose_lists bytes e.ns) ++ left_lists bytes e.fs) is

  abbrev spelled : Name → page.Blocks
  spelled name =
      block_of names bytes (is_document e.f.holder) name (text_of bytes (Around event e.kids e.exit)) e.kids (blocks_from names bytes (start_of name) e.kids)

  -- a container keeps the lists that are to come
  kept_lists : (name : Name) → event.name ≡ name → new.loose ≡ old.loose → own_lists name ≡ loose_lists bytes e.kids
      → reverse new.loose.items ≡ loose_lists bytes e.kids ++ later
  kept_lists name is l own =
      ap (λ (x : Vec Bool A). reverse x.items) l
      ∙ lists_are name is
      ∙ ap (λ (ls : List Bool). (ls ++ loose_lists bytes e.ns) ++ left_lists bytes e.fs) own
      ∙ regrouped (loose_lists bytes e.kids) (loose_lists bytes e.ns) (left_lists bytes e.fs)

  pub quote_enters : kind_of event.name ≡ k.Quote → opened_of new ≡ within k.Quote holders.Quote false (opened_of old) → new.loose ≡ old.loose
      → Prints m.compile old new (opening Quote) → GoesOn names bytes m events whole new after
  quote_enters kind o l laid =
      let is : event.name ≡ n.BlockQuote = named_quote event.name kind in
      holder_step names bytes m e begun new Quote false (page.Holds page.Quote (blocks_from names bytes (first_name Quote) e.kids)) (ap spelled is)
      (quote_opens names bytes m (place_of e.f) (sibling_of e.f.silent) e.kids e.exit) refl (ap start_of (sym is)) (ap (is_listed container_names) is)
      (o ∙ ap (λ (x : BlockKind). within x holders.Quote false (opened_of old)) (sym kind)) (kept_lists n.BlockQuote is l refl) keeps laid

  pub footnote_enters : kind_of event.name ≡ k.Footnote → opened_of new ≡ within k.Footnote holders.Footnote false (opened_of old) → new.loose ≡ old.loose
      → Prints m.compile old new (opening Footnote) → GoesOn names bytes m events whole new after
  footnote_enters kind o l laid =
      let is : event.name ≡ n.GfmFootnoteDefinition = named_footnote event.name kind in
      holder_step names bytes m e begun new Footnote false
      (page.Holds (page.Footnote (footnote_label names bytes e.kids)) (blocks_from names bytes (first_name Footnote) e.kids)) (ap spelled is)
      (footnote_opens names bytes m (place_of e.f) (sibling_of e.f.silent) e.kids e.exit (footnote_label names bytes e.kids)) refl (ap start_of (sym is))
      (ap (is_listed container_names) is) (o ∙ ap (λ (x : BlockKind). within x holders.Footnote false (opened_of old)) (sym kind))
      (kept_lists n.GfmFootnoteDefinition is l refl) keeps laid

  pub item_enters : kind_of event.name ≡ k.Item → opened_of new ≡ within k.Item holders.Item old.level.tight (opened_of old) → new.loose ≡ old.loose
      → Prints m.compile old new (opening Item) → GoesOn names bytes m events whole new after
  item_enters kind o l laid =
      let is : event.name ≡ n.ListItem = named_item event.name kind in
      let tight : old.level.tight ≡ e.f.tight = ap (λ (x : Opened). x.level.tight) e.stands.levels in
      holder_step names bytes m e begun new Item e.f.tight (page.Holds page.Item (blocks_from names bytes (first_name Item) e.kids)) (ap spelled is)
      (item_opens names bytes m (place_of e.f) (sibling_of e.f.silent) e.kids e.exit) refl (ap start_of (sym is)) (ap (is_listed container_names) is)
      (o
      ∙ ap (λ (t : Bool). within k.Item holders.Item t (opened_of old)) tight
      ∙ ap (λ (x : BlockKind). within x holders.Item e.f.tight (opened_of old)) (sym kind)) (kept_lists n.ListItem is l refl) keeps laid

  -- a list takes the first of the lists to come
  list_enters : (name : Name) (kind : BlockKind) (number : Option ℕ) → event.name ≡ name → kind_of event.name ≡ kind
      → spelled name ≡ page.Cons (page.ItemList number (is_loose_list bytes true e.kids) (blocks_from names bytes (first_name (ListOf number)) e.kids)) page.Nil
      → own_lists name ≡ is_loose_list bytes true e.kids ∷ loose_lists bytes e.kids → is_listed container_names name ≡ true
      → first_name (ListOf number) ≡ start_of name
      → opened_of new ≡ within kind (holders.List number) (not (next_loose old)) (opened_of old)
      → reverse new.loose.items ≡ drop 1 (reverse old.loose.items) → Prints m.compile old new (opening (ListOf number))
      → GoesOn names bytes m events whole new after
  list_enters name kind number is kind_is spells own listed start o l laid =
      let loose = is_loose_list bytes true e.kids in
      let lists : reverse old.loose.items ≡ loose ∷ ((loose_lists bytes e.kids ++ loose_lists bytes e.ns) ++ left_lists bytes e.fs)
      = lists_are name is ∙ ap (λ (ls : List Bool). (ls ++ loose_lists bytes e.ns) ++ left_lists bytes e.fs) own in
      let next : next_loose old ≡ loose = ap head_or_tight lists in
      holder_step names bytes m e begun new (ListOf number) (not loose)
      (page.ItemList number loose (blocks_from names bytes (first_name (ListOf number)) e.kids)) (ap spelled is ∙ spells)
      (list_opens names bytes m (place_of e.f) (sibling_of e.f.silent) e.kids e.exit number loose) refl (start ∙ ap start_of (sym is))
      (ap (is_listed container_names) is ∙ listed)
      (o
      ∙ ap (λ (b : Bool). within kind (holders.List number) (not b) (opened_of old)) next
      ∙ ap (λ (x : BlockKind). within x (holders.List number) (not loose) (opened_of old)) (sym kind_is))
      (l ∙ ap (drop 1) lists ∙ regrouped (loose_lists bytes e.kids) (loose_lists bytes e.ns) (left_lists bytes e.fs)) keeps laid

  pub unordered_enters : kind_of event.name ≡ k.UnorderedList
      → opened_of new ≡ within k.UnorderedList (holders.List None) (not (next_loose old)) (opened_of old)
      → reverse new.loose.items ≡ drop 1 (reverse old.loose.items) → Prints m.compile old new (opening (ListOf None))
      → GoesOn names bytes m events whole new after
  unordered_enters kind o l laid =
      list_enters n.ListUnordered k.UnorderedList None (named_unordered event.name kind) kind refl refl refl refl o l laid

  pub ordered_enters : kind_of event.name ≡ k.OrderedList
      → opened_of new ≡ within k.OrderedList (holders.List (Some (list_number names bytes e.kids))) (not (next_loose old)) (opened_of old)
      → reverse new.loose.items ≡ drop 1 (reverse old.loose.items) → Prints m.compile old new (opening (ListOf (Some (list_number names bytes e.kids))))
      → GoesOn names bytes m events whole new after
  ordered_enters kind o l laid =
      list_enters n.ListOrdered k.OrderedList (Some (list_number names bytes e.kids)) (named_ordered event.name kind) kind refl refl refl refl o l laid
