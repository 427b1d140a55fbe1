-- Looseness by events, from the last on, is that of the tree.
use Rattle.std.proofs.Common.{◌≡◌, ℕ, Bool, true, false, ◌&&◌, ◌||◌, if◌then◌else◌, List, [], ◌∷◌, ◌++◌, Option, None, Some, refl, sym, ap, ◌∙◌, append_assoc}
use Rattle.compile_written.proofs.Prelude.{append-nil, AreNodes, Around, before_enter, before_exit, Child, compared_in, compares, Cons, Event, events_of}
use Rattle.compile_written.proofs.Prelude.{is_before, is_list, Kind, level, Level, more_lists, Name, new_level, Nil, Node, node_events, Nodes, pass_at}
use Rattle.compile_written.proofs.Prelude.{pass_event, pass_next, pass_start, passed, PassView, same_name, Spot, spot_of}
use Rattle.engine_events.specs.declared.event.Kind.TheVariants.{Enter, Exit}
use Rattle.engine_events.specs.declared.event.Name.TheVariants as n
use Rattle.event_check.specs.Loose.{is_far, are_apart, has_loose_item, is_loose_list}
use Rattle.event_grammar.specs.declared.slot.Child.TheVariants.{Only, Block}
use Rattle.event_grammar.specs.Slots.{has}
use Rattle.compile_written.specs.List.{node_lists, loose_lists}

-- ---- either

or_false : (a : Bool) → (a || false) ≡ a
or_false true = refl
or_false false = refl

or_assoc : (a b c : Bool) → ((a || b) || c) ≡ (a || (b || c))
or_assoc true b c = refl
or_assoc false b c = refl

module _ (bytes : List ℕ) where
  -- ---- levels by the tree

  abbrev mutual
    node_level : Node → Level → Level
    node_level (Around enter kids exit) l =
        before_enter enter.name (spot_of enter) (level_over kids (new_level (compared_in enter.name))).apart (before_exit bytes enter.name (spot_of exit) l)

    level_over : Nodes → Level → Level
    level_over Nil l = l
    level_over (Cons node ns) l = node_level node (level_over ns l)

  -- ---- neighbours

  abbrev is_apart_from : Option Spot → Option Spot → Bool
  is_apart_from None next = false
  is_apart_from (Some last) next = is_before bytes last next

  far_is : (last : Option Spot) (at : Spot) → is_far bytes last at ≡ is_apart_from last (Some at)
  far_is None at = refl
  far_is (Some last) at = refl

  none_after : (last : Option Spot) → is_apart_from last None ≡ false
  none_after None = refl
  none_after (Some last) = refl

  entered_child : (b : Bool) (at : Spot) (apart : Bool) (l : Level)
      → (if b then level l.child (Some at) l.apart (apart || l.loose) else l).child ≡ l.child
  entered_child true at apart l = refl
  entered_child false at apart l = refl

  kept : (ns : Nodes) (l : Level) → (level_over ns l).child ≡ l.child
  kept Nil l = refl
  kept (Cons (Around enter kids exit) ns) l =
      let r = before_exit bytes enter.name (spot_of exit) (level_over ns l) in
      entered_child (compares r.child enter.name) (spot_of enter) (level_over kids (new_level (compared_in enter.name))).apart r ∙ kept ns l

  module _ (child : Child) where
    abbrev after : Nodes → Level
    after ns = level_over ns (new_level (Some child))

    child_is : (ns : Nodes) → (after ns).child ≡ Some child
    child_is ns = kept ns (new_level (Some child))

    apart_by : (h f g : Bool) (last : Option Spot) (enter exit : Spot) (r : Level) (apart : Bool) (ns : Nodes)
        → ((l : Option Spot) → are_apart bytes child l ns ≡ (is_apart_from l r.next || r.apart))
        → (if h then is_far bytes last enter || are_apart bytes child (Some exit) ns else are_apart bytes child last ns)
        ≡ (is_apart_from last (if h then level r.child (Some enter) ((h && is_before bytes exit r.next) || r.apart) (apart || r.loose)
        else level r.child r.next ((h && is_before bytes exit r.next) || r.apart) r.loose).next
        || (if h then level r.child (Some enter) ((h && is_before bytes exit r.next) || r.apart) (apart || r.loose)
        else level r.child r.next ((h && is_before bytes exit r.next) || r.apart) r.loose).apart)
    apart_by true f g last enter exit r apart ns ih =
        ap (λ (z : Bool). z || are_apart bytes child (Some exit) ns) (far_is last enter) ∙ ap (λ (z : Bool). is_apart_from last (Some enter) || z)
        (ih (Some exit))
    apart_by false f g last enter exit r apart ns ih = ih last

    -- some two neighbours are apart: the last before and the first of these, or two of these
    apart_over : (ns : Nodes) (last : Option Spot) → are_apart bytes child last ns ≡ (is_apart_from last (after ns).next || (after ns).apart)
    apart_over Nil last = sym (ap (λ (z : Bool). z || false) (none_after last))
    apart_over (Cons (Around enter kids exit) ns) last =
        let r = after ns in
        let apart = (level_over kids (new_level (compared_in enter.name))).apart in
        apart_by (has child enter.name) false false last (spot_of enter) (spot_of exit) r apart ns (apart_over ns)
        ∙ ap (λ (c : Option Child). is_apart_from last
        (if compares c enter.name then level r.child (Some (spot_of enter)) ((compares c enter.name && is_before bytes (spot_of exit) r.next) || r.apart)
        (apart || r.loose)
        else level r.child r.next ((compares c enter.name && is_before bytes (spot_of exit) r.next) || r.apart) r.loose).next
        || (if compares c enter.name then level r.child (Some (spot_of enter)) ((compares c enter.name && is_before bytes (spot_of exit) r.next) || r.apart)
        (apart || r.loose)
        else level r.child r.next ((compares c enter.name && is_before bytes (spot_of exit) r.next) || r.apart) r.loose).apart) (sym (child_is ns))

    apart_is : (ns : Nodes) → are_apart bytes child None ns ≡ (after ns).apart
    apart_is ns = apart_over ns None

  -- ---- items

  item_only : (name : Name) → has (Only n.ListItem) name ≡ same_name name n.ListItem
  item_only n.ListItem = refl
  item_only name = refl

  item_level : (P : Option Child → Bool) (name : Name) → (same_name name n.ListItem && P (compared_in name)) ≡ (same_name name n.ListItem && P (Some Block))
  item_level P n.ListItem = refl
  item_level P name = refl

  loose_by : (h : Bool) (at : Spot) (apart : Bool) (r : Level) → (if h then level r.child (Some at) r.apart (apart || r.loose) else r).loose ≡
      ((h && apart) || r.loose)
  loose_by true at apart r = refl
  loose_by false at apart r = refl

  loose_is : (ns : Nodes) → has_loose_item bytes ns ≡ (after (Only n.ListItem) ns).loose
  loose_is Nil = refl
  loose_is (Cons (Around enter kids exit) ns) =
      let r = after (Only n.ListItem) ns in
      let q = before_exit bytes enter.name (spot_of exit) r in
      let own = λ (c : Option Child). (level_over kids (new_level c)).apart in
      ap (λ (z : Bool). (same_name enter.name n.ListItem && z) || has_loose_item bytes ns) (apart_is Block kids)
      ∙ ap (λ (z : Bool). (same_name enter.name n.ListItem && own (Some Block)) || z) (loose_is ns)
      ∙ ap (λ (z : Bool). z || r.loose) (sym (item_level own enter.name))
      ∙ ap (λ (z : Bool). (z && own (compared_in enter.name)) || r.loose) (sym (item_only enter.name))
      ∙ ap (λ (c : Option Child). (compares c enter.name && own (compared_in enter.name)) || r.loose) (sym (child_is (Only n.ListItem) ns))
      ∙ sym (loose_by (compares q.child enter.name) (spot_of enter) (own (compared_in enter.name)) q)

  list_is : (kids : Nodes) → is_loose_list bytes true kids ≡ ((after (Only n.ListItem) kids).apart || (after (Only n.ListItem) kids).loose)
  list_is kids =
      ap (λ (z : Bool). z || (true && has_loose_item bytes kids)) (apart_is (Only n.ListItem) kids)
      ∙ ap (λ (z : Bool). (after (Only n.ListItem) kids).apart || z) (loose_is kids)

  -- ---- events

  passed_both : (p : PassView) (xs ys : List Event) → passed bytes p (xs ++ ys) ≡ passed bytes (passed bytes p ys) xs
  passed_both p [] ys = refl
  passed_both p (x ∷ xs) ys = ap (λ (z : PassView). pass_event bytes z x) (passed_both p xs ys)

  lists_by : (b : Bool) (name : Name) (kids : Nodes) (lists : List Bool) → is_list name ≡ b
      → more_lists name (level_over kids (new_level (compared_in name))) (loose_lists bytes kids ++ lists)
      ≡ (if is_list name then is_loose_list bytes true kids ∷ loose_lists bytes kids else loose_lists bytes kids) ++ lists
  lists_by true name kids lists h =
      let both = λ (t : Bool). let l = level_over kids
      (new_level (if t then Some (Only n.ListItem) else (if same_name name n.ListItem then Some Block else None))) in l in
      ap (λ (t : Bool). if t then ((both t).apart || (both t).loose) ∷ (loose_lists bytes kids ++ lists) else loose_lists bytes kids ++ lists) h
      ∙ ap (λ (z : Bool). z ∷ (loose_lists bytes kids ++ lists)) (sym (list_is kids))
      ∙ ap (λ (t : Bool). (if t then is_loose_list bytes true kids ∷ loose_lists bytes kids else loose_lists bytes kids) ++ lists) (sym h)
  lists_by false name kids lists h =
      let both = λ (t : Bool). let l = level_over kids
      (new_level (if t then Some (Only n.ListItem) else (if same_name name n.ListItem then Some Block else None))) in l in
      ap (λ (t : Bool). if t then ((both t).apart || (both t).loose) ∷ (loose_lists bytes kids ++ lists) else loose_lists bytes kids ++ lists) h
      ∙ ap (λ (t : Bool). (if t then is_loose_list bytes true kids ∷ loose_lists bytes kids else loose_lists bytes kids) ++ lists) (sym h)

  on_event : (e : Event) (kind : Kind) (p : PassView) → e.kind ≡ kind → pass_event bytes p e ≡ pass_next bytes kind e.name (spot_of e) p
  on_event e kind p h = ap (λ (z : Kind). pass_next bytes z e.name (spot_of e) p) h

  passed_over : (ns : Nodes) → AreNodes ns → (l : Level) (outer : List Level) (lists : List Bool)
      → passed bytes (pass_at l outer lists) (events_of ns) ≡ pass_at (level_over ns l) outer (loose_lists bytes ns ++ lists)
  passed_over Nil k l outer lists = refl
  passed_over (Cons (Around enter kids exit) ns) k l outer lists =
      let name = enter.name in
      let at = spot_of enter in
      let r = level_over ns l in
      let q = before_exit bytes name (spot_of exit) r in
      let found = loose_lists bytes ns ++ lists in
      let own = level_over kids (new_level (compared_in name)) in
      let then_kids = λ (p : PassView). pass_event bytes (passed bytes p (events_of kids)) enter in
      passed_both (pass_at l outer lists) (node_events (Around enter kids exit)) (events_of ns)
      ∙ ap (λ (p : PassView). passed bytes p (node_events (Around enter kids exit))) (passed_over ns k.1 l outer lists)
      ∙ ap (λ (p : PassView). pass_event bytes p enter) (passed_both (pass_at r outer found) (events_of kids) (exit ∷ []))
      ∙ ap then_kids (on_event exit Exit (pass_at r outer found) k.0.1)
      ∙ ap (λ (z : Name). then_kids (pass_at (new_level (compared_in z)) (before_exit bytes z (spot_of exit) r ∷ outer) found)) k.0.2
      ∙ ap (λ (p : PassView). pass_event bytes p enter) (passed_over kids k.0.3 (new_level (compared_in name)) (q ∷ outer) found)
      ∙ on_event enter Enter (pass_at own (q ∷ outer) (loose_lists bytes kids ++ found)) k.0.0
      ∙ ap (pass_at (before_enter name at own.apart q) outer)
      (lists_by (is_list name) name kids found refl
      ∙ sym (append_assoc (node_lists bytes (Around enter kids exit)) (loose_lists bytes ns) lists))

  -- The law of lists: looseness by events is that of the tree.
  pub lists_law : (ns : Nodes) → AreNodes ns → (passed bytes pass_start (events_of ns)).lists ≡ loose_lists bytes ns
  lists_law ns k =
      ap (λ (p : PassView). p.lists) (passed_over ns k (new_level None) [] []) ∙ append-nil (loose_lists bytes ns)
