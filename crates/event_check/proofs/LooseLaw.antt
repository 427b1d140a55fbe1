-- Looseness by events is that of the tree.
use Rattle.std.proofs.Common.{◌≡◌, ℕ, ◌+◌, ◌-◌, ◌==◌, Bool, true, false, ◌&&◌, ◌||◌, if◌then◌else◌, List, [], ◌∷◌, ◌++◌, length, drop, Option, None, Some, refl, sym, ap, ◌∙◌, append_assoc, arith}
use Rattle.event_check.proofs.Prelude.{apart_after, are_apart, AreNodes, Around, Child, cond-false, Cons, eqb-true, Event, events_of, has, has_loose_item}
use Rattle.event_check.proofs.Prelude.{IsAt, item_after, kids_of, Kind, Name, Nil, Node, Nodes, same_name, Spot, spot_of}
use Rattle.std.proofs.lemmas.List.{length-append}
use Rattle.std.proofs.Math.Seq.{drop-append_seam}
use Rattle.engine_events.specs.declared.event.Kind.TheVariants.{Enter, Exit}
use Rattle.engine_events.specs.declared.event.Name.TheVariants as n
use Rattle.event_grammar.specs.declared.slot.Child.TheVariants.{Block}
use Rattle.event_check.specs.Loose.{is_far, is_loose_item, apart_next, item_next}
use Rattle.event_check.proofs.Fits.{split}

zero_by : (q : ℕ) (t : Bool) → ((q + 1) == 0) ≡ t → t ≡ false
zero_by q true e = absurd (let l = eqb-true (q + 1) 0 e in omega arith)
zero_by q false e = refl

pub nonzero : (q : ℕ) → ((q + 1) == 0) ≡ false
nonzero q = zero_by q ((q + 1) == 0) refl

pub less : (q : ℕ) → (q + 1) - 1 ≡ q
less q = omega arith

-- ---- a node in a list

pub record Inside (events : List Event) (index : ℕ) (kids : Nodes) (exit : Event) : Type 0 where
  pub back : List Event
  pub rest : drop (index + 1) events ≡ events_of kids ++ exit ∷ back

pub inside : (events : List Event) (index : ℕ) (enter : Event) (kids : Nodes) (exit : Event) → IsAt events index (Around enter kids exit) → Inside events index kids exit
inside events index enter kids exit h =
    let front = h.0 in
    let back = h.1 in
    let tail = events_of kids ++ exit ∷ back in
    let size : length (front ++ enter ∷ []) ≡ index + 1 = (let l = length-append front (enter ∷ []) in let k = h.3 in omega (arith, l, k)) in
    record {
      back = back;
      rest = ap (λ (z : ℕ). drop z events) (sym size)
          ∙ ap (λ (z : List Event). drop (length (front ++ enter ∷ [])) z) (h.2 ∙ ap (λ (z : List Event). front ++ (enter ∷ z)) (one kids exit back)
          ∙ sym (append_assoc front (enter ∷ []) tail))
          ∙ drop-append_seam (front ++ enter ∷ []) tail;
    }
  where
    one : (kids : Nodes) (exit : Event) (back : List Event) → (events_of kids ++ exit ∷ []) ++ back ≡ events_of kids ++ exit ∷ back
    one kids exit back = append_assoc (events_of kids) (exit ∷ []) back

module _ (bytes : List ℕ) where
  module _ (child : Child) where
    abbrev Rest : Type 0
    Rest = ℕ → Option Spot → Bool

    enter_deep : (kind : Kind) (name : Name) (at : Spot) (d : ℕ) (last : Option Spot) (others : Rest) → kind ≡ Enter → (d == 0) ≡ false
        → apart_next bytes kind name at child d last others ≡ others (d + 1) last
    enter_deep kind name at d last others h z =
        ap (λ (k : Kind). apart_next bytes k name at child d last others) h
        ∙ ap (λ (t : Bool). if t && has child name && is_far bytes last at then true else others (d + 1) last) z

    exit_up : (kind : Kind) (name : Name) (at : Spot) (d : ℕ) (last : Option Spot) (others : Rest) → kind ≡ Exit
        → apart_next bytes kind name at child (d + 1) last others ≡ others d (if (d == 0) && has child name then Some at else last)
    exit_up kind name at d last others h =
        ap (λ (k : Kind). apart_next bytes k name at child (d + 1) last others) h
        ∙ cond-false ((d + 1) == 0) false (others ((d + 1) - 1) (if ((d + 1) - 1 == 0) && has child name then Some at else last)) (nonzero d)
        ∙ ap (λ (z : ℕ). others z (if (z == 0) && has child name then Some at else last)) (less d)

    deep : (ns : Nodes) → AreNodes ns → (d : ℕ) → (d == 0) ≡ false → (last : Option Spot) (es : List Event)
        → apart_after bytes child d last (events_of ns ++ es) ≡ apart_after bytes child d last es
    deep Nil k d z last es = refl
    deep (Cons (Around enter kids exit) ns) k d z last es =
        let rest = events_of ns ++ es in
        ap (λ (l : List Event). apart_after bytes child d last (enter ∷ l)) (split kids ns exit es)
        ∙ enter_deep enter.kind enter.name (spot_of enter) d last (λ e l. apart_after bytes child e l (events_of kids ++ exit ∷ rest)) k.0.0 z
        ∙ deep kids k.0.3 (d + 1) (nonzero d) last (exit ∷ rest)
        ∙ exit_up exit.kind exit.name (spot_of exit) d last (λ e l. apart_after bytes child e l rest) k.0.1
        ∙ ap (λ (t : Bool). apart_after bytes child d (if t && has child exit.name then Some (spot_of exit) else last) rest) z
        ∙ deep ns k.1 d z last es

    ends_by : (h f : Bool) (at : Spot) (last : Option Spot) (ns : Nodes)
        → (if h && f then true else are_apart bytes child (if h then Some at else last) ns)
        ≡ (if h then f || are_apart bytes child (Some at) ns else are_apart bytes child last ns)
    ends_by true true at last ns = refl
    ends_by true false at last ns = refl
    ends_by false f at last ns = refl

    pub apart_law : (ns : Nodes) → AreNodes ns → (last : Option Spot) (exit : Event) (es : List Event) → exit.kind ≡ Exit
        → apart_after bytes child 0 last (events_of ns ++ exit ∷ es) ≡ are_apart bytes child last ns
    apart_law Nil k last exit es x = ap (λ (z : Kind). apart_next bytes z exit.name (spot_of exit) child 0 last (λ d l. apart_after bytes child d l es)) x
    apart_law (Cons (Around enter kids end) ns) k last exit es x =
        let rest = events_of ns ++ exit ∷ es in
        let inner = events_of kids ++ end ∷ rest in
        let far = is_far bytes last (spot_of enter) in
        ap (λ (l : List Event). apart_after bytes child 0 last (enter ∷ l)) (split kids ns end (exit ∷ es))
        ∙ ap (λ (z : Kind). apart_next bytes z enter.name (spot_of enter) child 0 last (λ d l. apart_after bytes child d l inner)) k.0.0
        ∙ ap (λ (z : Bool). if has child enter.name && far then true else z)
        (deep kids k.0.3 1 refl last (end ∷ rest)
        ∙ exit_up end.kind end.name (spot_of end) 0 last (λ d l. apart_after bytes child d l rest) k.0.1
        ∙ ap (λ (z : Name). apart_after bytes child 0 (if has child z then Some (spot_of end) else last) rest) k.0.2
        ∙ apart_law ns k.1 (if has child enter.name then Some (spot_of end) else last) exit es x)
        ∙ ends_by (has child enter.name) far (spot_of end) last ns

  -- ---- items

  item_enter : (kind : Kind) (name : Name) (loose : Bool) (d : ℕ) (others : ℕ → Bool) → kind ≡ Enter → (d == 0) ≡ false
      → item_next bytes kind name loose d others ≡ others (d + 1)
  item_enter kind name loose d others h z =
      ap (λ (k : Kind). item_next bytes k name loose d others) h
      ∙ ap (λ (t : Bool). if t && same_name name n.ListItem && loose then true else others (d + 1)) z

  item_exit : (kind : Kind) (name : Name) (loose : Bool) (d : ℕ) (others : ℕ → Bool) → kind ≡ Exit
      → item_next bytes kind name loose (d + 1) others ≡ others d
  item_exit kind name loose d others h =
      ap (λ (k : Kind). item_next bytes k name loose (d + 1) others) h
      ∙ cond-false ((d + 1) == 0) false (others ((d + 1) - 1)) (nonzero d)
      ∙ ap others (less d)

  abbrev loose_after : List Event → Bool
  loose_after es = apart_after bytes Block 0 None es

  item_deep : (ns : Nodes) → AreNodes ns → (d : ℕ) → (d == 0) ≡ false → (es : List Event) → item_after bytes d (events_of ns ++ es) ≡ item_after bytes d es
  item_deep Nil k d z es = refl
  item_deep (Cons (Around enter kids exit) ns) k d z es =
      let rest = events_of ns ++ es in
      let inner = events_of kids ++ exit ∷ rest in
      ap (λ (l : List Event). item_after bytes d (enter ∷ l)) (split kids ns exit es)
      ∙ item_enter enter.kind enter.name (loose_after inner) d (λ e. item_after bytes e inner) k.0.0 z
      ∙ item_deep kids k.0.3 (d + 1) (nonzero d) (exit ∷ rest)
      ∙ item_exit exit.kind exit.name (loose_after rest) d (λ e. item_after bytes e rest) k.0.1
      ∙ item_deep ns k.1 d z es

  or_by : (a b : Bool) → (if a then true else b) ≡ (a || b)
  or_by true b = refl
  or_by false b = refl

  item_law : (ns : Nodes) → AreNodes ns → (exit : Event) (es : List Event) → exit.kind ≡ Exit
      → item_after bytes 0 (events_of ns ++ exit ∷ es) ≡ has_loose_item bytes ns
  item_law Nil k exit es x = ap (λ (z : Kind). item_next bytes z exit.name (loose_after es) 0 (λ d. item_after bytes d es)) x
  item_law (Cons (Around enter kids end) ns) k exit es x =
      let rest = events_of ns ++ exit ∷ es in
      let inner = events_of kids ++ end ∷ rest in
      let item = same_name enter.name n.ListItem in
      ap (λ (l : List Event). item_after bytes 0 (enter ∷ l)) (split kids ns end (exit ∷ es))
      ∙ ap (λ (z : Kind). item_next bytes z enter.name (loose_after inner) 0 (λ d. item_after bytes d inner)) k.0.0
      ∙ ap (λ (z : Bool). if item && z then true else item_after bytes 1 inner) (apart_law Block kids k.0.3 None end rest k.0.1)
      ∙ ap (λ (z : Bool). if item && is_loose_item bytes kids then true else z)
      (item_deep kids k.0.3 1 refl (end ∷ rest)
      ∙ item_exit end.kind end.name (loose_after rest) 0 (λ d. item_after bytes d rest) k.0.1
      ∙ item_law ns k.1 exit es x)
      ∙ or_by (item && is_loose_item bytes kids) (has_loose_item bytes ns)

  -- ---- what code finds

  pub apart_is : (child : Child) (events : List Event) (index : ℕ) (node : Node) → IsAt events index node
      → apart_after bytes child 0 None (drop (index + 1) events) ≡ are_apart bytes child None (kids_of node)
  apart_is child events index (Around enter kids exit) h =
      let i = inside events index enter kids exit h in
      ap (apart_after bytes child 0 None) i.rest ∙ apart_law child kids h.4.3 None exit i.back h.4.1

  pub items_are : (events : List Event) (index : ℕ) (node : Node) → IsAt events index node
      → item_after bytes 0 (drop (index + 1) events) ≡ has_loose_item bytes (kids_of node)
  items_are events index (Around enter kids exit) h =
      let i = inside events index enter kids exit h in
      ap (item_after bytes 0) i.rest ∙ item_law kids h.4.3 exit i.back h.4.1

-- ---- either of two tests

no_bool : (A : Type 0) (b : Bool) → b ≡ true → b ≡ false → A
no_bool A b h k = absurd (let f : true ≡ false = sym h ∙ k in cc)

pub by_first : (r a b : Bool) → r ≡ a → r ≡ true → r ≡ (a || b)
by_first r true b e h = h
by_first r false b e h = no_bool _ r h e

pub by_second : (r a asked x b : Bool) → r ≡ a → r ≡ false → asked ≡ true → x ≡ b → x ≡ (a || (asked && b))
by_second r true asked x b e h k l = no_bool _ r e h
by_second r false true x b e h k l = l
by_second r false false x b e h k l = absurd (let f : false ≡ true = k in cc)

pub by_neither : (r a asked b : Bool) → r ≡ a → r ≡ false → asked ≡ false → asked ≡ (a || (asked && b))
by_neither r true asked b e h k = no_bool _ r e h
by_neither r false true b e h k = absurd (let f : true ≡ false = k in cc)
by_neither r false false b e h k = refl
