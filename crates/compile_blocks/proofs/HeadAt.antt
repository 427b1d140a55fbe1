-- Where the head of a table stands in the list.
use Rattle.std.proofs.Common.{◌≡◌, ℕ, ◌+◌, ◌<◌, List, [], ◌∷◌, ◌++◌, Option, refl, sym, ap, ◌∙◌, subst, take, length, append_assoc, arith}
use Rattle.std.proofs.lemmas.List.{length-append, length-take, length-drop, take-append-drop}
use Rattle.std.specs.Option.{IfSome}
use Rattle.compile_blocks.proofs.Prelude.{after_child, Around, before_child, Event, events_of, IsAt, IsChildOf, kids_of, Name, Node, Nodes, Sibling}
use Rattle.event_check.specs.Loose as loose
use Rattle.event_grammar.specs.Trees.{node_events, AreNodes, IsNode}
use Rattle.compile_raw.specs.Sound.{StandsAt}
use Rattle.compile_raw.proofs.Children.{child_around, child_has}

pub same_kids : (node : Node) → loose.kids_of node ≡ kids_of node
same_kids (Around enter kids exit) = refl

some_events : (node : Node) → 0 < length (node_events node)
some_events (Around enter kids exit) = omega arith

-- the index of the child among the events
index_of : (i : ℕ) (es before own rest : List Event) → es ≡ before ++ (own ++ rest) → 0 < length own → take i es ≡ before → i ≡ length before
index_of i es before own rest e some h =
    omega (arith, ap length e, length-append before (own ++ rest), length-append own rest, ap length h, length-take i es, some)

-- and in the list around them
regroup : (front : List Event) (enter exit : Event) (before own rest back : List Event)
    → front ++ ((enter ∷ ((before ++ (own ++ rest)) ++ exit ∷ [])) ++ back) ≡ (front ++ enter ∷ before) ++ (own ++ ((rest ++ exit ∷ []) ++ back))
regroup front enter exit before own rest back = simp append_assoc

-- where it stands, within the list
pub record ChildAt (events : List Event) (index : ℕ) (node : Node) : Type 0 where
  pub stands : IsAt events index node
  pub within : index < length events

pub child_at : (name : Name) (events : List Event) (index : ℕ) (enter exit : Event) (kids : Nodes) (found : Sibling)
    (child : IsChildOf name (events_of kids) kids found) → AreNodes kids → StandsAt events index (Around enter kids exit) → ChildAt events (index + 1 + found.index) child.node
child_at name events index enter exit kids found c k s =
    let before = events_of (before_child name kids) in
    let own = node_events c.node in
    let rest = events_of (after_child name kids) in
    let back = s.0 in
    let front = take index events in
    let kids_are : events_of kids ≡ before ++ (own ++ rest) = child_around name kids c.node c.named in
    let some : 0 < length own = some_events c.node in
    let i_is : found.index ≡ length before = index_of found.index (events_of kids) before own rest kids_are some c.before in
    let front_is : length front ≡ index = omega (arith, length-take index events, length-drop index events, ap length s.1) in
    let whole : events ≡ (front ++ enter ∷ before) ++ (own ++ ((rest ++ exit ∷ []) ++ back)) =
    sym (take-append-drop index events)
    ∙ ap (λ (x : List Event). front ++ x) s.1
    ∙ ap (λ (x : List Event). front ++ ((enter ∷ (x ++ exit ∷ [])) ++ back)) kids_are
    ∙ regroup front enter exit before own rest back in
    let size : length (front ++ enter ∷ before) ≡ index + 1 + found.index = omega (arith, length-append front (enter ∷ before), front_is, i_is) in
    let is_node : IsNode c.node =
    (let P : Option Node → Type 0 = λ o. IfSome o IsNode in subst P c.named (child_has name AreNodes IsNode tt (λ node ns h. h) kids k)) in
    record {
      stands = (front ++ enter ∷ before, (rest ++ exit ∷ []) ++ back, whole, size, is_node);
      within = omega (
        arith,
        ap length whole,
        length-append (front ++ enter ∷ before) (own ++ ((rest ++ exit ∷ []) ++ back)),
        length-append own ((rest ++ exit ∷ []) ++ back),
        size,
        some,
      );
    }
