-- What the nodes of a list in the grammar have, their children have.
use Rattle.std.proofs.Common.{◌≡◌, ℕ, List, [], ◌∷◌, ◌++◌, Option, None, Some, refl, sym, subst}
use Rattle.compile_raw.proofs.Prelude.{after_child, AreNodes, AreSound, Around, before_child, child, Cons, Event, events_of, IfSome, IsNode, IsSound}
use Rattle.compile_raw.proofs.Prelude.{IsTextNode, kids_in, kids_of, Name, Nil, Node, node_events, Nodes, Spot, spot_of}
use Rattle.event_grammar.specs.InGrammar.{PlacesFit}
use Rattle.event_grammar.specs.Points.{spot}
use Rattle.event_meaning.specs.Children.{inside_of}
use Rattle.compile_rows.specs.Texts.{HasEndings, HaveEndings}
use Rattle.compile_written.specs.Texts.{AreTexts}
use Rattle.compile_raw.specs.Sound.{HasRank, HaveRanks, HasHtml, HaveHtml, HavePlaces}
use Rattle.compile_raw.proofs.Children.{child_has, after_has, before_has, no_child_before, child_around}

module _ (bytes : List ℕ) where
  -- places of some events and of others after them
  record BothFit (at : Spot) (xs ys : List Event) : Type 0 where
    pub first : PlacesFit bytes at xs
    pub later : Spot
    pub second : PlacesFit bytes later ys

  places_split : (xs ys : List Event) (at : Spot) → PlacesFit bytes at (xs ++ ys) → BothFit at xs ys
  places_split [] ys at h = record { first = tt; later = at; second = h }
  places_split (x ∷ xs) ys at h =
      let both = places_split xs ys (spot_of x) h.2 in
      record { first = (h.0, h.1, both.first); later = both.later; second = both.second }

  pub none_sound : AreSound bytes Nil
  none_sound = record { nodes = tt; texts = tt; endings = tt; ranks = tt; html = tt; places = (spot 0 0, tt) }

  pub first_sound : (node : Node) (ns : Nodes) → AreSound bytes (Cons node ns) → IsSound bytes node × AreSound bytes ns
  first_sound node ns h =
      let both = places_split (node_events node) (events_of ns) h.places.0 h.places.1 in (
        record { is_node = h.nodes.0; texts = h.texts.0; endings = h.endings.0; rank = h.ranks.0; html = h.html.0; places = (h.places.0, both.first) },
        record { nodes = h.nodes.1; texts = h.texts.1; endings = h.endings.1; ranks = h.ranks.1; html = h.html.1; places = (both.later, both.second) },
      )

  pub inner_sound : (node : Node) → IsSound bytes node → AreSound bytes (kids_of node)
  inner_sound (Around enter kids exit) h =
      let both = places_split (events_of kids) (exit ∷ []) (spot_of enter) h.places.1.2 in
      record { nodes = h.is_node.3; texts = h.texts.1; endings = h.endings.1; ranks = h.rank.1; html = h.html.1; places = (spot_of enter, both.first) }

  pub child_sound : (name : Name) (ns : Nodes) (node : Node) → child name ns ≡ Some node → AreSound bytes ns → AreSound bytes (kids_of node)
  child_sound name ns node e h =
      let P : Option Node → Type 0 = λ o. IfSome o (IsSound bytes) in
      inner_sound node (subst P e (child_has name (AreSound bytes) (IsSound bytes) none_sound first_sound ns h))

  inside_sound : (o : Option Node) → IfSome o (IsSound bytes) → AreSound bytes (inside_of o)
  inside_sound None h = none_sound
  inside_sound (Some node) h = inner_sound node h

  pub kids_sound : (name : Name) (ns : Nodes) → AreSound bytes ns → AreSound bytes (kids_in name ns)
  kids_sound name ns h = inside_sound (child name ns) (child_has name (AreSound bytes) (IsSound bytes) none_sound first_sound ns h)

  pub after_sound : (name : Name) (ns : Nodes) → AreSound bytes ns → AreSound bytes (after_child name ns)
  after_sound name ns h = after_has name (AreSound bytes) (IsSound bytes) none_sound first_sound ns h

  -- the places before the child are among all
  places_before : (name : Name) (ns : Nodes) (o : Option Node) → child name ns ≡ o → HavePlaces bytes (events_of ns)
      → HavePlaces bytes (events_of (before_child name ns))
  places_before name ns None e h = subst (λ (x : Nodes). HavePlaces bytes (events_of x)) (sym (no_child_before name ns e)) h
  places_before name ns (Some node) e h =
      let around = subst (HavePlaces bytes) (child_around name ns node e) h in
      (around.0, (places_split (events_of (before_child name ns)) (node_events node ++ events_of (after_child name ns)) around.0 around.1).first)

  pub before_sound : (name : Name) (ns : Nodes) → AreSound bytes ns → AreSound bytes (before_child name ns)
  before_sound name ns h =
      record {
        nodes = before_has name AreNodes IsNode tt (λ node ns h. h) (λ node ns h k. (h, k)) ns h.nodes;
        texts = before_has name (AreTexts bytes) (IsTextNode bytes) tt (λ node ns h. h) (λ node ns h k. (h, k)) ns h.texts;
        endings = before_has name (HaveEndings bytes) (HasEndings bytes) tt (λ node ns h. h) (λ node ns h k. (h, k)) ns h.endings;
        ranks = before_has name (HaveRanks bytes) (HasRank bytes) tt (λ node ns h. h) (λ node ns h k. (h, k)) ns h.ranks;
        html = before_has name HaveHtml HasHtml tt (λ node ns h. h) (λ node ns h k. (h, k)) ns h.html;
        places = places_before name ns (child name ns) refl h.places;
      }
