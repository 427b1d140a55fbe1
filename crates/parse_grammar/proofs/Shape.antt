-- The events of sound nodes hold something where their names say so.
use Rattle.std.proofs.Common.{◌≡◌, ℕ, Bool, true, false, not, ◌&&◌, List, [], ◌∷◌, ◌++◌, inl, inr, refl, sym, ap, ap₂, subst, ◌∙◌, append_assoc}
use Rattle.std.proofs.Math.Bool.{and-false}
use Rattle.std.proofs.lemmas.Bool.{and_from, cases_Bool, true≢false}
use Rattle.std.proofs.lemmas.List.{append-nil}
use Rattle.markdown_options.specs.declared.configuration.Constructs.{Constructs}
use Rattle.engine_events.specs.Names.{is_listed, same_name}
use Rattle.engine_events.specs.declared.event.Event.{Event}
use Rattle.engine_events.specs.declared.event.Kind.{Kind}
use Rattle.engine_events.specs.declared.event.Kind.TheVariants.{Enter, Exit}
use Rattle.definition_inline.specs.CharacterReference.{Names}
use Rattle.event_grammar.specs.Points.{edge, spot_of}
use Rattle.event_grammar.specs.Trees.{AreNodes, IsNode, Node, Nodes, Around, Nil, Cons, events_of, node_events, is_enter, is_pair}
use Rattle.event_tokens.specs.Shape.{full_names, is_hollow, is_untagged, no_neighbours, none_after}
use Rattle.definition_text.specs.Ascii.{less_than}
use Rattle.engine_events.specs.contracts.event.Name.{the_type}
use Rattle.engine_events.specs.declared.event.Name.TheVariants as n
use Rattle.std.specs.Prelude.{◌==◌, slice_index}
use denote.Enum.Bare.{same_true}
use Rattle.parse_references.specs.Sound.{AreSound, IsSound}
use Rattle.parse_grammar.specs.ShapeLaws.{SoundNodesHold}
use Rattle.parse_grammar.proofs.CallShape.{sound_calls}

exit_passes : (exit : Event) (es : List Event) → exit.kind ≡ Exit → none_after is_hollow exit es ≡ true
exit_passes exit [] is = refl
exit_passes exit (next ∷ es) is =
    ap (λ (k : Kind). not ((is_enter k && (not (is_enter next.kind) && same_name exit.name next.name)) && is_listed full_names exit.name)) is

enter_passes : (enter next : Event) (es : List Event) → enter.kind ≡ Enter → next.kind ≡ Enter → none_after is_hollow enter (next ∷ es) ≡ true
enter_passes enter next es is next_is =
    ap₂ (λ (k l : Kind). not ((is_enter k && (not (is_enter l) && same_name enter.name next.name)) && is_listed full_names enter.name)) is next_is

-- an event that may hold nothing
alone_passes : (enter exit : Event) (es : List Event) → is_listed full_names enter.name ≡ false → none_after is_hollow enter (exit ∷ es) ≡ true
alone_passes enter exit es other = ap (λ b. not (is_pair enter exit && b)) other ∙ ap not (and-false (is_pair enter exit))

module _ (on : Constructs) (names : Names) (text : List ℕ) where
  alone_other : (enter exit : Event) → IsSound on names text (Around enter Nil exit) → is_listed full_names enter.name ≡ false
  alone_other enter exit sound = elim (cases_Bool (is_listed full_names enter.name)) [
    | inl full ↦ absurd (true≢false (sound.0.some full))
    | inr other ↦ other
  ]

  exit_holds : (exit : Event) (rest : List Event) → exit.kind ≡ Exit → no_neighbours is_hollow rest ≡ true → no_neighbours is_hollow (exit ∷ rest) ≡ true
  exit_holds exit rest is h = and_from (none_after is_hollow exit rest) (no_neighbours is_hollow rest) (exit_passes exit rest is) h

  mutual
    node_holds : (node : Node) (rest : List Event) → IsNode node → IsSound on names text node → no_neighbours is_hollow rest ≡ true
        → no_neighbours is_hollow (node_events node ++ rest) ≡ true
    node_holds (Around enter Nil exit) rest is sound h =
        and_from (none_after is_hollow enter (exit ∷ rest)) (no_neighbours is_hollow (exit ∷ rest))
        (alone_passes enter exit rest (alone_other enter exit sound)) (exit_holds exit rest is.1 h)
    node_holds (Around enter (Cons (Around first kids last) ns) exit) rest is sound h =
        let inner = events_of (Cons (Around first kids last) ns) in
        let all = nodes_hold (Cons (Around first kids last) ns) (exit ∷ rest) is.3 sound.1 (exit_holds exit rest is.1 h) in
        and_from (none_after is_hollow enter ((inner ++ exit ∷ []) ++ rest)) (no_neighbours is_hollow ((inner ++ exit ∷ []) ++ rest))
        (enter_passes enter first ((((events_of kids ++ last ∷ []) ++ events_of ns) ++ exit ∷ []) ++ rest) is.0 is.3.0.0)
        (ap (no_neighbours is_hollow) (append_assoc inner (exit ∷ []) rest) ∙ all)

    nodes_hold : (ns : Nodes) (rest : List Event) → AreNodes ns → AreSound on names text ns → no_neighbours is_hollow rest ≡ true
        → no_neighbours is_hollow (events_of ns ++ rest) ≡ true
    nodes_hold Nil rest are sound h = h
    nodes_hold (Cons node ns) rest are sound h =
        ap (no_neighbours is_hollow) (append_assoc (node_events node) (events_of ns) rest)
        ∙ node_holds node (events_of ns ++ rest) are.0 sound.0 (nodes_hold ns rest are.1 sound.1 h)

-- ---- raw HTML in texts

-- whether raw HTML in a text is entered
abbrev enters_html : Event → Bool
enters_html event = is_enter event.kind && same_name event.name n.HtmlText

other_tagged : (text : List ℕ) (event : Event) (es : List Event) → enters_html event ≡ false → none_after (is_untagged text) event es ≡ true
other_tagged text event [] other = refl
other_tagged text event (next ∷ es) other = ap (λ b. not (b && not (slice_index text (edge (spot_of next)) == less_than))) other

tag_tagged : (text : List ℕ) (event next : Event) (es : List Event) → slice_index text (edge (spot_of next)) ≡ less_than
    → none_after (is_untagged text) event (next ∷ es) ≡ true
tag_tagged text event next es is =
    ap (λ b. not (enters_html event && not (b == less_than))) is ∙ ap not (and-false (enters_html event))

exit_enters : (exit : Event) → exit.kind ≡ Exit → enters_html exit ≡ false
exit_enters exit is = ap (λ (k : Kind). is_enter k && same_name exit.name n.HtmlText) is

module _ (on : Constructs) (names : Names) (text : List ℕ) where
  exit_tagged : (exit : Event) (rest : List Event) → exit.kind ≡ Exit → no_neighbours (is_untagged text) rest ≡ true
      → no_neighbours (is_untagged text) (exit ∷ rest) ≡ true
  exit_tagged exit rest is h =
      and_from (none_after (is_untagged text) exit rest) (no_neighbours (is_untagged text) rest) (other_tagged text exit rest (exit_enters exit is)) h

  -- an event that holds nothing isn't raw HTML
  hollow_enters : (enter exit : Event) → IsSound on names text (Around enter Nil exit) → enters_html enter ≡ false
  hollow_enters enter exit sound = elim (cases_Bool (same_name enter.name n.HtmlText)) [
    | inl html ↦
        let is = same_true the_type tt enter.name n.HtmlText html in
        absurd (true≢false (sound.0.some (ap (is_listed full_names) is)))
    | inr other ↦ ap (λ b. is_enter enter.kind && b) other ∙ and-false (is_enter enter.kind)
  ]

  mutual
    node_tagged : (node : Node) (rest : List Event) → IsNode node → IsSound on names text node → no_neighbours (is_untagged text) rest ≡ true
        → no_neighbours (is_untagged text) (node_events node ++ rest) ≡ true
    node_tagged (Around enter Nil exit) rest is sound h =
        and_from (none_after (is_untagged text) enter (exit ∷ rest)) (no_neighbours (is_untagged text) (exit ∷ rest))
        (other_tagged text enter (exit ∷ rest) (hollow_enters enter exit sound)) (exit_tagged exit rest is.1 h)
    node_tagged (Around enter (Cons (Around first kids last) ns) exit) rest is sound h =
        let inner = events_of (Cons (Around first kids last) ns) in
        let more = (((events_of kids ++ last ∷ []) ++ events_of ns) ++ exit ∷ []) ++ rest in
        let all = nodes_tagged (Cons (Around first kids last) ns) (exit ∷ rest) is.3 sound.1 (exit_tagged exit rest is.1 h) in
        let tagged : none_after (is_untagged text) enter (first ∷ more) ≡ true =
        elim (cases_Bool (same_name enter.name n.HtmlText)) [
          | inl html ↦ tag_tagged text enter first more (sound.0.html (same_true the_type tt enter.name n.HtmlText html))
          | inr other ↦
              other_tagged text enter (first ∷ more) (ap (λ b. is_enter enter.kind && b) other ∙ and-false (is_enter enter.kind))
        ] in
        and_from (none_after (is_untagged text) enter (first ∷ more)) (no_neighbours (is_untagged text) ((inner ++ exit ∷ []) ++ rest)) tagged
        (ap (no_neighbours (is_untagged text)) (append_assoc inner (exit ∷ []) rest) ∙ all)

    nodes_tagged : (ns : Nodes) (rest : List Event) → AreNodes ns → AreSound on names text ns → no_neighbours (is_untagged text) rest ≡ true
        → no_neighbours (is_untagged text) (events_of ns ++ rest) ≡ true
    nodes_tagged Nil rest are sound h = h
    nodes_tagged (Cons node ns) rest are sound h =
        ap (no_neighbours (is_untagged text)) (append_assoc (node_events node) (events_of ns) rest)
        ∙ node_tagged node (events_of ns ++ rest) are.0 sound.0 (nodes_tagged ns rest are.1 sound.1 h)

pub sound_nodes_hold : SoundNodesHold
sound_nodes_hold = record {
  some = λ on names text ns are sound.
      sym (ap (no_neighbours is_hollow) (append-nil (events_of ns))) ∙ nodes_hold on names text ns [] are sound refl;
  tags = λ on names text ns are sound.
      sym (ap (no_neighbours (is_untagged text)) (append-nil (events_of ns))) ∙ nodes_tagged on names text ns [] are sound refl;
  calls = λ on names text ns are sound. sound_calls on names text ns are sound;
}
