-- The text of an event by those in it is the text of its node.
use Rattle.std.proofs.Common.{◌≡◌, ℕ, ◌+◌, ◌-◌, ◌==◌, Bool, true, false, not, ◌&&◌, if◌then◌else◌, List, [], ◌∷◌, ◌++◌, refl, sym, ap, ◌∙◌, append_assoc, arith}
use Rattle.event_references.proofs.Prelude.{append-nil, AreNodes, Around, Cons, Event, events_of, is_enter, Kind, label_text, map, map-append, Name, named}
use Rattle.event_references.proofs.Prelude.{Nil, Node, Nodes, same_name, Spot, spot_of, text_after, text_of, texts_of}
use Rattle.std.proofs.lemmas.Bool.{eqb-true, cond-true, cond-false}
use Rattle.engine_events.specs.declared.event.Kind.TheVariants.{Enter, Exit}
use Rattle.engine_events.specs.declared.event.Name.TheVariants as n
use Rattle.event_grammar.specs.Points.{bytes_between}
use Rattle.event_grammar.specs.References.{nodes_text, node_text}
use Rattle.event_references.specs.Texts.{text_next, piece}

-- the events of a node and those after it, as its enter, its children, its exit and the others
pub split : (kids others : Nodes) (exit : Event) (es : List Event)
    → ((events_of kids ++ exit ∷ []) ++ events_of others) ++ es ≡ events_of kids ++ exit ∷ (events_of others ++ es)
split kids others exit es = simp append_assoc

zero_by : (q : ℕ) (t : Bool) → ((q + 1) == 0) ≡ t → t ≡ false
zero_by q true e = absurd (let l = eqb-true (q + 1) 0 e in omega arith)
zero_by q false e = refl

nonzero : (q : ℕ) → ((q + 1) == 0) ≡ false
nonzero q = zero_by q ((q + 1) == 0) refl

less : (q : ℕ) → (q + 1) - 1 ≡ q
less q = omega arith

-- an exit in a quote prefix, or in an event
exit_quoted : (kind : Kind) (name : Name) (q d : ℕ) (others : ℕ → ℕ → List ℕ) → kind ≡ Exit → text_next kind name (q + 1) d others ≡ others q d
exit_quoted kind name q d others h =
    ap (λ k. text_next k name (q + 1) d others) h
    ∙ cond-true (not ((q + 1) == 0)) (others ((q + 1) - 1) d) (if d == 0 then [] else others (q + 1) (d - 1)) (ap not (nonzero q))
    ∙ ap (λ (z : ℕ). others z d) (less q)

exit_inside : (kind : Kind) (name : Name) (d : ℕ) (others : ℕ → ℕ → List ℕ) → kind ≡ Exit → text_next kind name 0 (d + 1) others ≡ others 0 d
exit_inside kind name d others h =
    ap (λ k. text_next k name 0 (d + 1) others) h
    ∙ cond-false ((d + 1) == 0) [] (others 0 ((d + 1) - 1)) (nonzero d)
    ∙ ap (λ (z : ℕ). others 0 z) (less d)

exit_last : (kind : Kind) (name : Name) (others : ℕ → ℕ → List ℕ) → kind ≡ Exit → text_next kind name 0 0 others ≡ []
exit_last kind name others h = ap (λ k. text_next k name 0 0 others) h

enter_quoted : (kind : Kind) (name : Name) (q d : ℕ) (others : ℕ → ℕ → List ℕ) → kind ≡ Enter → (q == 0) ≡ false
    → text_next kind name q d others ≡ others (q + 1) d
enter_quoted kind name q d others h z =
    ap (λ k. text_next k name q d others) h
    ∙ ap (λ (t : Bool). if t && not (same_name name n.BlockQuotePrefix) then others q (d + 1) else others (q + 1) d) z

module _ (bytes : List ℕ) where
  no_piece : (q : ℕ) (from to : Spot) (rest : List ℕ) → (q == 0) ≡ false → piece bytes q from to ++ rest ≡ rest
  no_piece q from to rest z = ap (λ (t : Bool). (if t then bytes_between bytes from to else []) ++ rest) z

  -- nothing is read in a quote prefix
  quoted_over : (ns : Nodes) → AreNodes ns → (q d : ℕ) → (q == 0) ≡ false → (from : Spot) (e : Event) (es : List Event)
      → text_after bytes q d from (events_of ns ++ e ∷ es) ≡ text_next e.kind e.name q d (λ q d. text_after bytes q d (spot_of e) es)
  quoted_over Nil k q d z from e es = no_piece q from (spot_of e) (text_next e.kind e.name q d (λ q d. text_after bytes q d (spot_of e) es)) z
  quoted_over (Cons (Around enter kids exit) ns) k q d z from e es =
      let rest = events_of ns ++ e ∷ es in
      let inner = ((events_of kids ++ exit ∷ []) ++ events_of ns) ++ e ∷ es in
      no_piece q from (spot_of enter) (text_next enter.kind enter.name q d (λ q d. text_after bytes q d (spot_of enter) inner)) z
      ∙ enter_quoted enter.kind enter.name q d (λ q d. text_after bytes q d (spot_of enter) inner) k.0.0 z
      ∙ ap (λ (l : List Event). text_after bytes (q + 1) d (spot_of enter) l) (split kids ns exit (e ∷ es))
      ∙ quoted_over kids k.0.3 (q + 1) d (nonzero q) (spot_of enter) exit rest
      ∙ exit_quoted exit.kind exit.name q d (λ q d. text_after bytes q d (spot_of exit) rest) k.0.1
      ∙ quoted_over ns k.1 q d z (spot_of exit) e es

  -- what an event comes to that is entered, and those after it
  abbrev Over : Nodes → Type 0
  Over ns = (d : ℕ) (from : Spot) (e : Event) (es : List Event)
      → text_after bytes 0 d from (events_of ns ++ e ∷ es)
      ≡ nodes_text bytes from ns (spot_of e) ++ text_next e.kind e.name 0 d (λ q d. text_after bytes q d (spot_of e) es)

  node_by : (enter : Event) (kids : Nodes) (exit : Event) (d : ℕ) (rest : List Event) (b : Bool) → exit.kind ≡ Exit → AreNodes kids → Over kids
      → (if not b then text_after bytes 0 (d + 1) (spot_of enter) (events_of kids ++ exit ∷ rest)
      else text_after bytes 1 d (spot_of enter) (events_of kids ++ exit ∷ rest))
      ≡ (if b then [] else nodes_text bytes (spot_of enter) kids (spot_of exit)) ++ text_after bytes 0 d (spot_of exit) rest
  node_by enter kids exit d rest true x k ih =
      quoted_over kids k 1 d refl (spot_of enter) exit rest
      ∙ exit_quoted exit.kind exit.name 0 d (λ q d. text_after bytes q d (spot_of exit) rest) x
  node_by enter kids exit d rest false x k ih =
      ih (d + 1) (spot_of enter) exit rest
      ∙ ap (λ (z : List ℕ). nodes_text bytes (spot_of enter) kids (spot_of exit) ++ z)
      (exit_inside exit.kind exit.name d (λ q d. text_after bytes q d (spot_of exit) rest) x)

  pub over : (ns : Nodes) → AreNodes ns → Over ns
  over Nil k d from e es = refl
  over (Cons (Around enter kids exit) ns) k d from e es =
      let rest = events_of ns ++ e ∷ es in
      let inner = ((events_of kids ++ exit ∷ []) ++ events_of ns) ++ e ∷ es in
      let others = λ (l : List Event) (q d : ℕ). text_after bytes q d (spot_of enter) l in
      let front = bytes_between bytes from (spot_of enter) in
      let own = node_text bytes (Around enter kids exit) in
      let last = text_next e.kind e.name 0 d (λ q d. text_after bytes q d (spot_of e) es) in
      ap (λ (z : Kind). front ++ text_next z enter.name 0 d (others inner)) k.0.0
      ∙ ap (λ (l : List Event). front ++ text_next Enter enter.name 0 d (others l)) (split kids ns exit (e ∷ es))
      ∙ ap (λ (z : List ℕ). front ++ z) (node_by enter kids exit d rest (same_name enter.name n.BlockQuotePrefix) k.0.1 k.0.3 (over kids k.0.3))
      ∙ ap (λ (z : List ℕ). front ++ (own ++ z)) (over ns k.1 d (spot_of exit) e es)
      ∙ sym (regroup front own (nodes_text bytes (spot_of exit) ns (spot_of e)) last)
    where
      regroup : (a b c z : List ℕ) → (a ++ (b ++ c)) ++ z ≡ a ++ (b ++ (c ++ z))
      regroup a b c z = simp append_assoc

  -- The law of texts: the text of an event, by those after its enter, is that of its node.
  pub text_law : (enter : Event) (kids : Nodes) (exit : Event) (es : List Event) → exit.kind ≡ Exit → AreNodes kids
      → text_of bytes enter (events_of kids ++ exit ∷ es) ≡ nodes_text bytes (spot_of enter) kids (spot_of exit)
  text_law enter kids exit es x k =
      over kids k 0 (spot_of enter) exit es
      ∙ ap (λ (z : List ℕ). nodes_text bytes (spot_of enter) kids (spot_of exit) ++ z)
      (exit_last exit.kind exit.name (λ q d. text_after bytes q d (spot_of exit) es) x)
      ∙ append-nil (nodes_text bytes (spot_of enter) kids (spot_of exit))

  -- ---- the texts of all events of a name

  enters : (name : Name) (e : Event) (es : List Event) → e.kind ≡ Enter
      → texts_of bytes name (e ∷ es) ≡ (if same_name e.name name then text_of bytes e es ∷ texts_of bytes name es else texts_of bytes name es)
  enters name e es h =
      ap (λ (z : Kind). if is_enter z && same_name e.name name then text_of bytes e es ∷ texts_of bytes name es else texts_of bytes name es) h

  exits : (name : Name) (e : Event) (es : List Event) → e.kind ≡ Exit → texts_of bytes name (e ∷ es) ≡ texts_of bytes name es
  exits name e es h =
      ap (λ (z : Kind). if is_enter z && same_name e.name name then text_of bytes e es ∷ texts_of bytes name es else texts_of bytes name es) h

  apart : (inside others : List Node) (rest : List (List ℕ)) → map (label_text bytes) inside ++ (map (label_text bytes) others ++ rest)
      ≡ map (label_text bytes) (inside ++ others) ++ rest
  apart inside others rest =
      sym (append_assoc (map (label_text bytes) inside) (map (label_text bytes) others) rest)
      ∙ ap (λ (z : List (List ℕ)). z ++ rest) (sym (map-append (label_text bytes) inside others))

  named_by : (b : Bool) (node : Node) (inside others : List Node) (own : List ℕ) (rest : List (List ℕ)) → own ≡ label_text bytes node
      → (if b then own ∷ (map (label_text bytes) inside ++ (map (label_text bytes) others ++ rest))
      else map (label_text bytes) inside ++ (map (label_text bytes) others ++ rest))
      ≡ map (label_text bytes) ((if b then node ∷ inside else inside) ++ others) ++ rest
  named_by true node inside others own rest h =
      ap (λ (z : List ℕ). z ∷ (map (label_text bytes) inside ++ (map (label_text bytes) others ++ rest))) h
      ∙ ap (λ (z : List (List ℕ)). label_text bytes node ∷ z) (apart inside others rest)
  named_by false node inside others own rest h = apart inside others rest

  pub texts_law : (name : Name) (ns : Nodes) → AreNodes ns → (es : List Event)
      → texts_of bytes name (events_of ns ++ es) ≡ map (label_text bytes) (named name ns) ++ texts_of bytes name es
  texts_law name Nil k es = refl
  texts_law name (Cons (Around enter kids exit) ns) k es =
      let rest = events_of ns ++ es in
      let inside = events_of kids ++ exit ∷ rest in
      let b = same_name enter.name name in
      let found = map (label_text bytes) (named name kids) ++ (map (label_text bytes) (named name ns) ++ texts_of bytes name es) in
      let later : texts_of bytes name inside ≡ found =
      texts_law name kids k.0.3 (exit ∷ rest)
      ∙ ap (λ (z : List (List ℕ)). map (label_text bytes) (named name kids) ++ z) (exits name exit rest k.0.1 ∙ texts_law name ns k.1 es) in
      ap (λ (l : List Event). texts_of bytes name (enter ∷ l)) (split kids ns exit es)
      ∙ enters name enter inside k.0.0
      ∙ ap (λ (z : List (List ℕ)). if b then text_of bytes enter inside ∷ z else z) later
      ∙ named_by b (Around enter kids exit) (named name kids) (named name ns) (text_of bytes enter inside) (texts_of bytes name es)
      (text_law enter kids exit rest k.0.1 k.0.3)
