-- An attempt at a byte order mark reads one where a text begins with it, and nothing else.
use Rattle.std.proofs.Common.{◌≡◌, ◌∙◌, ℕ, Bool, true, false, ◌==◌, ◌&&◌, if◌then◌else◌, List, [], ◌∷◌, ◌++◌, drop, Some, None, inl, inr, refl, sym, ap, subst}
use Rattle.std.proofs.Common.{append_assoc}
use Rattle.std.proofs.lemmas.Bool.{and_right}
use Rattle.state_verdicts.proofs.BlockPrelude.{as_byte, AtHand, byte, cases_Bool, Config, Context, eqb-true, Event, event, feed, is_feed, Name, nothing}
use Rattle.state_verdicts.proofs.BlockPrelude.{past_byte, plain}
use Rattle.state_verdicts.proofs.BlockPrelude.{Point, run, Sees, State, tab, Text, text_byte, with_enter, with_exit}
use Rattle.definition_text.specs.Lines.{has_mark}
use Rattle.engine_events.specs.declared.event.Kind.TheVariants.{Enter, Exit}
use Rattle.engine_events.specs.declared.event.Name.TheVariants as names
use Rattle.engine_programs.specs.Bodies.{Body}
use Rattle.engine_states.specs.declared.state.Block.TheVariants as state_block
use Rattle.engine_states.specs.declared.state.Name.TheVariants.{Block}
use Rattle.engine_states.specs.declared.state.State.TheVariants as states
use Rattle.markdown_engine.specs.Reading.{at_point}
use Rattle.state_document.specs.Blocks.{blocks_bodies}
use Rattle.state_document.specs.Readers.{Calls}
use Rattle.state_verdicts.specs.Bom.{BomVerdict, MarkVerdict}
use Rattle.state_verdicts.specs.DocumentVerdicts.{GoesOn, InDocument, at_hand}
use Rattle.state_verdicts.proofs.MachineTurns.{and_on, byte_at, does, does_next, end_at, ends_well, fails, fed}
use Rattle.state_verdicts.proofs.Markers.{swap}
use Rattle.state_verdicts.proofs.Seen.{seen_sort}
use Rattle.state_verdicts.proofs.Standing.{Here, exits}

abbrev start : Name
start = Block state_block.BomStart

abbrev inside : Name
inside = Block state_block.BomInside

-- over a byte, so many of which were then read
abbrev over : {V : Type 0} → ℕ → Config V → Config V
over n c = past_byte (record c { tokenize_state = record c.tokenize_state { size = n } })

abbrev opened : {V : Type 0} → Config V → Config V
opened c = over 1 (with_enter names.ByteOrderMark None c)

two : (l : List Event) (a b : Event) → (l ++ a ∷ []) ++ b ∷ [] ≡ l ++ (a ∷ b ∷ [])
two l a b = simp append_assoc refl

module _ {T V : Type 0} (calls : Calls T V) (x : Context T) where
  start_none : (c : Config V) → c.current ≡ None → run (blocks_bodies calls x start) c ≡ plain c states.Nok
  unfolding blocks_bodies
  start_none c h = rw h refl

  start_does : (b : ℕ) (c : Config V) (is : Bool) → c.current ≡ Some b → (b == 239) ≡ is
      → run (blocks_bodies calls x start) c ≡ (if is then plain (opened c) (states.Next inside) else plain c states.Nok)
  unfolding blocks_bodies
  start_does b c is h k = rw (h, k) refl

  inside_none : (c : Config V) → c.current ≡ None → run (blocks_bodies calls x inside) c ≡ plain c states.Nok
  unfolding blocks_bodies
  inside_none c h = rw h refl

  second_does : (b : ℕ) (c : Config V) (is : Bool) → c.current ≡ Some b → c.tokenize_state.size ≡ 1 → (187 == b) ≡ is
      → run (blocks_bodies calls x inside) c ≡ (if is then plain (over 2 c) (states.Next inside) else plain c states.Nok)
  unfolding blocks_bodies
  second_does b c is h k l = rw (h, k, l) refl

  third_does : (b : ℕ) (c : Config V) (is : Bool) → c.current ≡ Some b → c.tokenize_state.size ≡ 2 → (191 == b) ≡ is
      → run (blocks_bodies calls x inside) c ≡ (if is then plain (with_exit names.ByteOrderMark (over 3 c)) states.Ok else plain c states.Nok)
  unfolding blocks_bodies
  third_does b c is h k l = rw (h, k, l) refl

itself : (m : ℕ) → (m == 10) ≡ false → (m == 13) ≡ false → (m == 257) ≡ false → (m == 32) ≡ (m == 256) → (c : ℕ) → (m == text_byte c) ≡ (m == c)
itself m feed back both same = seen_sort (λ b. m == b) feed back both same

-- a mark by its bytes
no_first : (a : ℕ) (cs : List ℕ) → (a == 239) ≡ false → has_mark (a ∷ cs) ≡ false
no_first a [] h = refl
no_first a (b ∷ []) h = refl
no_first a (b ∷ c ∷ cs) h = ap (λ (i : Bool). (i && (b == 187)) && (c == 191)) h

no_second : (a b : ℕ) (cs : List ℕ) → (b == 187) ≡ false → has_mark (a ∷ b ∷ cs) ≡ false
no_second a b [] h = refl
no_second a b (c ∷ cs) h = ap (λ (i : Bool). i && (c == 191)) (and_right (a == 239) (b == 187) h)

module _ {T V : Type 0} (here : InDocument T V) where
  abbrev c0 : Config V
  c0 = at_hand here

  abbrev x : Context T
  x = here.context

  abbrev bodies : Name → Body V
  bodies = blocks_bodies here.calls here.context

  abbrev text : Text
  text = here.text

  abbrev p : Point
  p = here.place

  at_p : AtHand text c0 p
  at_p = fed text (at_point p here.config) p refl

  abbrev begins : State
  begins = states.Retry start

  abbrev c1 : Config V
  c1 = feed text (opened c0)

  abbrev c2 : Config V
  c2 = feed text (over 2 c1)

  stops : run (bodies start) c0 ≡ plain c0 states.Nok → MarkVerdict here false
  stops h = (c0, fails bodies text c0 c0 begins (does bodies text start c0 c0 states.Nok h))

  module _ (a : ℕ) (q : Point) (e : text.byte (text.start p) ≡ Some (as_byte (text_byte a) q)) (first : (text_byte a == 239) ≡ true) where
    goes_first : GoesOn here c0 begins c1 (states.Retry inside)
    goes_first = does_next bodies text start inside c0 (opened c0) (start_does here.calls x (text_byte a) c0 true (byte_at at_p e) first)

    at_q : AtHand text c1 q
    at_q = fed text (opened c0) q (at_p.next (as_byte (text_byte a) q) e)

    stops_second : run (bodies inside) c1 ≡ plain c1 states.Nok → MarkVerdict here false
    stops_second h = (c1, fails bodies text c0 c1 begins (and_on bodies text goes_first (does bodies text inside c1 c1 states.Nok h)))

    module _ (b : ℕ) (r : Point) (f : text.byte (text.start q) ≡ Some (as_byte (text_byte b) r)) (second : (187 == text_byte b) ≡ true) where
      goes_second : GoesOn here c0 begins c2 (states.Retry inside)
      goes_second = and_on bodies text goes_first
          (does_next bodies text inside inside c1 (over 2 c1) (second_does here.calls x (text_byte b) c1 true (byte_at at_q f) refl second))

      at_r : AtHand text c2 r
      at_r = fed text (over 2 c1) r (at_q.next (as_byte (text_byte b) r) f)

      stops_third : run (bodies inside) c2 ≡ plain c2 states.Nok → MarkVerdict here false
      stops_third h = (c2, fails bodies text c0 c2 begins (and_on bodies text goes_second (does bodies text inside c2 c2 states.Nok h)))

      by_third : (c : ℕ) (ds : List ℕ) (t : Point) → here.codes ≡ a ∷ b ∷ c ∷ ds → text.byte (text.start r) ≡ Some (as_byte (text_byte c) t) → Sees text t ds
          → (is : Bool) → (191 == c) ≡ is → MarkVerdict here is
      by_third c ds t now g s true h =
          let third = itself 191 refl refl refl refl c ∙ h in
          let apart : is_feed c2.current ≡ false = ap is_feed (byte_at at_r g) ∙ ap (λ (i : ℕ). i == 10) (sym (eqb-true 191 (text_byte c) third)) in
          let entered : Here text c0 (c0.events ++ event Enter names.ByteOrderMark (text.start p) None ∷ []) (record here.config.tokenize_state { size = 3 })
          (over 3 c2) = record { events = refl; kept = refl; map = refl; resolvers = refl } in
          let f = exits text c0 names.ByteOrderMark entered apart (at_r.next (as_byte (text_byte c) t) g) in (
            with_exit names.ByteOrderMark (over 3 c2),
            t,
            ends_well bodies text c0 (with_exit names.ByteOrderMark (over 3 c2)) begins (and_on bodies text goes_second
                (does bodies text inside c2 (with_exit names.ByteOrderMark (over 3 c2)) states.Ok
                (third_does here.calls x (text_byte c) c2 true (byte_at at_r g) refl third))),
            record {
              events = f.events ∙ two c0.events (event Enter names.ByteOrderMark (text.start p) None) (event Exit names.ByteOrderMark t None);
              point = at_r.next (as_byte (text_byte c) t) g;
              kept = f.kept;
              map = f.map;
              resolvers = f.resolvers;
            },
            subst (λ (l : List ℕ). Sees text t (drop 3 l)) (sym now) s,
          )
      by_third c ds t now g s false h =
          stops_third (third_does here.calls x (text_byte c) c2 false (byte_at at_r g) refl (itself 191 refl refl refl refl c ∙ h))

      third_seen : (ds : List ℕ) → here.codes ≡ a ∷ b ∷ ds → Sees text r ds → (a == 239) ≡ true → (b == 187) ≡ true → MarkVerdict here (has_mark (a ∷ b ∷ ds))
      third_seen [] now (nothing g) h k = stops_third (inside_none here.calls x c2 (end_at at_r g))
      third_seen (c ∷ ds) now (byte {q = t} apart g s) h k =
          subst (λ (is : Bool). MarkVerdict here is) (swap 191 c ∙ sym (ap (λ (i : Bool). (i && (b == 187)) && (c == 191)) h
          ∙ ap (λ (i : Bool). i && (c == 191)) k)) (by_third c ds t now g s (191 == c) refl)
      third_seen (c ∷ ds) now (tab most g u s) h k =
          subst (λ (is : Bool). MarkVerdict here is) (sym (and_right ((a == 239) && (b == 187)) false refl))
          (stops_third (third_does here.calls x 9 c2 false (byte_at at_r g) refl refl))

    second_seen : (cs : List ℕ) → here.codes ≡ a ∷ cs → Sees text q cs → (a == 239) ≡ true → MarkVerdict here (has_mark (a ∷ cs))
    second_seen [] now (nothing f) h = stops_second (inside_none here.calls x c1 (end_at at_q f))
    second_seen (b ∷ ds) now (byte {q = r} apart f s) h = elim (cases_Bool (b == 187)) [
      | inl k ↦ third_seen b r f (itself 187 refl refl refl refl b ∙ (swap 187 b ∙ k)) ds now s h k
      | inr k ↦ subst (λ (is : Bool). MarkVerdict here is) (sym (no_second a b ds k))
          (stops_second (second_does here.calls x (text_byte b) c1 false (byte_at at_q f) refl (itself 187 refl refl refl refl b ∙ (swap 187 b ∙ k))))
    ]
    second_seen (b ∷ ds) now (tab most f g s) h = subst (λ (is : Bool). MarkVerdict here is) (sym (no_second a 9 ds refl))
        (stops_second (second_does here.calls x 9 c1 false (byte_at at_q f) refl refl))

  by_codes : (codes : List ℕ) → here.codes ≡ codes → Sees text p codes → MarkVerdict here (has_mark codes)
  by_codes [] now (nothing e) = stops (start_none here.calls x c0 (end_at at_p e))
  by_codes (a ∷ cs) now (byte {q = q} apart e s) = elim (cases_Bool (a == 239)) [
    | inl h ↦ second_seen a q e (first_is a ∙ h) cs now s h
    | inr h ↦ subst (λ (is : Bool). MarkVerdict here is) (sym (no_first a cs h))
        (stops (start_does here.calls x (text_byte a) c0 false (byte_at at_p e) (first_is a ∙ h)))
  ]
    where
      first_is : (c : ℕ) → (text_byte c == 239) ≡ (c == 239)
      first_is = seen_sort (λ b. b == 239) refl refl refl refl
  by_codes (a ∷ cs) now (tab most e f s) = subst (λ (is : Bool). MarkVerdict here is) (sym (no_first 9 cs refl))
      (stops (start_does here.calls x 9 c0 false (byte_at at_p e) refl))

pub bom_verdict : (T V : Type 0) → BomVerdict T V
bom_verdict T V here s = by_codes here here.codes refl s
