-- An attempt at a thematic break reads one where the line is one, and nothing else.
use Rattle.std.proofs.Common.{◌≡◌, ◌∙◌, ℕ, zero, suc, ◌+◌, ◌^◌, ◌<◌, ◌≤◌, min, Bool, true, false, not, ◌==◌, ◌&&◌, ◌||◌, leb, nat_lt, if◌then◌else◌, List, []}
use Rattle.std.proofs.Common.{◌∷◌, ◌++◌, length, Some, None, inl, inr, refl, sym, ap, subst, arith, append_assoc}
use Rattle.state_verdicts.proofs.BlockPrelude.{after_line, and_left, as_byte, AtHand, bare, byte, byte_of, cases_Bool, Config, Context, eq-eqb, eqb-true}
use Rattle.state_verdicts.proofs.BlockPrelude.{event}
use Rattle.state_verdicts.proofs.BlockPrelude.{Event, feed, Flows, GoesOn, has, indent, InLine, is_eol, is_feed, is_space_or_tab, is_white, KeptState, line_of}
use Rattle.state_verdicts.proofs.BlockPrelude.{LineEnds, more, no_limit, nothing, or_from, part, plain, Point, run, Sees, SkipsOnce, State, tab}
use Rattle.state_verdicts.proofs.BlockPrelude.{Text}
use Rattle.state_verdicts.proofs.BlockPrelude.{text_byte, with_enter}
use Rattle.definition_block.specs.ThematicBreak.{is_break_by, is_break_marker, is_break_text}
use Rattle.engine_events.specs.declared.event.Kind.TheVariants.{Enter, Exit}
use Rattle.engine_events.specs.declared.event.Name.TheVariants as names
use Rattle.engine_states.specs.declared.state.Inline.TheVariants as state_inline
use Rattle.engine_states.specs.declared.state.State.TheVariants as states
use Rattle.markdown_engine.specs.Reading.{at_point}
use Rattle.state_flow.specs.Flows.{flows_bodies}
use Rattle.state_verdicts.specs.ThematicBreak.{BreakParts, BreakVerdict, ThematicBreakVerdict, along, breaking, ended, part_name, turn}
use Rattle.state_verdicts.specs.BlockVerdicts.{at_hand, line}
use Rattle.state_verdicts.proofs.BreakTexts.{breaks, breaks_bare, breaks_first, breaks_marker, breaks_none, breaks_other, is_few}
use Rattle.state_verdicts.proofs.LineCodes.{after_bare, after_more, after_none, bare_apart, line_more, line_none, none_white, rest_more}
use Rattle.state_verdicts.proofs.LineCodes.{rest_within, weight, weight_four, weight_line_bare, weight_some, white_within}
use Rattle.state_verdicts.proofs.Markers.{Marker, marker_inner, marker_of, no_feed_at, white_apart}
use Rattle.state_verdicts.proofs.Seen.{seen_eol, seen_feed, seen_white}
use Rattle.state_verdicts.proofs.ThematicBreakStates as steps
use Rattle.state_verdicts.proofs.BlockTurns.{and_on, byte_at, does, does_next, end_at, ends_well, fails, fed, fed_again, feeds}
use Rattle.state_verdicts.proofs.BlockTurns.{still_at, tried}
use Rattle.state_verdicts.proofs.Standing.{Here, enters, exits, fed_here}
use Rattle.state_verdicts.proofs.WhiteReads.{Whites, attempted, flows_white, none, one, spaced}

two : (l : List Event) (a b : Event) (y : List Event) → ((l ++ a ∷ []) ++ b ∷ []) ++ y ≡ l ++ (a ∷ b ∷ y)
two l a b y = simp append_assoc refl

module _ {T : Type 0} (x : Context T) (text : Text) (once : SkipsOnce text) (c0 : Config Flows) (whole : c0.tokenize_state.connect ≡ false) (m : ℕ)
    (marker : Marker m) where
  -- what is kept where so many markers were read
  abbrev kept_at : ℕ → ℕ → KeptState
  kept_at n columns = breaking m (min n no_limit) columns c0.tokenize_state

  -- at a place after so many markers, with these events so far
  pub record Held (n : ℕ) (es : List Event) (c : Config Flows) (p : Point) : Type 0 where
    pub columns : ℕ
    pub at : AtHand text c p
    pub here : Here text c0 es (kept_at n columns) c
    pub apart : is_feed c.previous ≡ false

  marker_is : {n : ℕ} {es : List Event} {c : Config Flows} {p : Point} → Held n es c p → c.tokenize_state.marker ≡ m
  marker_is h = ap (λ (k : KeptState). k.marker) h.here.kept

  size_is : {n : ℕ} {es : List Event} {c : Config Flows} {p : Point} → Held n es c p → c.tokenize_state.size ≡ min n no_limit
  size_is h = ap (λ (k : KeptState). k.size) h.here.kept

  -- a break is read, from within a part of it
  pub record Well (c : Config Flows) (s : State) (es : List Event) (white : Bool) (p : Point) (codes : List ℕ) : Type 0 where
    pub config : Config Flows
    pub size : ℕ
    pub columns : ℕ
    pub inside : List Event
    pub end : Point
    pub goes : GoesOn x text c s config states.Ok
    pub parts : BreakParts text m white p inside end
    pub at : AtHand text config end
    pub here : Here text c0 (es ++ (inside ++ event Exit names.ThematicBreak (text.start end) None ∷ [])) (breaking m size columns c0.tokenize_state) config
    pub free : config.interrupt ≡ false
    pub sees : Sees text end (after_line codes)

  -- what reading comes to
  abbrev pub Outcome : Bool → Config Flows → State → List Event → Bool → Point → List ℕ → Type 0
  Outcome true c s es white p codes = Well c s es white p codes
  Outcome false c s es white p codes = (d : Config Flows) × GoesOn x text c s d states.Nok

  from_there : (is : Bool) (c d : Config Flows) (s t : State) (es : List Event) (white : Bool) (p : Point) (codes : List ℕ) → GoesOn x text c s d t
      → Outcome is d t es white p codes → Outcome is c s es white p codes
  from_there true c d s t es white p codes g o = record {
    config = o.config;
    size = o.size;
    columns = o.columns;
    inside = o.inside;
    end = o.end;
    goes = and_on x text g o.goes;
    parts = o.parts;
    at = o.at;
    here = o.here;
    free = o.free;
    sees = o.sees;
  }
  from_there false c d s t es white p codes g (e, o) = (e, and_on x text g o)

  stops : (c : Config Flows) (s : State) (es : List Event) (white : Bool) (p : Point) (codes : List ℕ) (d : Config Flows) → GoesOn x text c s d states.Nok
      → Outcome false c s es white p codes
  stops c s es white p codes d g = (d, g)

  -- the events up to the end of a part
  abbrev closing : List Event → Bool → Point → List Event
  closing es white p = es ++ event Exit (part_name white) (text.start p) None ∷ []

  -- ---- at the end of the line

  finishes_by : (n : ℕ) (es : List Event) (white : Bool) (c : Config Flows) (p : Point) (codes : List ℕ) → Held n (closing es white p) c p → LineEnds text p
      → Sees text p (after_line codes) → (is : Bool)
      → GoesOn x text c (states.Retry steps.at_break) (if is then steps.finished c else c) (if is then states.Ok else states.Nok)
      → Outcome is c (states.Retry steps.at_break) es white p codes
  finishes_by n es white c p codes h ends s true g = record {
    config = steps.finished c;
    size = min n no_limit;
    columns = h.columns;
    inside = event Exit (part_name white) (text.start p) None ∷ [];
    end = p;
    goes = g;
    parts = ended ends;
    at = still_at refl refl refl h.at;
    here = let f = exits text c0 names.ThematicBreak h.here h.apart h.at.point in record {
      events = f.events ∙ append_assoc es (event Exit (part_name white) (text.start p) None ∷ []) (event Exit names.ThematicBreak (text.start p) None ∷ []);
      kept = f.kept;
      map = f.map;
      resolvers = f.resolvers;
    };
    free = refl;
    sees = s;
  }
  finishes_by n es white c p codes h ends s false g = (c, g)

  -- what the state before a part does at the end of the line
  abbrev Stops : Config Flows → Bool → Type 0
  Stops c few = run (flows_bodies x steps.at_break) c ≡ (if few then plain c states.Nok else plain (steps.finished c) states.Ok)

  by_count : (c : Config Flows) (is : Bool) → Stops c (not is)
      → GoesOn x text c (states.Retry steps.at_break) (if is then steps.finished c else c) (if is then states.Ok else states.Nok)
  by_count c true h = does x text steps.at_break c (steps.finished c) states.Ok h
  by_count c false h = does x text steps.at_break c c states.Nok h

  finishes : (n : ℕ) (es : List Event) (white : Bool) (c : Config Flows) (p : Point) (codes : List ℕ) → Held n (closing es white p) c p → LineEnds text p
      → Sees text p (after_line codes) → ((few : Bool) → nat_lt c.tokenize_state.size 3 ≡ few → Stops c few)
      → Outcome (leb 3 n) c (states.Retry steps.at_break) es white p codes
  finishes n es white c p codes h ends s stop =
      finishes_by n es white c p codes h ends s (leb 3 n) (by_count c (leb 3 n) (stop (not (leb 3 n))
      (ap (λ (i : ℕ). nat_lt i 3) (size_is h) ∙ is_few n (leb 3 n) refl)))

  -- where the text ends
  at_end : (n : ℕ) (es : List Event) (white : Bool) (c : Config Flows) (p : Point) → Held n (closing es white p) c p → text.byte (text.start p) ≡ None
      → Outcome (breaks m n (line_of [])) c (states.Retry steps.at_break) es white p []
  at_end n es white c p h e =
      subst (λ (is : Bool). Outcome is c (states.Retry steps.at_break) es white p []) (sym (breaks_none m n))
      (finishes n es white c p [] h (ap (λ v. has (λ b. not (b == 10)) (byte_of v)) e) (nothing e)
      (λ few l. steps.break_none x c few (end_at h.at e) l))

  -- where the line ends
  at_eol : (n : ℕ) (es : List Event) (white : Bool) (c : Config Flows) (p q : Point) (code : ℕ) (cs : List ℕ) → Held n (closing es white p) c p
      → text.byte (text.start p) ≡ Some (as_byte (text_byte code) q) → Sees text p (code ∷ cs) → is_eol code ≡ true
      → Outcome (breaks m n (line_of (code ∷ cs))) c (states.Retry steps.at_break) es white p (code ∷ cs)
  at_eol n es white c p q code cs h e s eol =
      let feed_is : text.byte (text.start p) ≡ Some (as_byte 10 q) = e ∙ ap (λ (b : ℕ). Some (as_byte b q)) (seen_eol code eol) in
      subst (λ (is : Bool). Outcome is c (states.Retry steps.at_break) es white p (code ∷ cs))
      (sym (ap (breaks m n) (line_none code cs eol) ∙ breaks_none m n))
      (finishes n es white c p (code ∷ cs) h (ap (λ v. has (λ b. not (b == 10)) (byte_of v)) feed_is)
      (subst (λ (ds : List ℕ). Sees text p ds) (sym (after_none code cs eol)) s)
      (λ few l. steps.break_line x c few (byte_at h.at feed_is) (ap (λ (i : ℕ). 10 == i) (marker_is h) ∙ marker.no_feed) l))

  -- at another byte
  at_other : (n : ℕ) (es es2 : List Event) (white : Bool) (c : Config Flows) (p q : Point) (code : ℕ) (cs : List ℕ) → Held n es2 c p
      → text.byte (text.start p) ≡ Some (as_byte (text_byte code) q) → (code == m) ≡ false → is_white code ≡ false → is_eol code ≡ false
      → Outcome (breaks m n (line_of (code ∷ cs))) c (states.Retry steps.at_break) es white p (code ∷ cs)
  at_other n es es2 white c p q code cs h e apart black inner =
      subst (λ (is : Bool). Outcome is c (states.Retry steps.at_break) es white p (code ∷ cs))
      (sym (ap (breaks m n) (line_more code cs inner) ∙ breaks_other m n code (line_of cs) apart black)) (
        c,
        does x text steps.at_break c c states.Nok (steps.break_other x (text_byte code) c (byte_at h.at e)
            (ap (λ (i : ℕ). text_byte code == i) (marker_is h) ∙ (marker.itself code ∙ apart)) (seen_feed code ∙ inner)),
      )

  -- ---- at a marker

  counts : (n : ℕ) → more (min n no_limit) ≡ min (n + 1) no_limit
  counts n = omega arith

  -- a further marker of a part
  longer_is : (n b : ℕ) (es : List Event) (c : Config Flows) (p q : Point) → Held n es c p → text.byte (text.start p) ≡ Some (as_byte b q) → (b == m) ≡ true
      → Held (n + 1) es (feed text (steps.longer c)) q
  longer_is n b es c p q h e is = record {
    columns = h.columns;
    at = fed text (steps.longer c) q (h.at.next (as_byte b q) e);
    here = record {
      events = h.here.events;
      kept = ap (λ (k : KeptState). record k { size = more k.size }) h.here.kept ∙ ap (λ (i : ℕ). breaking m i h.columns c0.tokenize_state) (counts n);
      map = h.here.map;
      resolvers = h.here.resolvers;
    };
    apart = ap is_feed (byte_at h.at e) ∙ no_feed_at m marker b is;
  }

  -- the first marker of a part
  begun_is : (n b : ℕ) (es : List Event) (c : Config Flows) (p q : Point) → Held n es c p → text.byte (text.start p) ≡ Some (as_byte b q) → (b == m) ≡ true
      → Held (n + 1) (es ++ event Enter names.ThematicBreakSequence (text.start p) None ∷ []) (feed text (steps.begun c)) q
  begun_is n b es c p q h e is = let f = enters text c0 names.ThematicBreakSequence h.here h.at.point in record {
    columns = h.columns;
    at = fed text (steps.begun c) q (h.at.next (as_byte b q) e);
    here = record {
      events = f.events;
      kept = ap (λ (k : KeptState). record k { size = more k.size }) h.here.kept ∙ ap (λ (i : ℕ). breaking m i h.columns c0.tokenize_state) (counts n);
      map = h.here.map;
      resolvers = h.here.resolvers;
    };
    apart = ap is_feed (byte_at h.at e) ∙ no_feed_at m marker b is;
  }

  -- the outcome from the byte after a further marker
  along_marker : (is : Bool) (b : ℕ) (c d : Config Flows) (es : List Event) (p q : Point) (codes all_codes : List ℕ)
      → GoesOn x text c (states.Retry steps.sequence) d (states.Retry steps.sequence) → text.byte (text.start p) ≡ Some (as_byte b q) → (b == m) ≡ true
      → after_line codes ≡ after_line all_codes → Outcome is d (states.Retry steps.sequence) es false q codes
      → Outcome is c (states.Retry steps.sequence) es false p all_codes
  along_marker true b c d es p q codes all_codes g e k same o = record {
    config = o.config;
    size = o.size;
    columns = o.columns;
    inside = o.inside;
    end = o.end;
    goes = and_on x text g o.goes;
    parts = along e k o.parts;
    at = o.at;
    here = o.here;
    free = o.free;
    sees = subst (λ (ds : List ℕ). Sees text o.end ds) same o.sees;
  }
  along_marker false b c d es p q codes all_codes g e k same (f, o) = (f, and_on x text g o)

  -- the outcome from the byte after one that begins a part
  turn_to : (is white : Bool) (b : ℕ) (c d : Config Flows) (s t : State) (es : List Event) (p q : Point) (codes all_codes : List ℕ) → GoesOn x text c s d t
      → text.byte (text.start p) ≡ Some (as_byte b q) → (b == m) ≡ white → after_line codes ≡ after_line all_codes
      → Outcome is d t (closing es white p ++ event Enter (part_name (not white)) (text.start p) None ∷ []) (not white) q codes
      → Outcome is c s es white p all_codes
  turn_to true white b c d s t es p q codes all_codes g e k same o = record {
    config = o.config;
    size = o.size;
    columns = o.columns;
    inside = event Exit (part_name white) (text.start p) None ∷ event Enter (part_name (not white)) (text.start p) None ∷ o.inside;
    end = o.end;
    goes = and_on x text g o.goes;
    parts = turn e k o.parts;
    at = o.at;
    here = record {
      events =
          o.here.events
          ∙ two es (event Exit (part_name white) (text.start p) None) (event Enter (part_name (not white)) (text.start p) None)
          (o.inside ++ event Exit names.ThematicBreak (text.start o.end) None ∷ []);
      kept = o.here.kept;
      map = o.here.map;
      resolvers = o.here.resolvers;
    };
    free = o.free;
    sees = subst (λ (ds : List ℕ). Sees text o.end ds) same o.sees;
  }
  turn_to false white b c d s t es p q codes all_codes g e k same (f, o) = (f, and_on x text g o)

  -- after a part of markers
  closed_is : (n : ℕ) (es : List Event) (c : Config Flows) (p : Point) → Held n es c p → Held n (closing es false p) (steps.closed c) p
  closed_is n es c p h = record {
    columns = h.columns;
    at = still_at refl refl refl h.at;
    here = exits text c0 names.ThematicBreakSequence h.here h.apart h.at.point;
    apart = h.apart;
  }

  -- ---- over white space

  along_whites : {p q r : Point} {events : List Event} → Whites text p q → BreakParts text m true q events r → BreakParts text m true p events r
  along_whites none parts = parts
  along_whites (one {b = b} e is rest) parts = along e (marker.no_white b is) (along_whites rest parts)

  -- the outcome from the end of white space
  over_whites : (is : Bool) (c : Config Flows) (s : State) (es : List Event) (p q : Point) (codes all_codes : List ℕ) → Whites text p q
      → after_line codes ≡ after_line all_codes → Outcome is c s es true q codes → Outcome is c s es true p all_codes
  over_whites true c s es p q codes all_codes w same o = record {
    config = o.config;
    size = o.size;
    columns = o.columns;
    inside = o.inside;
    end = o.end;
    goes = o.goes;
    parts = along_whites w o.parts;
    at = o.at;
    here = o.here;
    free = o.free;
    sees = subst (λ (ds : List ℕ). Sees text o.end ds) same o.sees;
  }
  over_whites false c s es p q codes all_codes w same o = o

  -- ---- the whole line

  -- what reading within markers comes to, of fewer codes than these
  abbrev Sequences : ℕ → Type 0
  Sequences k = (codes : List ℕ) → length codes < k → (p : Point) → Sees text p codes → (n : ℕ) (es : List Event) (c : Config Flows) → Held n es c p
      → weight (line_of codes) ≤ no_limit → Outcome (breaks m n (line_of codes)) c (states.Retry steps.sequence) es false p codes

  module _ (k : ℕ) (rest : Sequences k) where
    -- after white space
    after_white : (codes : List ℕ) → length codes ≤ k → (p : Point) → Sees text p codes → indent codes ≡ 0 → (n : ℕ) (es : List Event) (c : Config Flows)
        → Held n (closing es true p) c p → weight (line_of codes) ≤ no_limit
        → Outcome (breaks m n (line_of codes)) c (states.Retry steps.at_break) es true p codes
    after_white [] few p (nothing e) black n es c h room = at_end n es true c p h e
    after_white (code ∷ cs) few p (byte {q = q} apart e s) black n es c h room = elim (cases_Bool (code == m)) [
      | inl is ↦
          let inner = marker_inner m marker code is in
          let l = ap weight (line_more code cs inner) in
          let some = weight_some code (line_of cs) in
          subst (λ (b : Bool). Outcome b c (states.Retry steps.at_break) es true p (code ∷ cs))
          (sym (ap (breaks m n) (line_more code cs inner) ∙ breaks_marker m n code (line_of cs) is))
          (turn_to (breaks m (n + 1) (line_of cs)) true (text_byte code) c (feed text (steps.begun c)) (states.Retry steps.at_break)
          (states.Retry steps.sequence) es p q cs (code ∷ cs)
          (does_next x text steps.at_break steps.sequence c (steps.begun c) (steps.break_marker x (text_byte code) c (byte_at h.at e)
          (ap (λ (i : ℕ). text_byte code == i) (marker_is h) ∙ (marker.itself code ∙ is))))
          e (marker.itself code ∙ is) (sym (after_more code cs inner))
          (rest cs (omega (arith, few)) q s (n + 1) (closing es true p ++ event Enter names.ThematicBreakSequence (text.start p) None ∷ [])
          (feed text (steps.begun c)) (begun_is n (text_byte code) (closing es true p) c p q h e (marker.itself code ∙ is)) (omega (arith, room, l, some))))
      | inr other ↦ elim (cases_Bool (is_eol code)) [
        | inl eol ↦ at_eol n es true c p q code cs h e (byte apart e s) eol
        | inr inner ↦ at_other n es (closing es true p) true c p q code cs h e other (none_white code cs black) inner
      ]
    ]
    after_white (code ∷ cs) few p (tab most e f s) black n es c h room = absurd (let g : true ≡ false = none_white 9 cs black in cc)

    -- within markers, at white space
    at_white : (code : ℕ) (cs : List ℕ) → length cs < k → (p : Point) → Sees text p (code ∷ cs) → is_white code ≡ true → (b : ℕ) (q : Point)
        → text.byte (text.start p) ≡ Some (as_byte b q) → is_space_or_tab b ≡ true → (n : ℕ) (es : List Event) (c : Config Flows) → Held n es c p
        → weight (line_of (code ∷ cs)) ≤ no_limit
        → Outcome (breaks m n (line_of (code ∷ cs))) c (states.Retry steps.sequence) es false p (code ∷ cs)
    at_white code cs few p s is b q e white n es c h room =
        let closed_here = exits text c0 names.ThematicBreakSequence h.here h.apart h.at.point in
        let ready : Here text c0 (closing es false p) (kept_at n no_limit) (steps.readied c) = record {
          events = closed_here.events;
          kept = ap (λ (k : KeptState). spaced no_limit k) h.here.kept;
          map = h.here.map;
          resolvers = h.here.resolvers;
        } in
        let indented = white_within (code ∷ cs) in
        let a = attempted (flows_bodies x) (flows_white x) text c0 (kept_at n 0) (closing es false p) no_limit (steps.readied c) p
        (still_at refl refl refl h.at) ready whole code cs s is
        (omega (arith, indented, room)) in
        let shorter = weight_line_bare (code ∷ cs) in
        let size = rest_within is_white cs in
        let size_is = ap length (rest_more is_white code cs is) in
        let entered = closing es false p ++ event Enter names.SpaceOrTab (text.start p) None ∷ [] in
        let held : Held n (closing entered true a.end) (feed text a.config) a.end = record {
          columns = a.columns;
          at = fed_again text a.config a.end once a.there.at;
          here = fed_here text c0 a.there.here;
          apart = a.there.apart;
        } in
        let o = after_white (bare (code ∷ cs)) (omega (arith, few, size, size_is)) a.end a.sees (bare_apart (code ∷ cs)) n entered (feed text a.config) held
        (omega (arith, room, shorter)) in
        let found = breaks m n (line_of (bare (code ∷ cs))) in
        subst (λ (f : Bool). Outcome f c (states.Retry steps.sequence) es false p (code ∷ cs)) (breaks_bare m (white_apart m marker) n (code ∷ cs))
        (turn_to found false a.code c (feed text a.config) (states.Retry steps.sequence) (states.Retry steps.at_break) es p a.next (code ∷ cs) (code ∷ cs)
        (and_on x text (tried x text steps.sequence c (steps.readied c) a.config (states.Next steps.at_break) states.Nok (part state_inline.SpaceOrTabStart)
        (steps.sequence_white x b c (byte_at h.at e) (ap (λ (i : ℕ). b == i) (marker_is h) ∙ marker.no_white b white) white) a.reads)
        (feeds x text steps.at_break a.config))
        a.first (marker.no_white a.code a.white) refl
        (over_whites found (feed text a.config) (states.Retry steps.at_break) entered a.next a.end (bare (code ∷ cs)) (code ∷ cs) a.stretch
        (after_bare (code ∷ cs)) o))

    -- within markers
    within : Sequences (suc k)
    within [] few p (nothing e) n es c h room =
        from_there (breaks m n (line_of [])) c (steps.closed c) (states.Retry steps.sequence) (states.Retry steps.at_break) es false p []
        (does x text steps.sequence c (steps.closed c) (states.Retry steps.at_break) (steps.sequence_none x c (end_at h.at e)))
        (at_end n es false (steps.closed c) p (closed_is n es c p h) e)
    within (code ∷ cs) few p (byte {q = q} apart e s) n es c h room = elim (cases_Bool (code == m)) [
      | inl is ↦
          let inner = marker_inner m marker code is in
          let l = ap weight (line_more code cs inner) in
          let some = weight_some code (line_of cs) in
          subst (λ (b : Bool). Outcome b c (states.Retry steps.sequence) es false p (code ∷ cs))
          (sym (ap (breaks m n) (line_more code cs inner) ∙ breaks_marker m n code (line_of cs) is))
          (along_marker (breaks m (n + 1) (line_of cs)) (text_byte code) c (feed text (steps.longer c)) es p q cs (code ∷ cs)
          (does_next x text steps.sequence steps.sequence c (steps.longer c) (steps.sequence_longer x (text_byte code) c (byte_at h.at e)
          (ap (λ (i : ℕ). text_byte code == i) (marker_is h) ∙ (marker.itself code ∙ is))))
          e (marker.itself code ∙ is) (sym (after_more code cs inner))
          (rest cs (omega (arith, few)) q s (n + 1) es (feed text (steps.longer c))
          (longer_is n (text_byte code) es c p q h e (marker.itself code ∙ is)) (omega (arith, room, l, some))))
      | inr other ↦ elim (cases_Bool (is_white code)) [
        | inl is ↦ at_white code cs (omega (arith, few)) p (byte apart e s) is (text_byte code) q e (seen_white code ∙ is) n es c h room
        | inr black ↦
            from_there (breaks m n (line_of (code ∷ cs))) c (steps.closed c) (states.Retry steps.sequence) (states.Retry steps.at_break) es false p (code ∷ cs)
            (does x text steps.sequence c (steps.closed c) (states.Retry steps.at_break) (steps.sequence_other x (text_byte code) c (byte_at h.at e)
            (ap (λ (i : ℕ). text_byte code == i) (marker_is h) ∙ (marker.itself code ∙ other)) (seen_white code ∙ black)))
            (elim (cases_Bool (is_eol code)) [
              | inl eol ↦ at_eol n es false (steps.closed c) p q code cs (closed_is n es c p h) e (byte apart e s) eol
              | inr inner ↦ at_other n es (closing es false p) false (steps.closed c) p q code cs (closed_is n es c p h) e other black inner
            ])
      ]
    ]
    within (code ∷ cs) few p (tab {q = q} most e f s) n es c h room = at_white 9 cs (omega (arith, few)) p (tab most e f s) refl 9 q e refl n es c h room

  reads : (k : ℕ) → Sequences k
  reads zero = λ codes few p s n es c h room. absurd (omega (arith, few))
  reads (suc k) = within k (reads k)

-- ---- from the first marker on

asterisk_marker : Marker 42
asterisk_marker = marker_of 42 refl refl refl refl refl refl

hyphen_marker : Marker 45
hyphen_marker = marker_of 45 refl refl refl refl refl refl

underscore_marker : Marker 95
underscore_marker = marker_of 95 refl refl refl refl refl refl

module _ {T : Type 0} (here : InLine T) (once : SkipsOnce here.text) (few : length (line_of here.codes) < 2 ^ 62)
    (whole : here.config.tokenize_state.connect ≡ false) where
  abbrev c0 : Config Flows
  c0 = at_hand here

  -- an event of it was entered
  abbrev entered : Config Flows
  entered = with_enter names.ThematicBreak None c0

  abbrev x : Context T
  x = here.context

  abbrev text : Text
  text = here.text

  abbrev p : Point
  p = here.place

  at_p : AtHand text c0 p
  at_p = fed text (at_point p here.config) p refl

  abbrev begins : State
  begins = states.Retry steps.start

  refused : x.options.constructs.thematic_break ≡ false → BreakVerdict here false
  refused off = (c0, fails x text c0 c0 begins (does x text steps.start c0 c0 states.Nok (steps.start_does x c0 false off)))

  goes_in : x.options.constructs.thematic_break ≡ true → GoesOn x text c0 begins entered (states.Retry steps.before)
  goes_in on = does x text steps.start c0 entered (states.Retry steps.before) (steps.start_does x c0 true on)

  stops_before : x.options.constructs.thematic_break ≡ true → run (flows_bodies x steps.before) entered ≡ plain entered states.Nok → BreakVerdict here false
  stops_before on h = (entered, fails x text c0 entered begins (and_on x text (goes_in on) (does x text steps.before entered entered states.Nok h)))

  by_outcome : (m : ℕ) (marker : Marker m) (c : Config Flows) (q : Point) (cs : List ℕ) (is : Bool) → here.codes ≡ m ∷ cs
      → text.byte (text.start p) ≡ Some (as_byte m q) → is_eol m ≡ false
      → GoesOn x text c0 begins c (states.Retry steps.sequence)
      → Outcome x text once c0 whole m marker is c (states.Retry steps.sequence) ((c0.events ++ event Enter names.ThematicBreak (text.start p) None ∷ [])
      ++ event Enter names.ThematicBreakSequence (text.start p) None ∷ []) false q cs
      → BreakVerdict here is
  by_outcome m marker c q cs true is e inner g o = (
    o.config,
    m,
    o.size,
    o.columns,
    event Enter names.ThematicBreak (text.start p) None ∷ event Enter names.ThematicBreakSequence (text.start p) None
        ∷ (o.inside ++ event Exit names.ThematicBreak (text.start o.end) None ∷ []),
    o.end,
    ends_well x text c0 o.config begins (and_on x text g o.goes),
    record { after = q; inside = o.inside; first = e; parts = o.parts; events = refl },
    record {
      events =
          o.here.events
          ∙ two c0.events (event Enter names.ThematicBreak (text.start p) None) (event Enter names.ThematicBreakSequence (text.start p) None)
          (o.inside ++ event Exit names.ThematicBreak (text.start o.end) None ∷ []);
      at = o.at;
      kept = o.here.kept;
      map = o.here.map;
      resolvers = o.here.resolvers;
    },
    o.free,
    subst (λ (ds : List ℕ). Sees text o.end ds) (sym (ap after_line is ∙ after_more m cs inner)) o.sees,
  )
  by_outcome m marker c q cs false is e inner g (d, o) = (d, fails x text c0 d begins (and_on x text g o))

  -- at a marker
  at_marker : (m : ℕ) (marker : Marker m) → is_eol m ≡ false → is_break_marker m ≡ true → x.options.constructs.thematic_break ≡ true
      → run (flows_bodies x steps.before) entered ≡ plain (steps.opened m entered) (states.Next steps.sequence) → (q : Point) (cs : List ℕ)
      → here.codes ≡ m ∷ cs → text.byte (text.start p) ≡ Some (as_byte m q) → Sees text q cs → BreakVerdict here (is_break_text (line here))
  at_marker m marker inner break on opens q cs is e s =
      let started = feed text (steps.opened m entered) in
      let held : Held x text once c0 whole m marker 1 ((c0.events ++ event Enter names.ThematicBreak (text.start p) None ∷ [])
      ++ event Enter names.ThematicBreakSequence (text.start p) None ∷ []) started q = record {
        columns = c0.tokenize_state.size_c;
        at = fed text (steps.opened m entered) q (at_p.next (as_byte m q) e);
        here = record { events = refl; kept = refl; map = refl; resolvers = refl };
        apart = ap is_feed (byte_at at_p e) ∙ no_feed_at m marker m (eq-eqb m m refl);
      } in
      let l = ap length (ap line_of is ∙ line_more m cs inner) in
      let weighed = weight_four (line_of cs) in
      subst (λ (b : Bool). BreakVerdict here b) (sym (ap is_break_text (ap line_of is ∙ line_more m cs inner)
      ∙ (ap (λ (b : Bool). b && is_break_by m (m ∷ line_of cs)) break ∙ breaks_first m (line_of cs))))
      (by_outcome m marker started q cs (breaks m 1 (line_of cs)) is e inner
      (and_on x text (goes_in on) (does_next x text steps.before steps.sequence entered (steps.opened m entered) opens))
      (reads x text once c0 whole m marker (suc (length cs)) cs (omega arith) q s 1 _ started held (omega (arith, few, l, weighed))))

  -- at a line without a break
  none_by : (l : List ℕ) → line here ≡ l → is_break_text l ≡ false → BreakVerdict here false → BreakVerdict here (is_break_text (line here))
  none_by l is no_break v = subst (λ (b : Bool). BreakVerdict here b) (sym (ap is_break_text is ∙ no_break)) v

  -- at a byte that is no marker
  elsewhere : (code : ℕ) (cs : List ℕ) (q : Point) → here.codes ≡ code ∷ cs → text.byte (text.start p) ≡ Some (as_byte (text_byte code) q)
      → (code == 42) ≡ false → (code == 45) ≡ false → (code == 95) ≡ false → x.options.constructs.thematic_break ≡ true
      → BreakVerdict here (is_break_text (line here))
  elsewhere code cs q is e h k l on =
      let v = stops_before on (steps.before_other x (text_byte code) entered (byte_at at_p e)
      (asterisk_marker.itself code ∙ h) (hyphen_marker.itself code ∙ k) (underscore_marker.itself code ∙ l)) in
      elim (cases_Bool (is_eol code)) [
        | inl eol ↦ none_by [] (ap line_of is ∙ line_none code cs eol) refl v
        | inr inner ↦ none_by (code ∷ line_of cs) (ap line_of is ∙ line_more code cs inner)
            (and_left (is_break_marker code) (is_break_by code (code ∷ line_of cs)) (or_from ((code == 42) || (code == 45)) (code == 95)
            (or_from (code == 42) (code == 45) h k) l)) v
      ]

  -- at a code that is this marker
  at_code : (m : ℕ) (marker : Marker m) → is_eol m ≡ false → is_break_marker m ≡ true → x.options.constructs.thematic_break ≡ true
      → ((c : Config Flows) → c.current ≡ Some m → run (flows_bodies x steps.before) c ≡ plain (steps.opened m c) (states.Next steps.sequence))
      → (code : ℕ) (cs : List ℕ) (q : Point) → here.codes ≡ code ∷ cs → text.byte (text.start p) ≡ Some (as_byte (text_byte code) q) → Sees text q cs
      → (code == m) ≡ true → BreakVerdict here (is_break_text (line here))
  at_code m marker inner break on opens code cs q is e s h =
      let seen : text.byte (text.start p) ≡ Some (as_byte m q) =
      e ∙ ap (λ (b : ℕ). Some (as_byte b q)) (eqb-true (text_byte code) m (marker.itself code ∙ h)) in
      at_marker m marker inner break on (opens entered (byte_at at_p seen)) q cs (is ∙ ap (λ (c : ℕ). c ∷ cs) (eqb-true code m h)) seen s

  by_codes : x.options.constructs.thematic_break ≡ true → (codes : List ℕ) → here.codes ≡ codes → Sees text p codes
      → BreakVerdict here (is_break_text (line here))
  by_codes on [] is (nothing e) = none_by [] (ap line_of is) refl (stops_before on (steps.before_none x entered (end_at at_p e)))
  by_codes on (code ∷ cs) is (byte {q = q} apart e s) = elim (cases_Bool (code == 42)) [
    | inl h ↦ at_code 42 asterisk_marker refl refl on (steps.before_asterisk x) code cs q is e s h
    | inr h ↦ elim (cases_Bool (code == 45)) [
      | inl k ↦ at_code 45 hyphen_marker refl refl on (steps.before_hyphen x) code cs q is e s k
      | inr k ↦ elim (cases_Bool (code == 95)) [
        | inl l ↦ at_code 95 underscore_marker refl refl on (steps.before_underscore x) code cs q is e s l
        | inr l ↦ elsewhere code cs q is e h k l on
      ]
    ]
  ]
  by_codes on (code ∷ cs) is (tab {q = q} most e f s) = elsewhere 9 cs q is e refl refl refl on

  by_switch : (on : Bool) → x.options.constructs.thematic_break ≡ on → Sees text p here.codes → BreakVerdict here (on && is_break_text (line here))
  by_switch true h s = by_codes h here.codes refl s
  by_switch false h s = refused h

pub thematic_break_verdict : (T : Type 0) → ThematicBreakVerdict T
thematic_break_verdict T here s once few whole = by_switch here once few whole here.context.options.constructs.thematic_break refl s
