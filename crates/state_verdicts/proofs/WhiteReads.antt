-- An attempt at spaces and tabs goes over all of them.
use Rattle.std.proofs.Common.{◌≡◌, ◌∙◌, ℕ, ◌+◌, ◌-◌, ◌<◌, ◌≤◌, Bool, true, false, ◌==◌, ◌&&◌, nat_lt, if◌then◌else◌, List, [], ◌∷◌, ◌++◌, Some, None}
use Rattle.std.proofs.Common.{inl, inr, refl, sym, ap, subst, arith}
use Rattle.state_verdicts.proofs.BlockPrelude.{and_right, as_byte, AtHand, bare, byte, cases_Bool, Config, Context, eqb-true, event, Event, feed}
use Rattle.state_verdicts.proofs.BlockPrelude.{is_feed, is_space_or_tab, is_white, KeptState, less, lt-ltb, Name, nothing, or_cases, past_byte, plain, Point}
use Rattle.state_verdicts.proofs.BlockPrelude.{run, Sees, tab, Text, text_byte, with_enter, with_exit}
use Rattle.engine_events.specs.declared.event.Kind.TheVariants.{Enter, Exit}
use Rattle.engine_events.specs.declared.event.Name.TheVariants as names
use Rattle.engine_states.specs.declared.state.Inline.TheVariants as state_inline
use Rattle.engine_states.specs.declared.state.Name.TheVariants.{Inline}
use Rattle.engine_states.specs.declared.state.State.TheVariants as states
use Rattle.engine_programs.specs.Bodies.{Body}
use Rattle.state_labels.specs.SpaceOrTab.{space_or_tab_after, space_or_tab_inside, space_or_tab_start}
use Rattle.state_verdicts.specs.Codes.{Fills, column, full}
use Rattle.state_flow.specs.Flows.{flows_bodies}
use Rattle.state_labels.specs.Chunk.{part_link}
use Rattle.state_verdicts.specs.Machines.{GoesOnBy, ReadsBy}
use Rattle.state_verdicts.proofs.LineCodes.{rest_more, rest_none, white_weighs, white_weight}
use Rattle.state_verdicts.proofs.Seen.{seen_white}
use Rattle.state_verdicts.proofs.MachineTurns.{and_on, byte_at, does, does_next, end_at, ends_well, fed, still_at}
use Rattle.state_verdicts.proofs.Standing.{Here, exits}

-- spaces and tabs lead from a place to another
pub data Whites (text : Text) : Point → Point → Type 0 where
  none : {p : Point} → Whites text p p
  one : {b : ℕ} {p q r : Point} → text.byte (text.start p) ≡ Some (as_byte b q) → is_space_or_tab b ≡ true → Whites text q r → Whites text p r

-- how many columns may follow
abbrev pub spaced : ℕ → KeptState → KeptState
spaced columns k = record k { size_c = columns }

-- over the first of them
abbrev pub begun : {W : Type 0} → Config W → Config W
begun c = past_byte (record (with_enter names.SpaceOrTab (part_link c) c) { tokenize_state = spaced (less c.tokenize_state.size_c) c.tokenize_state })

-- over a further one
abbrev pub longer : {W : Type 0} → Config W → Config W
longer c = past_byte (record c { tokenize_state = spaced (less c.tokenize_state.size_c) c.tokenize_state })

abbrev pub start : Name
start = Inline state_inline.SpaceOrTabStart

abbrev pub inside : Name
inside = Inline state_inline.SpaceOrTabInside

abbrev pub after : Name
after = Inline state_inline.SpaceOrTabAfter

-- a space or a tab ends no line
pub white_feed : (b : ℕ) → is_space_or_tab b ≡ true → is_feed (Some b) ≡ false
white_feed b h = elim (or_cases (b == 9) (b == 32) h) [ inl e ↦ ap (λ (i : ℕ). i == 10) (eqb-true b 9 e) | inr e ↦ ap (λ (i : ℕ). i == 10) (eqb-true b 32 e) ]

-- the states of spaces and tabs are those that machines share
pub record ReadsWhite {W : Type 0} (bodies : Name → Body W) : Type 0 where
  pub start : bodies start ≡ space_or_tab_start
  pub inside : bodies inside ≡ space_or_tab_inside
  pub after : bodies after ≡ space_or_tab_after

pub flows_white : {T : Type 0} (x : Context T) → ReadsWhite (flows_bodies x)
unfolding flows_bodies
flows_white x = record { start = refl; inside = refl; after = refl }

module _ {W : Type 0} (bodies : Name → Body W) (states_do : ReadsWhite bodies) where
  pub start_does : (b : ℕ) (c : Config W) → c.current ≡ Some b → is_space_or_tab b ≡ true → nat_lt 0 c.tokenize_state.size_c ≡ true
      → run (bodies start) c ≡ plain (begun c) (states.Next inside)
  start_does b c h k l =
      let f : run space_or_tab_start c ≡ plain (begun c) (states.Next inside) = rw (h, k, l) refl in ap (λ (body : Body W). run body c) states_do.start ∙ f

  pub inside_does : (b : ℕ) (c : Config W) → c.current ≡ Some b → is_space_or_tab b ≡ true → nat_lt 0 c.tokenize_state.size_c ≡ true
      → run (bodies inside) c ≡ plain (longer c) (states.Next inside)
  inside_does b c h k l =
      let f : run space_or_tab_inside c ≡ plain (longer c) (states.Next inside) = rw (h, k, l) refl in ap (λ (body : Body W). run body c) states_do.inside ∙ f

  pub inside_none : (c : Config W) → c.current ≡ None → run (bodies inside) c ≡ plain (with_exit names.SpaceOrTab c) (states.Retry after)
  inside_none c h =
      let f : run space_or_tab_inside c ≡ plain (with_exit names.SpaceOrTab c) (states.Retry after) = rw h refl in
      ap (λ (body : Body W). run body c) states_do.inside ∙ f

  pub inside_other : (b : ℕ) (c : Config W) → c.current ≡ Some b → is_space_or_tab b ≡ false
      → run (bodies inside) c ≡ plain (with_exit names.SpaceOrTab c) (states.Retry after)
  inside_other b c h k =
      let f : run space_or_tab_inside c ≡ plain (with_exit names.SpaceOrTab c) (states.Retry after) =
      rw (h, k, and_right (nat_lt 0 c.tokenize_state.size_c) false refl) refl in
      ap (λ (body : Body W). run body c) states_do.inside ∙ f

  pub inside_full : (b : ℕ) (c : Config W) → c.current ≡ Some b → nat_lt 0 c.tokenize_state.size_c ≡ false
      → run (bodies inside) c ≡ plain (with_exit names.SpaceOrTab c) (states.Retry after)
  inside_full b c h k =
      let f : run space_or_tab_inside c ≡ plain (with_exit names.SpaceOrTab c) (states.Retry after) = rw (h, k) refl in
      ap (λ (body : Body W). run body c) states_do.inside ∙ f

  pub start_none : (c : Config W) → c.current ≡ None → run (bodies start) c ≡ plain c states.Nok
  start_none c h =
      let f : run space_or_tab_start c ≡ plain c states.Nok = rw h refl in ap (λ (body : Body W). run body c) states_do.start ∙ f

  pub start_fails : (b : ℕ) (c : Config W) → c.current ≡ Some b → (nat_lt 0 c.tokenize_state.size_c && is_space_or_tab b) ≡ false
      → run (bodies start) c ≡ plain c states.Nok
  start_fails b c h k =
      let f : run space_or_tab_start c ≡ plain c states.Nok = rw (h, k) refl in ap (λ (body : Body W). run body c) states_do.start ∙ f

  pub after_does : (c : Config W) → run (bodies after) c ≡ plain c states.Ok
  after_does c = ap (λ (body : Body W). run body c) states_do.after

-- a code that is no tab gives one byte
white_weighs_one : (c : ℕ) (cs : List ℕ) → is_white c ≡ true → (c == 9) ≡ false → white_weight (c ∷ cs) ≡ 1 + white_weight cs
white_weighs_one c cs h k = white_weighs c cs h ∙ ap (λ (b : Bool). (if b then 4 else 1) + white_weight cs) k

module _ {W : Type 0} (bodies : Name → Body W) (states_do : ReadsWhite bodies) (text : Text) (c0 : Config W) (k : KeptState) where
  -- at a place within spaces and tabs, with these events so far and so many columns that may follow
  pub record Within (es : List Event) (columns : ℕ) (c : Config W) (p : Point) : Type 0 where
    pub at : AtHand text c p
    pub here : Here text c0 es (spaced columns k) c
    pub apart : is_feed c.previous ≡ false

  -- where the state within them ends
  pub record Gone (es : List Event) (c : Config W) (p : Point) (codes : List ℕ) : Type 0 where
    pub config : Config W
    pub end : Point
    pub columns : ℕ
    pub goes : GoesOnBy bodies text c (states.Retry inside) config states.Ok
    pub there : Within (es ++ event Exit names.SpaceOrTab (text.start end) None ∷ []) columns config end
    pub stretch : Whites text p end
    pub sees : Sees text end codes

  room : (w : ℕ) (s : KeptState) → s ≡ spaced w k → 0 < w → nat_lt 0 s.size_c ≡ true
  room w s e some = ap (λ (t : KeptState). nat_lt 0 t.size_c) e ∙ lt-ltb 0 w some

  -- over a byte
  longer_is : (es : List Event) (w b : ℕ) (c : Config W) (p q : Point) → Within es w c p → text.byte (text.start p) ≡ Some (as_byte b q)
      → is_space_or_tab b ≡ true → Within es (less w) (feed text (longer c)) q
  longer_is es w b c p q h e is = record {
    at = fed text (longer c) q (h.at.next (as_byte b q) e);
    here = record {
      events = h.here.events;
      kept = ap (λ (s : KeptState). spaced (less s.size_c) s) h.here.kept;
      map = h.here.map;
      resolvers = h.here.resolvers;
    };
    apart = ap is_feed (byte_at h.at e) ∙ white_feed b is;
  }

  over_byte : (es : List Event) (w b : ℕ) (c : Config W) (p q : Point) (codes : List ℕ) → Within es w c p → text.byte (text.start p) ≡ Some (as_byte b q)
      → is_space_or_tab b ≡ true → 0 < w → Gone es (feed text (longer c)) q codes → Gone es c p codes
  over_byte es w b c p q codes h e is some g = record {
    config = g.config;
    end = g.end;
    columns = g.columns;
    goes = and_on bodies text (does_next bodies text inside inside c (longer c)
        (inside_does bodies states_do b c (byte_at h.at e) is (room w c.tokenize_state h.here.kept some))) g.goes;
    there = g.there;
    stretch = one e is g.stretch;
    sees = g.sees;
  }

  -- at what follows them
  stops : (es : List Event) (w : ℕ) (c : Config W) (p : Point) (codes : List ℕ) → Within es w c p
      → run (bodies inside) c ≡ plain (with_exit names.SpaceOrTab c) (states.Retry after) → Sees text p codes → Gone es c p codes
  stops es w c p codes h e s = record {
    config = with_exit names.SpaceOrTab c;
    end = p;
    columns = w;
    goes = and_on bodies text (does bodies text inside c (with_exit names.SpaceOrTab c) (states.Retry after) e)
        (does bodies text after (with_exit names.SpaceOrTab c) (with_exit names.SpaceOrTab c) states.Ok
        (after_does bodies states_do (with_exit names.SpaceOrTab c)));
    there = record {
      at = still_at refl refl refl h.at;
      here = exits text c0 names.SpaceOrTab h.here h.apart h.at.point;
      apart = h.apart;
    };
    stretch = none;
    sees = s;
  }

  -- over the further columns of a tab
  over_tab : {n : ℕ} {q r : Point} → Fills text n q r → (es : List Event) (w : ℕ) (c : Config W) (codes : List ℕ) → Within es w c q → n ≤ w
      → ((d : Config W) → Within es (w - n) d r → Gone es d r codes) → Gone es c q codes
  over_tab (full {p = q}) es w c codes h few more = more c (subst (λ (i : ℕ). Within es i c q) (let e : w ≡ w - 0 = omega arith in e) h)
  over_tab (column {n = n} {p = p} {q = q} {r = r} e f) es w c codes h few more =
      over_byte es w 32 c p q codes h e refl (omega (arith, few)) (over_tab f es (less w) (feed text (longer c)) codes (longer_is es w 32 c p q h e refl)
      (omega (arith, few)) (λ d j. more d (subst (λ (i : ℕ). Within es i d r) (let s : w - 1 - n ≡ w - (n + 1) = omega arith in s) j)))

  -- within them, up to what follows
  pub goes_over : (codes : List ℕ) {p : Point} → Sees text p codes → (es : List Event) (w : ℕ) (c : Config W) → Within es w c p → white_weight codes ≤ w
      → Gone es c p (bare codes)
  goes_over [] {p} (nothing e) es w c h few = stops es w c p [] h (inside_none bodies states_do c (end_at h.at e)) (nothing e)
  goes_over (code ∷ cs) {p} (byte {q = q} apart e s) es w c h few = elim (cases_Bool (is_white code)) [
    | inl is ↦
        let size = white_weighs_one code cs is apart in
        let seen : is_space_or_tab (text_byte code) ≡ true = seen_white code ∙ is in
        subst (λ (ds : List ℕ). Gone es c p ds) (sym (rest_more is_white code cs is)) (over_byte es w (text_byte code) c p q (bare cs) h e seen
        (omega (arith, few, size)) (goes_over cs s es (less w) (feed text (longer c)) (longer_is es w (text_byte code) c p q h e seen)
        (omega (arith, few, size))))
    | inr is ↦ subst (λ (ds : List ℕ). Gone es c p ds) (sym (rest_none is_white code cs is)) (stops es w c p (code ∷ cs) h
        (inside_other bodies states_do (text_byte code) c (byte_at h.at e) (seen_white code ∙ is)) (byte apart e s))
  ]
  goes_over (code ∷ cs) {p} (tab {q = q} {r = r} {n = n} most e f s) es w c h few =
      let size = white_weighs 9 cs refl in
      subst (λ (ds : List ℕ). Gone es c p ds) (sym (rest_more is_white 9 cs refl)) (over_byte es w 9 c p q (bare cs) h e refl (omega (arith, few, size))
      (over_tab f es (less w) (feed text (longer c)) (bare cs) (longer_is es w 9 c p q h e refl) (omega (arith, few, size, most))
      (λ d j. goes_over cs s es (less w - n) d j (omega (arith, few, size, most)))))

  -- where an attempt at them ends
  pub record Attempted (es : List Event) (c : Config W) (p : Point) (codes : List ℕ) : Type 0 where
    pub config : Config W
    pub next : Point
    pub end : Point
    pub columns : ℕ
    pub code : ℕ
    pub first : text.byte (text.start p) ≡ Some (as_byte code next)
    pub white : is_space_or_tab code ≡ true
    pub reads : ReadsBy bodies text c (states.Retry start) config true
    pub there : Within ((es ++ event Enter names.SpaceOrTab (text.start p) None ∷ [])
        ++ event Exit names.SpaceOrTab (text.start end) None ∷ []) columns config end
    pub stretch : Whites text next end
    pub sees : Sees text end codes

  module _ (es : List Event) (w : ℕ) (c : Config W) (p : Point) (at : AtHand text c p) (here : Here text c0 es (spaced w k) c)
      (whole : k.connect ≡ false) where
    abbrev entered : List Event
    entered = es ++ event Enter names.SpaceOrTab (text.start p) None ∷ []

    first_is : (b : ℕ) (q : Point) → text.byte (text.start p) ≡ Some (as_byte b q) → is_space_or_tab b ≡ true → Within entered (less w) (feed text (begun c)) q
    first_is b q e is = record {
      at = fed text (begun c) q (at.next (as_byte b q) e);
      here = record {
        events = ap (λ (s : KeptState). c.events ++ event Enter names.SpaceOrTab c.point
            (part_link (record c { tokenize_state = s })) ∷ []) here.kept
            ∙ (ap (λ (connect : Bool). c.events ++ event Enter names.SpaceOrTab c.point
            (part_link (record c { tokenize_state = record k { connect = connect } })) ∷ []) whole
            ∙ (ap (λ (q : Point). c.events ++ event Enter names.SpaceOrTab q None ∷ []) at.point
            ∙ ap (λ (l : List Event). l ++ event Enter names.SpaceOrTab (text.start p) None ∷ []) here.events));
        kept = ap (λ (s : KeptState). spaced (less s.size_c) s) here.kept;
        map = here.map;
        resolvers = here.resolvers;
      };
      apart = ap is_feed (byte_at at e) ∙ white_feed b is;
    }

    begins : (b : ℕ) (q : Point) (codes : List ℕ) → text.byte (text.start p) ≡ Some (as_byte b q) → is_space_or_tab b ≡ true → 0 < w
        → Gone entered (feed text (begun c)) q codes → Attempted es c p codes
    begins b q codes e is some g = record {
      config = g.config;
      next = q;
      end = g.end;
      columns = g.columns;
      code = b;
      first = e;
      white = is;
      reads = ends_well bodies text c g.config (states.Retry start) (and_on bodies text (does_next bodies text start inside c (begun c)
          (start_does bodies states_do b c (byte_at at e) is (room w c.tokenize_state here.kept some))) g.goes);
      there = g.there;
      stretch = g.stretch;
      sees = g.sees;
    }

    -- at the first of them
    pub attempted : (code : ℕ) (cs : List ℕ) → Sees text p (code ∷ cs) → is_white code ≡ true → white_weight (code ∷ cs) ≤ w
        → Attempted es c p (bare (code ∷ cs))
    attempted code cs (byte {q = q} apart e s) is few =
        let size = white_weighs_one code cs is apart in
        let seen : is_space_or_tab (text_byte code) ≡ true = seen_white code ∙ is in
        subst (λ (ds : List ℕ). Attempted es c p ds) (sym (rest_more is_white code cs is)) (begins (text_byte code) q (bare cs) e seen
        (omega (arith, few, size)) (goes_over cs s entered (less w) (feed text (begun c)) (first_is (text_byte code) q e seen) (omega (arith, few, size))))
    attempted code cs (tab {q = q} {r = r} {n = n} most e f s) is few =
        let size = white_weighs 9 cs refl in
        subst (λ (ds : List ℕ). Attempted es c p ds) (sym (rest_more is_white 9 cs refl)) (begins 9 q (bare cs) e refl (omega (arith, few, size))
        (over_tab f entered (less w) (feed text (begun c)) (bare cs) (first_is 9 q e refl) (omega (arith, few, size, most))
        (λ d j. goes_over cs s entered (less w - n) d j (omega (arith, few, size, most)))))
