-- A run of one byte, and then spaces and tabs up to the end of the line: what two states come to that read these.
use Rattle.std.proofs.Common.{◌≡◌, ◌∙◌, ℕ, suc, ◌+◌, ◌≤◌, Bool, true, false, ◌==◌, ◌&&◌, ◌||◌, if◌then◌else◌, List, [], ◌∷◌, ◌++◌, drop, Option, Some, None}
use Rattle.std.proofs.Common.{inl, inr}
use Rattle.std.proofs.Common.{refl, sym, ap, subst, arith}
use Rattle.state_verdicts.proofs.BlockPrelude.{as_byte, AtHand, byte, cases_Bool, Config, event, Event, EventName, feed, has, is_eol, is_feed, is_space_or_tab}
use Rattle.state_verdicts.proofs.BlockPrelude.{is_white, KeptState, line_of, list_all, Name, no_limit, nothing, part, past_byte, plain, Point, run, Sees}
use Rattle.state_verdicts.proofs.BlockPrelude.{SkipsOnce, tab, Text, text_byte, tries, with_exit}
use Rattle.definition_text.specs.Runs.{after_run, run as run_length}
use Rattle.engine_events.specs.declared.event.Kind.TheVariants.{Exit}
use Rattle.engine_programs.specs.Bodies.{Body}
use Rattle.engine_states.specs.declared.state.Inline.TheVariants as state_inline
use Rattle.engine_states.specs.declared.state.State.TheVariants as states
use Rattle.state_verdicts.specs.Lines.{has_ending, is_filled}
use Rattle.state_verdicts.specs.Machines.{GoesOnBy}
use Rattle.state_verdicts.specs.WhiteSpace.{white_events}
use Rattle.state_verdicts.proofs.LineCodes.{after_more, line_more, line_none, prefix_more, prefix_none, rest_more, weight, weight_some}
use Rattle.state_verdicts.proofs.MachineTurns.{and_on, byte_at, does, does_next, end_at, fed, still_at}
use Rattle.state_verdicts.proofs.Markers.{Marker, marker_inner, no_feed_at, white_apart}
use Rattle.state_verdicts.proofs.Seen.{seen_white}
use Rattle.state_verdicts.proofs.Standing.{Here, exits}
use Rattle.state_verdicts.proofs.WhiteLines.{LineOver, SpacedIf, WantsEnd, at_once, blank, over_white}
use Rattle.state_verdicts.proofs.WhiteReads.{ReadsWhite, spaced}

-- what a state within a run does
pub record ReadsRun {W : Type 0} (bodies : Name → Body W) (after : WantsEnd bodies) (m : ℕ) : Type 0 where
  pub sequence : Name
  -- the name of the run's events
  pub name : EventName
  -- what is kept where so many bytes of the run were read, but for the columns that may follow
  pub kept : ℕ → KeptState
  -- so many bytes are enough
  pub long : ℕ → Bool
  pub whole : (n : ℕ) → (kept n).connect ≡ false
  -- in the run
  pub longer : (w n b : ℕ) (c : Config W) → c.tokenize_state ≡ spaced w (kept n) → c.current ≡ Some b → (b == m) ≡ true
      → run (bodies sequence) c ≡ plain (past_byte (record c { tokenize_state = spaced w (kept (n + 1)) })) (states.Next sequence)
  -- after it
  pub short : (w n : ℕ) (c : Config W) (v : Option ℕ) → c.tokenize_state ≡ spaced w (kept n) → c.current ≡ v → has (λ b. b == m) v ≡ false
      → long n ≡ false → run (bodies sequence) c ≡ plain c states.Nok
  pub ends : (w n : ℕ) (c : Config W) → c.tokenize_state ≡ spaced w (kept n) → c.current ≡ None → long n ≡ true
      → run (bodies sequence) c ≡ (if after.may_end then plain (with_exit name c) (states.Retry after.name) else plain c states.Nok)
  pub black : (w n b : ℕ) (c : Config W) → c.tokenize_state ≡ spaced w (kept n) → c.current ≡ Some b → (b == m) ≡ false → is_space_or_tab b ≡ false
      → long n ≡ true → run (bodies sequence) c ≡ plain (with_exit name c) (states.Retry after.name)
  pub white : (w n b : ℕ) (c : Config W) → c.tokenize_state ≡ spaced w (kept n) → c.current ≡ Some b → (b == m) ≡ false → is_space_or_tab b ≡ true
      → long n ≡ true
      → run (bodies sequence) c
      ≡ tries (states.Next after.name) states.Nok (record (with_exit name c) { tokenize_state = spaced no_limit (kept n) }) (part state_inline.SpaceOrTabStart)

module _ {W : Type 0} (bodies : Name → Body W) (spaces : ReadsWhite bodies) (text : Text) (once : SkipsOnce text) (c0 : Config W) (m : ℕ)
    (marker : Marker m) (after : WantsEnd bodies) (r : ReadsRun bodies after m) where
  -- within the run, after so many bytes of it, with these events so far
  pub record Held (n : ℕ) (es : List Event) (c : Config W) (p : Point) : Type 0 where
    pub columns : ℕ
    pub at : AtHand text c p
    pub here : Here text c0 es (spaced columns (r.kept n)) c
    pub apart : is_feed c.previous ≡ false

  -- how many bytes of the run codes begin with
  abbrev pub count : List ℕ → ℕ
  count codes = run_length m (line_of codes)

  -- the run, and the white space after it, end at the end of the line
  pub record Well (c : Config W) (n : ℕ) (es : List Event) (codes : List ℕ) : Type 0 where
    pub config : Config W
    pub columns : ℕ
    pub mid : Point
    pub end : Point
    pub goes : GoesOnBy bodies text c (states.Retry r.sequence) config (states.Retry after.name)
    pub at : AtHand text config end
    pub here : Here text c0 ((es ++ event Exit r.name (text.start mid) None ∷ [])
        ++ white_events (drop (count codes) codes) (text.start mid) (text.start end)) (spaced columns (r.kept (n + count codes))) config
    pub apart : is_feed config.previous ≡ false
    pub middle : Sees text mid (drop (count codes) codes)
    pub over : LineOver bodies text after config end codes

  -- what is left where the line is none: of what is kept, only the size of the run and the columns that may follow have changed
  pub record Failed (d : Config W) : Type 0 where
    pub size : ℕ
    pub columns : ℕ
    pub kept : d.tokenize_state ≡ spaced columns (r.kept size)
    pub map : d.map ≡ c0.map
    pub resolvers : d.resolvers ≡ c0.resolvers

  failed : {n : ℕ} {es : List Event} {c : Config W} {p : Point} → Held n es c p → Failed c
  failed {n = n} h = record { size = n; columns = h.columns; kept = h.here.kept; map = h.here.map; resolvers = h.here.resolvers }

  -- what reading comes to
  abbrev pub Outcome : Bool → Config W → ℕ → List Event → List ℕ → Type 0
  Outcome true c n es codes = Well c n es codes
  Outcome false c n es codes = (d : Config W) × GoesOnBy bodies text c (states.Retry r.sequence) d states.Nok × Failed d

  -- so many bytes were read, and with those of the line it is such a line
  abbrev pub fits : ℕ → List ℕ → Bool
  fits n codes = r.long (n + count codes) && (list_all is_white (after_run m (line_of codes)) && (after.may_end || has_ending codes))

  module _ (n : ℕ) (es : List Event) (c : Config W) (p : Point) (codes : List ℕ) (h : Held n es c p) (s : Sees text p codes) (none : count codes ≡ 0) where
    -- the events up to the end of the run
    abbrev closed : List Event
    closed = es ++ event Exit r.name (text.start p) None ∷ []

    exited : Here text c0 closed (spaced h.columns (r.kept n)) (with_exit r.name c)
    exited = exits text c0 r.name h.here h.apart h.at.point

    -- after the run
    of_spaces : (is : Bool) → SpacedIf bodies text after is c0 c r.sequence closed (r.kept n) p codes → Outcome is c n es codes
    of_spaces true o = record {
      config = o.config;
      columns = o.columns;
      mid = p;
      end = o.end;
      goes = o.goes;
      at = o.at;
      here = record {
        events = o.here.events ∙ ap (λ (i : ℕ). closed ++ white_events (drop i codes) (text.start p) (text.start o.end)) (sym none);
        kept = o.here.kept ∙ ap (λ (i : ℕ). spaced o.columns (r.kept i)) (let k : n ≡ n + count codes = omega (arith, none) in k);
        map = o.here.map;
        resolvers = o.here.resolvers;
      };
      apart = o.apart h.apart;
      middle = subst (λ (i : ℕ). Sees text p (drop i codes)) (sym none) s;
      over = o.over;
    }
    of_spaces false (d, o, f) = (d, o, record { size = n; columns = f.columns; kept = f.kept; map = f.map; resolvers = f.resolvers })

    -- the run ends here
    ends_by : Outcome (r.long n && blank bodies text after codes) c n es codes → Outcome (fits n codes) c n es codes
    ends_by o = subst (λ (is : Bool). Outcome is c n es codes)
        (ap (λ (i : ℕ). r.long i && blank bodies text after codes) (let k : n ≡ n + 0 = omega arith in k)
        ∙ sym (ap (λ (i : ℕ). r.long (n + i) && (list_all is_white (drop i (line_of codes)) && (after.may_end || has_ending codes))) none)) o

    too_short : (v : Option ℕ) → c.current ≡ v → has (λ b. b == m) v ≡ false → r.long n ≡ false → Outcome false c n es codes
    too_short v e k l = (c, does bodies text r.sequence c c states.Nok (r.short h.columns n c v h.here.kept e k l), failed h)

  -- at the end of the text
  at_none : (n : ℕ) (es : List Event) (c : Config W) (p : Point) (h : Held n es c p) → text.byte (text.start p) ≡ None → (long : Bool) → r.long n ≡ long
      → Outcome (long && blank bodies text after []) c n es []
  at_none n es c p h e true l = by_end after.may_end refl
    where
      by_end : (is : Bool) → after.may_end ≡ is → Outcome (after.may_end || false) c n es []
      by_end true k =
          of_spaces n es c p [] h (nothing e) refl (after.may_end || false) (at_once bodies text after spaces once c0 c (with_exit r.name c) r.sequence
          (closed n es c p [] h (nothing e) refl) h.columns (r.kept n) p (still_at refl refl refl h.at) (exited n es c p [] h (nothing e) refl) refl []
          (nothing e) refl (r.ends h.columns n c h.here.kept (end_at h.at e) l
          ∙ ap (λ (b : Bool). if b then plain (with_exit r.name c) (states.Retry after.name) else plain c states.Nok) k))
      by_end false k =
          subst (λ (is : Bool). Outcome (is || false) c n es []) (sym k) (
            c,
            does bodies text r.sequence c c states.Nok
                (r.ends h.columns n c h.here.kept (end_at h.at e) l
                ∙ ap (λ (b : Bool). if b then plain (with_exit r.name c) (states.Retry after.name) else plain c states.Nok) k),
            failed h,
          )
  at_none n es c p h e false l = too_short n es c p [] h (nothing e) refl None (end_at h.at e) refl l

  no_run : (code : ℕ) (cs : List ℕ) → (code == m) ≡ false → count (code ∷ cs) ≡ 0
  no_run code cs other = elim (cases_Bool (is_eol code)) [
    | inl eol ↦ ap (run_length m) (line_none code cs eol)
    | inr inner ↦ ap (run_length m) (line_more code cs inner) ∙ prefix_none (λ b. b == m) code (line_of cs) other
  ]

  -- at a byte that is none of the run
  at_other : (n : ℕ) (es : List Event) (c : Config W) (p q : Point) (code : ℕ) (cs : List ℕ) (b : ℕ) (h : Held n es c p) → Sees text p (code ∷ cs)
      → text.byte (text.start p) ≡ Some (as_byte b q) → (b == m) ≡ false → (code == m) ≡ false → is_space_or_tab b ≡ is_white code
      → weight (line_of (code ∷ cs)) ≤ no_limit → (long : Bool) → r.long n ≡ long
      → Outcome (long && blank bodies text after (code ∷ cs)) c n es (code ∷ cs)
  at_other n es c p q code cs b h s e apart other white room true l =
      let none = no_run code cs other in
      of_spaces n es c p (code ∷ cs) h s none (blank bodies text after (code ∷ cs)) (elim (cases_Bool (is_white code)) [
        | inl is ↦
            over_white bodies text after spaces once c0 c (with_exit r.name c) r.sequence (closed n es c p (code ∷ cs) h s none) h.columns (r.kept n) p
            (still_at refl refl refl h.at) (exited n es c p (code ∷ cs) h s none) refl (r.whole n) code cs s is room
            (r.white h.columns n b c h.here.kept (byte_at h.at e) apart (white ∙ is) l)
        | inr is ↦
            at_once bodies text after spaces once c0 c (with_exit r.name c) r.sequence (closed n es c p (code ∷ cs) h s none) h.columns (r.kept n) p
            (still_at refl refl refl h.at) (exited n es c p (code ∷ cs) h s none) refl (code ∷ cs) s (prefix_none is_white code cs is)
            (r.black h.columns n b c h.here.kept (byte_at h.at e) apart (white ∙ is) l)
      ])
  at_other n es c p q code cs b h s e apart other white room false l =
      too_short n es c p (code ∷ cs) h s (no_run code cs other) (Some b) (byte_at h.at e) apart l

  more_is : (code : ℕ) (cs : List ℕ) → (code == m) ≡ true → count (code ∷ cs) ≡ suc (count cs)
  more_is code cs is = ap (run_length m) (line_more code cs (marker_inner m marker code is)) ∙ prefix_more (λ b. b == m) code (line_of cs) is

  fits_more : (n code : ℕ) (cs : List ℕ) → (code == m) ≡ true → fits n (code ∷ cs) ≡ fits (n + 1) cs
  fits_more n code cs is =
      let inner = marker_inner m marker code is in
      let size = more_is code cs is in
      ap (λ (i : ℕ). r.long i && (list_all is_white (after_run m (line_of (code ∷ cs))) && (after.may_end || has_ending (code ∷ cs))))
      (let k : n + count (code ∷ cs) ≡ n + 1 + count cs = omega (arith, size) in k)
      ∙ (ap (λ (l : List ℕ). r.long (n + 1 + count cs) && (list_all is_white l && (after.may_end || has_ending (code ∷ cs))))
      (ap (after_run m) (line_more code cs inner) ∙ rest_more (λ b. b == m) code (line_of cs) is)
      ∙ ap (λ (l : List ℕ). r.long (n + 1 + count cs) && (list_all is_white (after_run m (line_of cs)) && (after.may_end || is_filled l)))
      (after_more code cs inner))

  -- from a further byte of the run
  from_more : (is : Bool) (n : ℕ) (es : List Event) (c d : Config W) (code : ℕ) (cs : List ℕ) → (code == m) ≡ true
      → GoesOnBy bodies text c (states.Retry r.sequence) d (states.Retry r.sequence) → Outcome is d (n + 1) es cs → Outcome is c n es (code ∷ cs)
  from_more true n es c d code cs is g o =
      let size = more_is code cs is in
      let rest : drop (count cs) cs ≡ drop (count (code ∷ cs)) (code ∷ cs) = ap (λ (i : ℕ). drop i (code ∷ cs)) (sym size) in
      record {
        config = o.config;
        columns = o.columns;
        mid = o.mid;
        end = o.end;
        goes = and_on bodies text g o.goes;
        at = o.at;
        here = record {
          events = o.here.events
              ∙ ap (λ (l : List ℕ). (es ++ event Exit r.name (text.start o.mid) None ∷ []) ++ white_events l (text.start o.mid) (text.start o.end)) rest;
          kept = o.here.kept
              ∙ ap (λ (i : ℕ). spaced o.columns (r.kept i)) (let k : n + 1 + count cs ≡ n + count (code ∷ cs) = omega (arith, size) in k);
          map = o.here.map;
          resolvers = o.here.resolvers;
        };
        apart = o.apart;
        middle = subst (λ (ds : List ℕ). Sees text o.mid ds) rest o.middle;
        over = record {
          ends = o.over.ends;
          sees = subst (λ (ds : List ℕ). Sees text o.end ds) (sym (after_more code cs (marker_inner m marker code is))) o.over.sees;
          stands = o.over.stands;
        };
      }
  from_more false n es c d code cs is g (f, o, z) = (f, and_on bodies text g o, z)

  longer_is : (n b : ℕ) (es : List Event) (c : Config W) (p q : Point) (h : Held n es c p) → text.byte (text.start p) ≡ Some (as_byte b q) → (b == m) ≡ true
      → Held (n + 1) es (feed text (past_byte (record c { tokenize_state = spaced h.columns (r.kept (n + 1)) }))) q
  longer_is n b es c p q h e is = record {
    columns = h.columns;
    at = fed text (past_byte (record c { tokenize_state = spaced h.columns (r.kept (n + 1)) })) q (h.at.next (as_byte b q) e);
    here = record { events = h.here.events; kept = refl; map = h.here.map; resolvers = h.here.resolvers };
    apart = ap is_feed (byte_at h.at e) ∙ no_feed_at m marker b is;
  }

  -- from within the run on
  pub over_run : (codes : List ℕ) {p : Point} → Sees text p codes → (n : ℕ) (es : List Event) (c : Config W) → Held n es c p
      → weight (line_of codes) ≤ no_limit → Outcome (fits n codes) c n es codes
  over_run [] {p} (nothing e) n es c h room = ends_by n es c p [] h (nothing e) refl (at_none n es c p h e (r.long n) refl)
  over_run (code ∷ cs) {p} (byte {q = q} apart e s) n es c h room = elim (cases_Bool (code == m)) [
    | inl is ↦
        let seen : (text_byte code == m) ≡ true = marker.itself code ∙ is in
        let l = ap weight (line_more code cs (marker_inner m marker code is)) in
        let some = weight_some code (line_of cs) in
        let d : Config W = past_byte (record c { tokenize_state = spaced h.columns (r.kept (n + 1)) }) in
        subst (λ (f : Bool). Outcome f c n es (code ∷ cs)) (sym (fits_more n code cs is)) (from_more (fits (n + 1) cs) n es c (feed text d) code cs is
        (does_next bodies text r.sequence r.sequence c d (r.longer h.columns n (text_byte code) c h.here.kept (byte_at h.at e) seen))
        (over_run cs s (n + 1) es (feed text d) (longer_is n (text_byte code) es c p q h e seen) (omega (arith, room, l, some))))
    | inr other ↦ ends_by n es c p (code ∷ cs) h (byte apart e s) (no_run code cs other)
        (at_other n es c p q code cs (text_byte code) h (byte apart e s) e (marker.itself code ∙ other) other (seen_white code) room (r.long n) refl)
  ]
  over_run (code ∷ cs) {p} (tab {q = q} most e f s) n es c h room =
      let other = white_apart m marker 9 refl in
      ends_by n es c p (9 ∷ cs) h (tab most e f s) (no_run 9 cs other)
      (at_other n es c p q 9 cs 9 h (tab most e f s) e other other refl room (r.long n) refl)
