-- The states of code and math read what the definition calls a span, and nothing else.
use Rattle.std.proofs.Common.{◌≡◌, ◌∙◌, ℕ, suc, zero, ◌+◌, ◌-◌, ◌^◌, ◌<◌, ◌≤◌, min, Bool, true, false, not, ◌==◌, ◌||◌, if◌then◌else◌, List, [], ◌∷◌, ◌++◌}
use Rattle.std.proofs.Common.{length, drop, Option, Some, None, inl, inr, refl, sym, ap, subst, arith, append_assoc}
use Rattle.state_verdicts.proofs.Prelude.{after_run, as_byte, byte, cases_Bool, Config, Context, ends-nok, ends-ok, eq-eqb, eqb-false, eqb-true, event, Event}
use Rattle.state_verdicts.proofs.Prelude.{EventName, feed, has, Inlines, is_eol, is_feed, is_other, KeptState, length-drop, longer, more, ne_eqb, next}
use Rattle.state_verdicts.proofs.Prelude.{not-true, nothing, or_from, or_parts, past_byte, Pieces, plain, Point, prefix_len, retry, run_body, run_length}
use Rattle.state_verdicts.proofs.Prelude.{run_of, Sees, SpanNames, spanning, State, Stretch, tab, Text, text_byte, with_enter, with_exit}
use Rattle.engine_events.specs.declared.event.Kind.TheVariants.{Enter, Exit}
use Rattle.engine_events.specs.declared.event.Name.TheVariants as names
use Rattle.engine_states.specs.declared.state.Inline.TheVariants as state_inline
use Rattle.engine_states.specs.declared.state.Name.TheVariants.{Inline}
use Rattle.engine_states.specs.declared.state.State.TheVariants as states
use Rattle.state_inline.specs.Inlines.{bodies}
use Rattle.state_verdicts.specs.RawText.{closing, ending, others, run}
use Rattle.state_verdicts.specs.Verdicts.{Reads}
use Rattle.state_verdicts.proofs.Loops.{At, Over, byte_at, end_at, fed, goes_to, over, stays_to, still_at, stops}
use Rattle.state_verdicts.proofs.RawStates
use Rattle.state_verdicts.proofs.Runs.{at_run, past_other, past_others, past_run, run_within}
use Rattle.state_verdicts.proofs.Seen.{seen_feed}
use Rattle.state_verdicts.proofs.Standing
use Rattle.state_verdicts.proofs.Stretches.{Run, eol_differs, filled, part_seen, run_seen, seen_as_itself, sight}
use Rattle.state_verdicts.proofs.Turns.{on_retry}

-- no byte is this one, by what the machine keeps of it
pub stop_sort : (m : ℕ) (v : Option ℕ) (k : ℕ) → k ≡ m → has (λ b. b == m) v ≡ false → has (λ b. b == k) v ≡ false
stop_sort m v k e h = subst (λ (n : ℕ). has (λ b. b == n) v ≡ false) (sym e) h

module _ {T : Type 0} (texts : List ℕ → Option (List ℕ)) (is_punctuation : ℕ
    → Bool) (x : Context T) (text : Text) (given : SpanNames) (m n : ℕ) (c0 : Config Inlines) where
  -- these events stand, and this is kept
  abbrev pub Here : List Event → KeptState → Config Inlines → Type 0
  Here es k c = Standing.Here text c0 es k c

  -- what is kept in a span whose further run has this size
  abbrev pub inside : ℕ → KeptState
  inside size_b = spanning given m n size_b c0.tokenize_state

  -- reading goes well from these events on, with further ones and the end of the span, up to after the run that was found
  pub record GoesToRun (c : Config Inlines) (s : State) (es : List Event) (shows : List Event → Point → Type 0) (rest : List ℕ) : Type 0 where
    pub config : Config Inlines
    pub end : Point
    pub added : List Event
    pub reads : Reads texts is_punctuation x text c s config true
    pub here : Here (es ++ (added ++ event Exit given.whole (text.start end) None ∷ [])) (inside n) config
    pub point : config.point ≡ text.start end
    pub shown : shows added end
    pub sees : Sees text end (drop n rest)

  -- what reading comes to: nothing where no run is found
  abbrev pub Outcome : Config Inlines → State → List Event → (List Event → Point → Type 0) → Option (List ℕ) → Type 0
  Outcome c s es shows None = (d : Config Inlines) × Reads texts is_punctuation x text c s d false
  Outcome c s es shows (Some rest) = GoesToRun c s es shows rest

  -- from another configuration that reading comes by, after a further event
  after_event : (c e : Config Inlines) (s t : State) (es : List Event) (v : Event) (shows more : List Event → Point → Type 0) (o : Option (List ℕ))
      → ((d : Config Inlines) (w : Bool) → Reads texts is_punctuation x text e t d w → Reads texts is_punctuation x text c s d w)
      → ((added : List Event) (end : Point) → more added end → shows (v ∷ added) end) → Outcome e t (es ++ v ∷ []) more o → Outcome c s es shows o
  after_event c e s t es v shows more None back grows (d, r) = (d, back d false r)
  after_event c e s t es v shows more (Some rest) back grows f = record {
    config = f.config;
    end = f.end;
    added = v ∷ f.added;
    reads = back f.config true f.reads;
    here = record {
      events = f.here.events ∙ append_assoc es (v ∷ []) (f.added ++ event Exit given.whole (text.start f.end) None ∷ []);
      kept = f.here.kept;
      map = f.here.map;
      resolvers = f.here.resolvers;
    };
    point = f.point;
    shown = grows f.added f.end f.shown;
    sees = f.sees;
  }

  pub enters : {es : List Event} {k : KeptState} {c : Config Inlines} {q : Point} (name goal : EventName) → name ≡ goal → Here es k c → At text c q
      → Here (es ++ event Enter goal (text.start q) None ∷ []) k (with_enter name None c)
  enters {es} {k} {c} {q} name goal e h at =
      subst (λ (z : EventName). Here (es ++ event Enter goal (text.start q) None ∷ []) k (with_enter z None c)) (sym e)
      (Standing.enters text c0 goal h at.point)

  pub exits : {es : List Event} {k : KeptState} {c : Config Inlines} {q : Point} (name goal : EventName) → name ≡ goal → Here es k c
      → is_feed c.previous ≡ false
      → At text c q
      → Here (es ++ event Exit goal (text.start q) None ∷ []) k (with_exit name c)
  exits {es} {k} {c} {q} name goal e h apart at =
      subst (λ (z : EventName). Here (es ++ event Exit goal (text.start q) None ∷ []) k (with_exit z c)) (sym e) (Standing.exits text c0 goal h apart at.point)

  -- over a byte
  pub fed_here : {es : List Event} {k : KeptState} {c : Config Inlines} → Here es k c → Here es k (feed text (past_byte c))
  fed_here h = Standing.fed_here text c0 (Standing.past_here text c0 h)

  -- the same with something else kept
  pub keeping_here : {es : List Event} {k : KeptState} {c : Config Inlines} (f : KeptState → KeptState) (goal : KeptState) → f k ≡ goal → Here es k c
      → Here es goal (record c { tokenize_state = f c.tokenize_state })
  keeping_here f goal e h = Standing.keeping_here text c0 f goal e h

  -- in a piece, reading isn't right after a line ending
  abbrev pub Within : List Event → KeptState → Config Inlines → Type 0
  Within es k c = Here es k c × (is_feed c.previous ≡ false)

  pub marker_is : {es : List Event} {b : ℕ} {c : Config Inlines} → Here es (inside b) c → c.tokenize_state.marker ≡ m
  marker_is h = ap (λ (k : KeptState). k.marker) h.kept

  -- from here on reading comes to what the definition finds
  abbrev pub Goes : List ℕ → Type 0
  Goes cs =
      (c : Config Inlines) (q : Point) (es : List Event) (b : ℕ) → Here es (inside b) c → At text c q → Sees text q cs
      → Outcome c (retry state_inline.RawTextBetween) es (Pieces text given m n q) (run_of m n false cs)

  -- ---- what stands between runs

  data_does : (es : List Event) (b j v : ℕ) (c : Config Inlines) → Within es (inside b) c → c.current ≡ Some v → is_other m v ≡ true
      → run_body (bodies texts is_punctuation x (Inline state_inline.RawTextData)) c ≡ plain (past_byte c) (next state_inline.RawTextData)
  data_does es b j v c h e is = RawStates.data_longer texts is_punctuation x v c e
      (ap (λ (k : ℕ). (v == 10) || (v == k)) (marker_is h.0) ∙ not-true ((v == 10) || (v == m)) is)

  data_keeps : (es : List Event) (b j v : ℕ) (c : Config Inlines) → Within es (inside b) c → c.current ≡ Some v → is_other m v ≡ true
      → Within es (inside b) (feed text (past_byte c))
  data_keeps es b j v c h e is = (fed_here h.0, ap is_feed e ∙ (or_parts (v == 10) (v == m) (not-true ((v == 10) || (v == m)) is)).0)

  data_over : {k : ℕ} {q r : Point} (es : List Event) (b : ℕ) (c : Config Inlines) → Stretch text (is_other m) k q r → Within es (inside b) c → At text c q
      → Over texts is_punctuation x text (Inline state_inline.RawTextData) (λ j d. Within es (inside b) d) c (0 + k) r
  data_over es b c st h at =
      over texts is_punctuation x text (Inline state_inline.RawTextData) (is_other m) past_byte (λ j d. Within es (inside b) d) (data_does es b)
      (data_keeps es b) (λ d. refl) st 0 c h at

  data_stops : (m k : ℕ) (v : Option ℕ) → k ≡ m → has (is_other m) v ≡ false → has (is_other k) v ≡ false
  data_stops m k v e h = ap (λ (i : ℕ). has (is_other i) v) e ∙ h

  data_reads : {k : ℕ} {p q r : Point} (es : List Event) (b : ℕ) (c : Config Inlines) (cs : List ℕ) → Stretch text (is_other m) (k + 1) p r
      → Stretch text (is_other m) k q r → Within es (inside b) c → At text c q → Goes cs → Sees text r cs
      → Outcome c (retry state_inline.RawTextData) es (λ added end. Pieces text given m n p (event Enter given.content (text.start p) None ∷ added) end)
      (run_of m n false cs)
  data_reads {k} {p} {q} {r} es b c cs all st h at rest s =
      let f = data_over es b c st h at in
      let d = f.config in
      let e = with_exit d.tokenize_state.token_3 d in
      let stop : has (is_other d.tokenize_state.marker) d.current ≡ false =
      data_stops m d.tokenize_state.marker d.current (marker_is f.held.0) (ap (has (is_other m)) f.at.current ∙ stops st) in
      after_event c e (retry state_inline.RawTextData) (retry state_inline.RawTextBetween) es (event Exit given.content (text.start r) None)
      (λ added end. Pieces text given m n p (event Enter given.content (text.start p) None ∷ added) end) (Pieces text given m n r) (run_of m n false cs)
      (λ z w reads. f.back z w (stays_to texts is_punctuation x text (Inline state_inline.RawTextData) (Inline state_inline.RawTextBetween) d e z w
      (RawStates.data_ends texts is_punctuation x d d.current refl stop) reads))
      (λ added end pieces. others (omega arith) all pieces)
      (rest e r (es ++ event Exit given.content (text.start r) None ∷ []) b (exits d.tokenize_state.token_3 given.content
      (ap (λ (i : KeptState). i.token_3) f.held.0.kept) f.held.0 f.held.1 f.at) (still_at refl refl refl f.at) s)

  others_read : {k : ℕ} {q r end : Point} (v : ℕ) (es : List Event) (b : ℕ) (c : Config Inlines) (cs : List ℕ) → text.byte (text.start q) ≡ Some (as_byte v r)
      → is_other m v ≡ true → Stretch text (is_other m) k r end
      → Here es (inside b) c → At text c q → Goes cs → Sees text end cs
      → Outcome c (retry state_inline.RawTextBetween) es (Pieces text given m n q) (run_of m n false cs)
  others_read {k} {q} {r} {end} v es b c cs e is st h at rest s =
      let apart = or_parts (v == 10) (v == m) (not-true ((v == 10) || (v == m)) is) in
      let d = RawStates.others_begun c in
      let begun = fed_here (enters c.tokenize_state.token_3 given.content (ap (λ (i : KeptState). i.token_3) h.kept) h at) in
      after_event c (feed text d) (retry state_inline.RawTextBetween) (retry state_inline.RawTextData) es (event Enter given.content (text.start q) None)
      (Pieces text given m n q) (λ added z. Pieces text given m n q (event Enter given.content (text.start q) None ∷ added) z) (run_of m n false cs)
      (λ z w reads. goes_to texts is_punctuation x text (Inline state_inline.RawTextBetween) (Inline state_inline.RawTextData) c d z w
      (RawStates.between_others texts is_punctuation x v c (byte_at at e) apart.0 (ap (λ (i : ℕ). v == i) (marker_is h) ∙ apart.1)) reads)
      (λ added z pieces. pieces)
      (data_reads (es ++ event Enter given.content (text.start q) None ∷ []) b (feed text d) cs (longer e is st) st (
        begun,
        ap is_feed (byte_at at e) ∙ apart.0,
      ) (fed text d r (at.next (as_byte v r) e)) rest s)

  -- ---- line endings

  line_place : (v : Option ℕ) (p l : Point) → v ≡ Some 10 → (if is_feed v then (if is_feed v then p else l) else p) ≡ p
  line_place v p l h = ap (λ (w : Option ℕ). if is_feed w then (if is_feed w then p else l) else p) h

  line_here : {es : List Event} {b : ℕ} {c : Config Inlines} {q r : Point} → Here es (inside b) c → At text c q → text.byte (text.start q) ≡ Some (as_byte 10 r)
      → Here ((es ++ event Enter names.LineEnding (text.start q) None ∷ []) ++ event Exit names.LineEnding r None ∷ []) (inside b)
      (feed text (RawStates.line_over c))
  line_here {es} {b} {c} {q} {r} h at e =
      let g = enters names.LineEnding names.LineEnding refl h at in
      record {
        events =
            ap (λ (p : Point). (c.events ++ event Enter names.LineEnding c.point None ∷ []) ++ event Exit names.LineEnding p None ∷ [])
            (line_place c.current c.next c.line_start (byte_at at e) ∙ at.next (as_byte 10 r) e)
            ∙ ap (λ (l : List Event). l ++ event Exit names.LineEnding r None ∷ []) g.events;
        kept = h.kept;
        map = h.map;
        resolvers = h.resolvers;
      }

  line_reads : {q r : Point} (es : List Event) (b : ℕ) (c : Config Inlines) (cs : List ℕ) → text.byte (text.start q) ≡ Some (as_byte 10 r)
      → Here es (inside b) c → At text c q → Goes cs → Sees text r cs
      → Outcome c (retry state_inline.RawTextBetween) es (Pieces text given m n q) (run_of m n false cs)
  line_reads {q} {r} es b c cs e h at rest s =
      let d = RawStates.line_over c in
      let enter = event Enter names.LineEnding (text.start q) None in
      let exit = event Exit names.LineEnding r None in
      after_event c c (retry state_inline.RawTextBetween) (retry state_inline.RawTextBetween) es enter (Pieces text given m n q)
      (λ added z. Pieces text given m n q (enter ∷ added) z) (run_of m n false cs)
      (λ z w reads. reads) (λ added z pieces. pieces)
      (after_event c (feed text d) (retry state_inline.RawTextBetween) (retry state_inline.RawTextBetween) (es ++ enter ∷ []) exit
      (λ added z. Pieces text given m n q (enter ∷ added) z) (Pieces text given m n r) (run_of m n false cs)
      (λ z w reads. goes_to texts is_punctuation x text (Inline state_inline.RawTextBetween) (Inline state_inline.RawTextBetween) c d z w
      (RawStates.between_line texts is_punctuation x c (byte_at at e)) reads)
      (λ added z pieces. ending e pieces)
      (rest (feed text d) r ((es ++ enter ∷ []) ++ exit ∷ []) b (line_here h at e) (fed text d r (at.next (as_byte 10 r) e)) s))

  -- ---- runs

  abbrev pub limit : ℕ
  limit = 2 ^ 64 - 1

  abbrev Closing : List Event → ℕ → Config Inlines → Type 0
  Closing es j c = Within es (inside (min j limit)) c

  pub one_longer : (j : ℕ) → more (min j limit) ≡ min (j + 1) limit
  one_longer j = omega arith

  longer_kept : (j : ℕ) → (record (inside (min j limit)) { size_b = more (min j limit) }) ≡ inside (min (j + 1) limit)
  longer_kept j = ap inside (one_longer j)

  close_does : (es : List Event) (j v : ℕ) (c : Config Inlines) → Closing es j c → c.current ≡ Some v → (v == m) ≡ true
      → run_body (bodies texts is_punctuation x (Inline state_inline.RawTextSequenceClose)) c
      ≡ plain (RawStates.run_longer c) (next state_inline.RawTextSequenceClose)
  close_does es j v c h e is = RawStates.close_longer texts is_punctuation x v c e (ap (λ (k : ℕ). v == k) (marker_is h.0) ∙ is)

  module _ (no_feed : (m == 10) ≡ false) where
    marker_apart : (v : ℕ) → (v == m) ≡ true → (v == 10) ≡ false
    marker_apart v is = ap (λ (k : ℕ). k == 10) (eqb-true v m is) ∙ no_feed

    close_keeps : (es : List Event) (j v : ℕ) (c : Config Inlines) → Closing es j c → c.current ≡ Some v → (v == m) ≡ true
        → Closing es (j + 1) (feed text (RawStates.run_longer c))
    close_keeps es j v c h e is = (
      fed_here (keeping_here (λ (k : KeptState). record k { size_b = more k.size_b }) (inside (min (j + 1) limit)) (longer_kept j) h.0),
      ap is_feed e ∙ marker_apart v is,
    )

    close_over : {k : ℕ} {q r : Point} (es : List Event) (j : ℕ) (c : Config Inlines) → Stretch text (λ b. b == m) k q r → Closing es j c → At text c q
        → Over texts is_punctuation x text (Inline state_inline.RawTextSequenceClose) (Closing es) c (j + k) r
    close_over es j c st h at =
        over texts is_punctuation x text (Inline state_inline.RawTextSequenceClose) (λ b. b == m) RawStates.run_longer (Closing es) (close_does es)
        (close_keeps es) (λ d. refl) st j c h at

    -- a run that has the size closes the span
    close_here : (k : ℕ) {q r : Point} (es : List Event) (c d : Config Inlines) (code : ℕ) (cs : List ℕ) → k + 1 ≡ n → Stretch text (λ b. b == m) (k + 1) q r
        → Here es (inside n) d → is_feed d.previous ≡ false → At text d r
        → run_body (bodies texts is_punctuation x (Inline state_inline.RawTextSequenceClose)) d
        ≡ plain (with_exit d.tokenize_state.token_1 (with_exit d.tokenize_state.token_2 d)) states.Ok
        → ((z : Config Inlines) (w : Bool) → Reads texts is_punctuation x text d (retry state_inline.RawTextSequenceClose) z w
        → Reads texts is_punctuation x text c (retry state_inline.RawTextSequenceClose) z w)
        → Sees text r (drop k cs)
        → GoesToRun c (retry state_inline.RawTextSequenceClose) es
        (λ added z. Pieces text given m n q (event Enter given.sequence (text.start q) None ∷ added) z)
        (code ∷ cs)
    close_here k {q} {r} es c d code cs size all h apart at does back s =
        let first = exits d.tokenize_state.token_2 given.sequence (ap (λ (i : KeptState). i.token_2) h.kept) h apart at in
        let second = exits d.tokenize_state.token_1 given.whole (ap (λ (i : KeptState). i.token_1) h.kept) first apart (still_at refl refl refl at) in
        let e = with_exit d.tokenize_state.token_1 (with_exit d.tokenize_state.token_2 d) in
        record {
          config = e;
          end = r;
          added = event Exit given.sequence (text.start r) None ∷ [];
          reads = back e true (on_retry texts is_punctuation x text (Inline state_inline.RawTextSequenceClose) d e true (plain e states.Ok) does ends-ok);
          here = record {
            events = second.events ∙ append_assoc es (event Exit given.sequence (text.start r) None ∷ [])
                (event Exit given.whole (text.start r) None ∷ []);
            kept = second.kept;
            map = second.map;
            resolvers = second.resolvers;
          };
          point = at.point;
          shown = closing (subst (λ (i : ℕ). Stretch text (λ b. b == m) i q r) size all);
          sees = subst (λ (i : ℕ). Sees text r (drop i (code ∷ cs))) (let e : suc k ≡ n = omega (arith, size) in e) s;
        }

    -- one that hasn't is a piece
    close_goes_on : (k : ℕ) {q r : Point} (es : List Event) (b : ℕ) (c d : Config Inlines) (cs : List ℕ) → (k + 1 == n) ≡ false
        → Stretch text (λ b. b == m) (k + 1) q r → Here es (inside b) d → is_feed d.previous ≡ false → At text d r
        → run_body (bodies texts is_punctuation x (Inline state_inline.RawTextSequenceClose)) d
        ≡ plain (with_exit d.tokenize_state.token_2 d) (retry state_inline.RawTextBetween)
        → ((z : Config Inlines) (w : Bool) → Reads texts is_punctuation x text d (retry state_inline.RawTextSequenceClose) z w
        → Reads texts is_punctuation x text c (retry state_inline.RawTextSequenceClose) z w)
        → Goes cs → Sees text r cs
        → Outcome c (retry state_inline.RawTextSequenceClose) es (λ added z. Pieces text given m n q
        (event Enter given.sequence (text.start q) None ∷ added) z) (run_of m n false cs)
    close_goes_on k {q} {r} es b c d cs size all h apart at does back rest s =
        let e = with_exit d.tokenize_state.token_2 d in
        after_event c e (retry state_inline.RawTextSequenceClose) (retry state_inline.RawTextBetween) es (event Exit given.sequence (text.start r) None)
        (λ added z. Pieces text given m n q (event Enter given.sequence (text.start q) None ∷ added) z) (Pieces text given m n r) (run_of m n false cs)
        (λ z w reads. back z w (stays_to texts is_punctuation x text (Inline state_inline.RawTextSequenceClose)
        (Inline state_inline.RawTextBetween) d e z w does reads))
        (λ added z pieces. run (omega arith) size all pieces)
        (rest e r (es ++ event Exit given.sequence (text.start r) None ∷ []) b
        (exits d.tokenize_state.token_2 given.sequence (ap (λ (i : KeptState). i.token_2) h.kept) h apart at) (still_at refl refl refl at) s)

    -- what was found of a run
    abbrev by_size : Bool → ℕ → List ℕ → Option (List ℕ)
    by_size true code cs = Some (code ∷ cs)
    by_size false code cs = run_of m n false (after_run m cs)

    by_closing : (k : ℕ) {q r : Point} (es : List Event) (c d : Config Inlines) (code : ℕ) (cs : List ℕ) (is : Bool) → k ≡ run_length m cs → (k + 1 == n) ≡ is
        → Stretch text (λ b. b == m) (k + 1) q r → Here es (inside (k + 1)) d
        → is_feed d.previous ≡ false → At text d r → has (λ b. b == d.tokenize_state.marker) d.current ≡ false
        → ((z : Config Inlines) (w : Bool) → Reads texts is_punctuation x text d (retry state_inline.RawTextSequenceClose) z w
        → Reads texts is_punctuation x text c (retry state_inline.RawTextSequenceClose) z w)
        → Goes (after_run m cs) → Sees text r (after_run m cs)
        → Outcome c (retry state_inline.RawTextSequenceClose) es (λ added z. Pieces text given m n q
        (event Enter given.sequence (text.start q) None ∷ added) z) (by_size is code cs)
    by_closing k {q} {r} es c d code cs true run_is size all h apart at stop back rest s =
        let same : k + 1 ≡ n = eqb-true (k + 1) n size in
        let sizes : (d.tokenize_state.size == d.tokenize_state.size_b) ≡ true = ap (λ (i : KeptState). i.size == i.size_b) h.kept
        ∙ eq-eqb n (k + 1) (sym same) in
        close_here k es c d code cs same all (subst (λ (i : ℕ). Here es (inside i) d) same h) apart at
        (RawStates.close_ends texts is_punctuation x d d.current true refl stop sizes) back
        (subst (λ (i : ℕ). Sees text r (drop i cs)) (sym run_is) s)
    by_closing k {q} {r} es c d code cs false run_is size all h apart at stop back rest s =
        let sizes : (d.tokenize_state.size == d.tokenize_state.size_b) ≡ false =
        ap (λ (i : KeptState). i.size == i.size_b) h.kept ∙ ne_eqb n (k + 1) (λ f. eqb-false (k + 1) n size (sym f)) in
        close_goes_on k es (k + 1) c d (after_run m cs) size all h apart at (RawStates.close_ends texts is_punctuation x d d.current false refl stop sizes) back
        rest s

    close_reads : {q0 q : Point} (es : List Event) (c : Config Inlines) (code : ℕ) (cs : List ℕ) (is : Bool) → (run_length m cs + 1 == n) ≡ is
        → run_length m cs + 1 < 2 ^ 64 → text.byte (text.start q0) ≡ Some (as_byte m q)
        → Run text (λ b. b == m) q cs → Closing es 1 c → At text c q → Goes (after_run m cs)
        → Outcome c (retry state_inline.RawTextSequenceClose) es (λ added z. Pieces text given m n q0
        (event Enter given.sequence (text.start q0) None ∷ added) z) (by_size is code cs)
    close_reads {q0} {q} es c code cs is size low e f h at rest =
        let g = close_over es 1 c f.stretch h at in
        let count : min (1 + run_length m cs) limit ≡ run_length m cs + 1 = omega (arith, low) in
        let here : Here es (inside (run_length m cs + 1)) g.config = subst (λ (i : ℕ). Here es (inside i) g.config) count g.held.0 in
        by_closing (run_length m cs) es c g.config code cs is refl size (longer e (eq-eqb m m refl) f.stretch) here g.held.1 g.at
        (stop_sort m g.config.current g.config.tokenize_state.marker (marker_is here) (ap (has (λ b. b == m)) g.at.current ∙ stops f.stretch)) g.back rest
        f.sees

    run_reads : {q r : Point} (es : List Event) (b : ℕ) (c : Config Inlines) (code : ℕ) (cs : List ℕ) (is : Bool) → (run_length m cs + 1 == n) ≡ is
        → run_length m cs + 1 < 2 ^ 64 → text.byte (text.start q) ≡ Some (as_byte m r)
        → Run text (λ b. b == m) r cs → Here es (inside b) c → At text c q → Goes (after_run m cs)
        → Outcome c (retry state_inline.RawTextBetween) es (Pieces text given m n q) (by_size is code cs)
    run_reads {q} {r} es b c code cs is size low e f h at rest =
        let d = RawStates.run_begun c in
        let kept : Here es (inside 1) (record c { tokenize_state = record c.tokenize_state { size_b = 1 } }) =
        keeping_here (λ (k : KeptState). record k { size_b = 1 }) (inside 1) refl h in
        let first = enters c.tokenize_state.token_2 given.sequence (ap (λ (i : KeptState). i.token_2) h.kept) kept (still_at refl refl refl at) in
        after_event c (feed text d) (retry state_inline.RawTextBetween) (retry state_inline.RawTextSequenceClose) es
        (event Enter given.sequence (text.start q) None)
        (Pieces text given m n q) (λ added z. Pieces text given m n q (event Enter given.sequence (text.start q) None ∷ added) z) (by_size is code cs)
        (λ z w reads. goes_to texts is_punctuation x text (Inline state_inline.RawTextBetween) (Inline state_inline.RawTextSequenceClose) c d z w
        (RawStates.between_run texts is_punctuation x m c (byte_at at e) no_feed (ap (λ (i : ℕ). m == i) (marker_is h) ∙ eq-eqb m m refl)) reads)
        (λ added z pieces. pieces)
        (close_reads (es ++ event Enter given.sequence (text.start q) None ∷ []) (feed text d) code cs is size low e f (
          fed_here first,
          ap is_feed (byte_at at e) ∙ no_feed,
        ) (fed text d r (at.next (as_byte m r) e)) rest)

    -- ---- all codes

    module _ (plain_code : is_eol m ≡ false) (no_tab : (9 == m) ≡ false) (no_space : (32 == m) ≡ false) (no_column : (256 == m) ≡ false)
        (some : 0 < n) where
      itself : (c : ℕ) → (text_byte c == m) ≡ (c == m)
      itself c = seen_as_itself m plain_code (no_space ∙ sym no_column) c

      is_no_other : (v : ℕ) → is_other m v ≡ true → (v == m) ≡ false
      is_no_other v is = (or_parts (v == 10) (v == m) (not-true ((v == 10) || (v == m)) is)).1

      code_apart : (c : ℕ) → sight text (is_other m) c ≡ true → (c == m) ≡ false
      code_apart c is = sym (itself c) ∙ is_no_other (text_byte c) is

      tab_is_other : is_other m 9 ≡ true
      tab_is_other = ap not no_tab

      space_is_other : is_other m 32 ≡ true
      space_is_other = ap not no_space

      other_seen : (code : ℕ) → is_eol code ≡ false → (code == m) ≡ false → is_other m (text_byte code) ≡ true
      other_seen code line other =
          ap not (or_from (text_byte code == 10) (text_byte code == m) (seen_feed code ∙ line) (itself code ∙ other))

      sized : (is : Bool) (code : ℕ) (cs : List ℕ) → (code == m) ≡ true → (run_length m cs + 1 == n) ≡ is → by_size is code cs ≡ run_of m n false (code ∷ cs)
      sized true code cs same wanted = sym (at_run m n some code cs true same wanted)
      sized false code cs same wanted = past_run m n some cs ∙ sym (at_run m n some code cs false same wanted)

      -- so many codes at most are read
      abbrev pub GoesUpTo : ℕ → Type 0
      GoesUpTo size = (cs : List ℕ) → length cs ≤ size → length cs < 2 ^ 64 → Goes cs

      few_left : (k size : ℕ) (cs : List ℕ) → length cs ≤ size → length (drop k cs) ≤ size
      few_left k size cs few = let e = length-drop k cs in omega (arith, e, few)

      few_bytes : (k : ℕ) (cs : List ℕ) → length cs < 2 ^ 64 → length (drop k cs) < 2 ^ 64
      few_bytes k cs few = let e = length-drop k cs in omega (arith, e, few)

      others_by : (size : ℕ) → GoesUpTo size → (c : Config Inlines) (q r : Point) (es : List Event) (b v code : ℕ) (cs : List ℕ) → length cs ≤ size
          → length cs < 2 ^ 64 → Here es (inside b) c → At text c q
          → text.byte (text.start q) ≡ Some (as_byte v r) → is_other m v ≡ true → (code == m) ≡ false → (k : ℕ) (end : Point)
          → Stretch text (is_other m) k r end → Sees text end (drop (prefix_len (sight text (is_other m)) cs) cs)
          → Outcome c (retry state_inline.RawTextBetween) es (Pieces text given m n q) (run_of m n false (code ∷ cs))
      others_by size short c q r es b v code cs few low h at e is apart k end st s =
          let rest = drop (prefix_len (sight text (is_other m)) cs) cs in
          subst (λ (o : Option (List ℕ)). Outcome c (retry state_inline.RawTextBetween) es (Pieces text given m n q) o)
          (past_others m n some (sight text (is_other m)) code_apart cs ∙ sym (past_other m n some false code cs apart))
          (others_read v es b c rest e is st h at (short rest (few_left (prefix_len (sight text (is_other m)) cs) size cs few)
          (few_bytes (prefix_len (sight text (is_other m)) cs) cs low)) s)

      run_by : (size : ℕ) → GoesUpTo size → (c : Config Inlines) (q r : Point) (es : List Event) (b code : ℕ) (cs : List ℕ) → length cs ≤ size
          → length (code ∷ cs) < 2 ^ 64 → Here es (inside b) c → At text c q
          → text.byte (text.start q) ≡ Some (as_byte m r) → (code == m) ≡ true → Sees text r cs → (is : Bool) → (run_length m cs + 1 == n) ≡ is
          → Outcome c (retry state_inline.RawTextBetween) es (Pieces text given m n q) (run_of m n false (code ∷ cs))
      run_by size short c q r es b code cs few low h at e same s is wanted =
          let f = run_seen text (λ i. i == m) no_tab itself cs s in
          let all : run_length m cs ≤ length cs = run_within m cs in
          subst (λ (o : Option (List ℕ)). Outcome c (retry state_inline.RawTextBetween) es (Pieces text given m n q) o) (sized is code cs same wanted)
          (run_reads es b c code cs is wanted (omega (arith, all, low)) e f h at
          (short (after_run m cs) (few_left (run_length m cs) size cs few) (few_bytes (run_length m cs) cs (omega (arith, low)))))

      seen_line : (code : ℕ) → is_eol code ≡ true → text_byte code ≡ 10
      seen_line code h = eqb-true (text_byte code) 10 (seen_feed code ∙ h)

      seen_same : (code : ℕ) → (code == m) ≡ true → text_byte code ≡ m
      seen_same code h = eqb-true (text_byte code) m (itself code ∙ h)

      pub goes : (size : ℕ) → GoesUpTo size
      goes size [] few low c q es b h at (nothing e) = (
        c,
        on_retry texts is_punctuation x text (Inline state_inline.RawTextBetween) c c false (plain c states.Nok)
            (RawStates.between_ends texts is_punctuation x c (end_at at e)) ends-nok,
      )
      goes zero (code ∷ cs) few low c q es b h at s = absurd (omega (arith, few))
      goes (suc size) (code ∷ cs) few low c q es b h at (byte {q = r} apart e s) = elim (cases_Bool (is_eol code)) [
        | inl line ↦
            subst (λ (o : Option (List ℕ)). Outcome c (retry state_inline.RawTextBetween) es (Pieces text given m n q) o)
            (sym (past_other m n some false code cs (eol_differs m code plain_code line)))
            (line_reads es b c cs (e ∙ ap (λ (i : ℕ). Some (as_byte i r)) (seen_line code line)) h at
            (goes size cs (omega (arith, few)) (omega (arith, low))) s)
        | inr within ↦ elim (cases_Bool (code == m)) [
          | inl same ↦ run_by size (goes size) c q r es b code cs (omega (arith, few)) low h at
              (e ∙ ap (λ (i : ℕ). Some (as_byte i r)) (seen_same code same)) same s (run_length m cs + 1 == n) refl
          | inr other ↦
              let f = part_seen text (is_other m) tab_is_other space_is_other cs s in
              others_by size (goes size) c q r es b (text_byte code) code cs (omega (arith, few)) (omega (arith, low)) h at e
              (other_seen code within other) other f.count f.end f.stretch f.sees
        ]
      ]
      goes (suc size) (code ∷ cs) few low c q es b h at (tab {q = r} some_left e fills s) =
          let f = part_seen text (is_other m) tab_is_other space_is_other cs s in
          let g = filled text (is_other m) tab_is_other space_is_other fills f.stretch in
          others_by size (goes size) c q r es b 9 9 cs (omega (arith, few)) (omega (arith, low)) h at e tab_is_other no_tab g.count f.end g.stretch f.sees
