-- An attempt at code or math reads a span where the definition has one, and nothing else.
use Rattle.std.proofs.Common.{◌≡◌, ◌∙◌, ℕ, suc, ◌+◌, ◌-◌, ◌^◌, ◌<◌, ◌≤◌, min, Bool, true, false, not, ◌==◌, ◌&&◌, if◌then◌else◌, List, [], ◌∷◌, ◌++◌, length}
use Rattle.std.proofs.Common.{drop, take, Option, Some, None, refl, sym, ap, subst, arith, append_assoc}
use Rattle.state_verdicts.proofs.Prelude.{after_run, as_byte, begins_run, byte, Config, Context, drop-drop, ends-nok, eq-eqb, eqb-true, event, Event, feed}
use Rattle.state_verdicts.proofs.Prelude.{Found, has, Inlines, is_eol, is_feed, KeptState, leaf, length-drop, more, ne_eqb, next, nothing, of_span, Pieces}
use Rattle.state_verdicts.proofs.Prelude.{plain, Point, raw_at, retry, run_body, run_length, run_of, Sees, SpanNames, spanning, SpanVerdict, tab, Text}
use Rattle.state_verdicts.proofs.Prelude.{text_byte, with_byte, with_exit}
use Rattle.std.proofs.lemmas.List.{length-take}
use Rattle.definition_text.specs.Content.{up_to}
use Rattle.definition_inline.specs.CodeText.{code_text, raw_leaf, raw_part}
use Rattle.definition_inline.specs.Inline.{Code, Math}
use Rattle.engine_events.specs.declared.event.Kind.TheVariants.{Enter, Exit}
use Rattle.engine_states.specs.declared.state.Inline.TheVariants as state_inline
use Rattle.engine_states.specs.declared.state.Name.TheVariants.{Inline}
use Rattle.engine_states.specs.declared.state.State.TheVariants as states
use Rattle.state_inline.specs.Inlines.{bodies}
use Rattle.state_verdicts.specs.RawText.{is_text}
use Rattle.state_verdicts.specs.Verdicts.{Reads}
use Rattle.state_verdicts.proofs.Loops.{Over, byte_at, end_at, fed, goes_to, over, stays_to, still_at, stops}
use Rattle.state_verdicts.proofs.RawReads.{GoesToRun, Here, Outcome, exits, goes, stop_sort}
use Rattle.state_verdicts.proofs.RawStates
use Rattle.state_verdicts.proofs.Runs.{IsRest, is_rest, run_within}
use Rattle.state_verdicts.proofs.Stretches.{Run, run_seen, seen_as_itself}
use Rattle.state_verdicts.proofs.Turns.{on_retry}

-- ---- what the definition has

no_text_by : (b : Bool) (text : List ℕ) → is_text ((if b then Math (code_text text) else Code (code_text text)) ∷ []) ≡ false
no_text_by true text = refl
no_text_by false text = refl

-- the span, by where its end was found
abbrev span_by : ℕ → List ℕ → Option (List ℕ) → Option Found
span_by m cs found = of_span (Some (raw_leaf m (suc (run_length m cs)) (m ∷ cs) (up_to (after_run m cs) found)))

-- the same, whatever size the run has
abbrev leaf_of : ℕ → Bool → List ℕ → ℕ → Option Found
leaf_of m on content n = if on && not (n == 0) then Some (raw_leaf m n content (up_to (drop n content) (run_of m n false (drop n content)))) else None

-- how long a run is from its first code on
pub full_run : (m : ℕ) (cs : List ℕ) → run_length m (m ∷ cs) ≡ suc (run_length m cs)
full_run m cs = ap (λ (b : Bool). if b then 1 + run_length m cs else 0) (eq-eqb m m refl)
    ∙ (let e : 1 + run_length m cs ≡ suc (run_length m cs) = omega arith in e)

opens_if : (b on : Bool) (l : Found) → b ≡ false → (if on && not b then Some l else None) ≡ (if on then Some l else None)
opens_if b true l h = rw h refl
opens_if b false l h = refl

pushed : (on : Bool) (l : Found) → of_span (if on then Some l else None) ≡ (if on then of_span (Some l) else None)
pushed true l = refl
pushed false l = refl

-- a run that may open has a span by where its end is found
pub at_run_start : (m : ℕ) (on : Bool) (cs : List ℕ) → of_span (raw_at m on (m ∷ cs))
    ≡ (if on then span_by m cs (run_of m (suc (run_length m cs)) false (after_run m cs)) else None)
at_run_start m on cs =
    ap (λ (n : ℕ). of_span (leaf_of m on (m ∷ cs) n)) (full_run m cs)
    ∙ (ap of_span (opens_if (suc (run_length m cs) == 0) on (raw_leaf m (suc (run_length m cs)) (m ∷ cs)
    (up_to (after_run m cs) (run_of m (suc (run_length m cs)) false (after_run m cs)))) (ne_eqb (suc (run_length m cs)) 0 (λ e. absurd (omega (arith, e)))))
    ∙ pushed on (raw_leaf m (suc (run_length m cs)) (m ∷ cs) (up_to (after_run m cs) (run_of m (suc (run_length m cs)) false (after_run m cs)))))

four : (l : List Event) (a b e : Event) (y : List Event) → (((l ++ a ∷ []) ++ b ∷ []) ++ e ∷ []) ++ y ≡ l ++ (a ∷ b ∷ e ∷ y)
four l a b e y = simp append_assoc refl

-- over the run, the text, and the run again
rest_of : (n k : ℕ) (cs : List ℕ) → k ≤ length (drop n cs) → drop n (drop k (drop n cs))
    ≡ drop (n + length (take (length (drop n cs) - length (drop k (drop n cs))) (drop n cs)) + n) cs
rest_of n k cs few =
    let one = drop-drop n k (drop n cs) in
    let two = drop-drop (k + n) n cs in
    let left = length-drop k (drop n cs) in
    let taken = length-take (length (drop n cs) - length (drop k (drop n cs))) (drop n cs) in
    one ∙ (two ∙ ap (λ (i : ℕ). drop i cs) (omega (arith, few, left, taken)))

rest_at : (n : ℕ) (cs found : List ℕ) → IsRest (drop n cs) found → drop n found
    ≡ drop (n + length (take (length (drop n cs) - length found) (drop n cs)) + n) cs
rest_at n cs found r = subst (λ (f : List ℕ). drop n f ≡ drop (n + length (take (length (drop n cs) - length f) (drop n cs)) + n) cs) (sym r.is)
    (rest_of n r.count cs r.few)

fewer : (m k : ℕ) (cs : List ℕ) → length (m ∷ cs) < 2 ^ 64 → length (drop k cs) < 2 ^ 64
fewer m k cs few = let e = length-drop k cs in omega (arith, e, few)

module _ {T : Type 0} (texts : List ℕ → Option (List ℕ)) (is_punctuation : ℕ
    → Bool) (x : Context T) (text : Text) (given : SpanNames) (m : ℕ) (plain_code : is_eol m ≡ false) (no_feed : (m == 10) ≡ false) (no_tab : (9 == m) ≡ false)
    (no_space : (32 == m) ≡ false) (no_column : (256 == m) ≡ false) where
  -- a run of this size opens none
  abbrev pub refused : ℕ → Bool
  refused n = (m == 36) && (n == 1) && not x.options.math_text_single_dollar

  module _ (c : Config Inlines) (p q : Point) (cs : List ℕ) (few : length (m ∷ cs) < 2 ^ 64) (s : Sees text q cs) where
    -- how long the run is, and where it ends
    abbrev size : ℕ
    size = suc (run_length m cs)

    opening : Run text (λ b. b == m) q cs
    opening = run_seen text (λ b. b == m) no_tab (seen_as_itself m plain_code (no_space ∙ sym no_column)) cs s

    -- at the first byte of the run
    abbrev pub at_mark : Config Inlines
    at_mark = with_byte c p (Some (as_byte m q))

    abbrev Here_now : List Event → KeptState → Config Inlines → Type 0
    Here_now = Here texts is_punctuation x text given m size at_mark

    -- the events up to the end of the run
    abbrev entered : List Event
    entered = (c.events ++ event Enter given.whole p None ∷ []) ++ event Enter given.sequence p None ∷ []

    abbrev Opening : ℕ → Config Inlines → Type 0
    Opening j d = Here_now entered (spanning given m (min j (2 ^ 64 - 1)) 0 c.tokenize_state) d × (is_feed d.previous ≡ false)

    open_does : (j v : ℕ) (d : Config Inlines) → Opening j d → d.current ≡ Some v → (v == m) ≡ true
        → run_body (bodies texts is_punctuation x (Inline state_inline.RawTextSequenceOpen)) d
        ≡ plain (RawStates.opening_longer d) (next state_inline.RawTextSequenceOpen)
    open_does j v d h e is = RawStates.opening_goes texts is_punctuation x v d e (ap (λ (k : KeptState). v == k.marker) h.0.kept ∙ is)

    one_more : (j : ℕ) → more (min j (2 ^ 64 - 1)) ≡ min (j + 1) (2 ^ 64 - 1)
    one_more j = omega arith

    open_keeps : (j v : ℕ) (d : Config Inlines) → Opening j d → d.current ≡ Some v → (v == m) ≡ true → Opening (j + 1) (feed text (RawStates.opening_longer d))
    open_keeps j v d h e is = (
      record {
        events = h.0.events;
        kept = ap (λ (k : KeptState). record k { size = more k.size }) h.0.kept ∙ ap (λ (i : ℕ). spanning given m i 0 c.tokenize_state) (one_more j);
        map = h.0.map;
        resolvers = h.0.resolvers;
      },
      ap is_feed e ∙ (ap (λ (k : ℕ). k == 10) (eqb-true v m is) ∙ no_feed),
    )

    abbrev begun : Config Inlines
    begun = feed text (RawStates.opened given m at_mark)

    begins : Opening 1 begun
    begins = (record { events = refl; kept = refl; map = refl; resolvers = refl }, no_feed)

    opened_all : Over texts is_punctuation x text (Inline state_inline.RawTextSequenceOpen) Opening begun (1 + run_length m cs) opening.end
    opened_all =
        over texts is_punctuation x text (Inline state_inline.RawTextSequenceOpen) (λ b. b == m) RawStates.opening_longer Opening open_does open_keeps
        (λ d. refl) opening.stretch 1 begun begins
        (fed text (RawStates.opened given m at_mark) q refl)

    -- after the run
    abbrev after : Config Inlines
    after = opened_all.config

    size_of : min (1 + run_length m cs) (2 ^ 64 - 1) ≡ size
    size_of = let k = run_within m cs in omega (arith, few, k)

    after_here : Here_now entered (spanning given m size 0 c.tokenize_state) after
    after_here = subst (λ (i : ℕ). Here_now entered (spanning given m i 0 c.tokenize_state) after) size_of opened_all.held.0

    after_stop : has (λ b. b == after.tokenize_state.marker) after.current ≡ false
    after_stop = stop_sort m after.current after.tokenize_state.marker (ap (λ (k : KeptState). k.marker) after_here.kept)
        (ap (has (λ b. b == m)) opened_all.at.current ∙ stops opening.stretch)

    abbrev HasPieces : List Event → Point → Type 0
    HasPieces = Pieces text given m size opening.end

    -- the events up to what the span holds
    abbrev ready : List Event
    ready = entered ++ event Exit given.sequence (text.start opening.end) None ∷ []

    abbrev closed : Config Inlines
    closed = with_exit after.tokenize_state.token_2 after

    -- what is between the runs
    inside_reads : Outcome texts is_punctuation x text given m size at_mark closed (retry state_inline.RawTextBetween) ready HasPieces
        (run_of m size false (after_run m cs))
    inside_reads =
        goes texts is_punctuation x text given m size at_mark no_feed plain_code no_tab no_space no_column (omega arith) (length (after_run m cs))
        (after_run m cs)
        (omega arith) (fewer m (run_length m cs) cs few) closed opening.end ready 0
        (exits texts is_punctuation x text given m size at_mark after.tokenize_state.token_2 given.sequence
        (ap (λ (k : KeptState). k.token_2) after_here.kept) after_here opened_all.held.1 opened_all.at)
        (still_at refl refl refl opened_all.at) opening.sees

    abbrev Verdict_by : Option Found → Type 0
    Verdict_by = SpanVerdict text (Reads texts is_punctuation x text at_mark (retry state_inline.RawTextStart)) given m at_mark p q (m ∷ cs)

    abbrev From_open : Type 0
    From_open = (d : Config Inlines) (w : Bool) → Reads texts is_punctuation x text begun (retry state_inline.RawTextSequenceOpen) d w
        → Reads texts is_punctuation x text at_mark (retry state_inline.RawTextStart) d w

    abbrev From_inside : Type 0
    From_inside = (d : Config Inlines) (w : Bool) → Reads texts is_punctuation x text closed (retry state_inline.RawTextBetween) d w
        → Reads texts is_punctuation x text at_mark (retry state_inline.RawTextStart) d w

    span_by_found : (found : List ℕ) → run_of m size false (after_run m cs) ≡ Some found → From_inside
        → GoesToRun texts is_punctuation x text given m size at_mark closed (retry state_inline.RawTextBetween) ready HasPieces found
        → Verdict_by (span_by m cs (Some found))
    span_by_found found e back f =
        let r = is_rest m size false (after_run m cs) found e in
        let whole = leaf (raw_part m (take (length (after_run m cs) - length found) (after_run m cs)) ∷ [])
        (size + length (take (length (after_run m cs) - length found) (after_run m cs)) + size) in
        subst (λ (b : Bool). Verdict_by (if b then None else Some whole)) (sym
        (no_text_by (m == 36) (take (length (after_run m cs) - length found) (after_run m cs)))) (
          f.config,
          size,
          _,
          f.end,
          back f.config true f.reads,
          record {
            further = run_length m cs;
            opened = opening.end;
            inside = f.added;
            all = omega arith;
            opening = opening.stretch;
            pieces = f.shown;
            events = refl;
          },
          record {
            events = f.here.events ∙ four c.events (event Enter given.whole p None) (event Enter given.sequence p None)
                (event Exit given.sequence (text.start opening.end) None) (f.added ++ event Exit given.whole (text.start f.end) None ∷ []);
            point =
                f.point;
            kept = f.here.kept;
            map = f.here.map;
            resolvers = f.here.resolvers;
          },
          subst (λ (ds : List ℕ). Sees text f.end ds) (rest_at size (m ∷ cs) found r) f.sees,
        )

    by_outcome : (o : Option (List ℕ)) → run_of m size false (after_run m cs) ≡ o → From_inside
        → Outcome texts is_punctuation x text given m size at_mark closed (retry state_inline.RawTextBetween) ready HasPieces o → Verdict_by (span_by m cs o)
    by_outcome None e back (d, r) = (d, back d false r)
    by_outcome (Some found) e back f = span_by_found found e back f

    module _ (switch : Bool)
        (starts : (on b : Bool) → switch ≡ on → begins_run m c ≡ b
        → run_body (bodies texts is_punctuation x (Inline state_inline.RawTextStart)) at_mark
        ≡ (if on then (if b then plain (RawStates.opened given m at_mark) (next state_inline.RawTextSequenceOpen) else plain at_mark states.Nok)
        else plain at_mark states.Nok)) where
      fails : run_body (bodies texts is_punctuation x (Inline state_inline.RawTextStart)) at_mark ≡ plain at_mark states.Nok → Verdict_by None
      fails h = (at_mark, on_retry texts is_punctuation x text (Inline state_inline.RawTextStart) at_mark at_mark false (plain at_mark states.Nok) h ends-nok)

      from_open : switch ≡ true → begins_run m c ≡ true → From_open
      from_open h k d w r = goes_to texts is_punctuation x text (Inline state_inline.RawTextStart) (Inline state_inline.RawTextSequenceOpen) at_mark
          (RawStates.opened given m at_mark) d w (starts true true h k) r

      from_after : switch ≡ true → begins_run m c ≡ true → (d : Config Inlines) (w : Bool)
          → Reads texts is_punctuation x text after (retry state_inline.RawTextSequenceOpen) d w
          → Reads texts is_punctuation x text at_mark (retry state_inline.RawTextStart) d w
      from_after h k d w r = from_open h k d w (opened_all.back d w r)

      ends_by : (v : ℕ) (b : Bool) → after.current ≡ Some v → refused size ≡ b
          → run_body (bodies texts is_punctuation x (Inline state_inline.RawTextSequenceOpen)) after
          ≡ (if b then plain after states.Nok else plain closed (retry state_inline.RawTextBetween))
      ends_by v b e h =
          RawStates.opening_ends texts is_punctuation x v after b e (sym (ap (has (λ i. i == after.tokenize_state.marker)) e) ∙ after_stop)
          (ap (λ (k : KeptState). (k.marker == 36) && (k.size == 1) && not x.options.math_text_single_dollar) after_here.kept ∙ h)

      from_inside : (v : ℕ) → switch ≡ true → begins_run m c ≡ true → after.current ≡ Some v → refused size ≡ false → From_inside
      from_inside v h k e l d w r =
          from_after h k d w (stays_to texts is_punctuation x text (Inline state_inline.RawTextSequenceOpen)
          (Inline state_inline.RawTextBetween) after closed d w (ends_by v false e l) r)

      stops_after : switch ≡ true → begins_run m c ≡ true → run_body (bodies texts is_punctuation x (Inline state_inline.RawTextSequenceOpen)) after
          ≡ plain after states.Nok → Verdict_by None
      stops_after h k e = (
        after,
        from_after h k after false (on_retry texts is_punctuation x text (Inline state_inline.RawTextSequenceOpen) after after false
            (plain after states.Nok) e ends-nok),
      )

      is_refused : switch ≡ true → begins_run m c ≡ true → (v : Option ℕ) → after.current ≡ v → refused size ≡ true → Verdict_by None
      is_refused h k None e l = stops_after h k (RawStates.opening_none texts is_punctuation x after e)
      is_refused h k (Some v) e l = stops_after h k (ends_by v true e l)

      goes_in : switch ≡ true → begins_run m c ≡ true → refused size ≡ false → (v : ℕ) → after.current ≡ Some v
          → Verdict_by (span_by m cs (run_of m size false (after_run m cs)))
      goes_in h k l v e = by_outcome (run_of m size false (after_run m cs)) refl (from_inside v h k e l) inside_reads

      by_sight : (rest : List ℕ) → after_run m cs ≡ rest → Sees text opening.end rest → switch ≡ true → begins_run m c ≡ true → refused size ≡ false
          → Verdict_by (span_by m cs (run_of m size false rest))
      by_sight [] is (nothing e) h k l = stops_after h k (RawStates.opening_none texts is_punctuation x after (end_at opened_all.at e))
      by_sight (code ∷ rest) is (byte apart e _) h k l =
          subst (λ (ds : List ℕ). Verdict_by (span_by m cs (run_of m size false ds))) is (goes_in h k l (text_byte code) (byte_at opened_all.at e))
      by_sight (code ∷ rest) is (tab some_left e _ _) h k l =
          subst (λ (ds : List ℕ). Verdict_by (span_by m cs (run_of m size false ds))) is (goes_in h k l 9 (byte_at opened_all.at e))

      by_tests : (on b r : Bool) → switch ≡ on → begins_run m c ≡ b → refused size ≡ r
          → Verdict_by (if b then (if on && not r then span_by m cs (run_of m size false (after_run m cs)) else None) else None)
      by_tests false true r h k l = fails (starts false true h k)
      by_tests false false r h k l = fails (starts false false h k)
      by_tests true false r h k l = fails (starts true false h k)
      by_tests true true true h k l = is_refused h k after.current refl l
      by_tests true true false h k l = by_sight (after_run m cs) refl opening.sees h k l

      pub span_verdict : Verdict_by (if begins_run m c then of_span (raw_at m (switch && not (refused size)) (m ∷ cs)) else None)
      span_verdict =
          subst (λ (l : Option Found). Verdict_by (if begins_run m c then l else None)) (sym (at_run_start m (switch && not (refused size)) cs))
          (by_tests switch (begins_run m c) (refused size) refl refl refl)
