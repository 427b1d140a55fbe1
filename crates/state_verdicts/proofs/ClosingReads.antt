-- An attempt at a closing fence reads one where the line is one, and nothing else.
use Rattle.std.proofs.Common.{◌≡◌, ◌∙◌, ℕ, suc, ◌+◌, ◌^◌, ◌<◌, ◌≤◌, min, Bool, true, false, not, ◌==◌, ◌&&◌, ◌||◌, leb, nat_lt, if◌then◌else◌, List, [], ◌∷◌}
use Rattle.std.proofs.Common.{◌++◌, drop, length, Option, Some, None, inl, inr, refl, sym, ap, subst, arith, append_assoc}
use Rattle.std.proofs.lemmas.List.Sums.{prefix_len-le-length}
use Rattle.state_verdicts.proofs.BlockPrelude.{after_line, as_byte, AtHand, byte, cases_Bool, cases_lt, Config, Context, eq-eqb, eqb-true, event, Event, feed}
use Rattle.state_verdicts.proofs.BlockPrelude.{EventName, Flows, GoesOn, has, InLine, is_eol, is_feed, is_space_or_tab, is_white, KeptState, le-leb, le-ltb}
use Rattle.state_verdicts.proofs.BlockPrelude.{line_of}
use Rattle.state_verdicts.proofs.BlockPrelude.{list_all, lt-leb, lt-ltb, more, Name, no_limit, nothing, or_cases, part, past_byte, plain, Point, run, Sees}
use Rattle.state_verdicts.proofs.BlockPrelude.{SkipsOnce, State, tab, Text, text_byte, tries, with_enter, with_exit}
use Rattle.definition_text.specs.Runs.{after_run, is_run, run as run_length}
use Rattle.engine_events.specs.declared.event.Kind.TheVariants.{Enter, Exit}
use Rattle.engine_states.specs.declared.state.Block.TheVariants as state_block
use Rattle.engine_states.specs.declared.state.Inline.TheVariants as state_inline
use Rattle.engine_states.specs.declared.state.Name.TheVariants.{Block}
use Rattle.engine_states.specs.declared.state.State.TheVariants as states
use Rattle.markdown_engine.specs.Reading.{at_point}
use Rattle.state_flow.specs.Flows.{flows_bodies}
use Rattle.state_verdicts.specs.RawFlow.{ClosingFenceVerdict, ClosingVerdict, after_closing, closing_events, closing_size, counting}
use Rattle.state_verdicts.specs.RawFlow.{is_fence_byte}
use Rattle.state_verdicts.specs.BlockVerdicts.{at_hand, line}
use Rattle.state_verdicts.specs.WhiteSpace.{white_events}
use Rattle.state_verdicts.proofs.BlockTurns.{and_on, byte_at, does, does_next, end_at, ends_well, fails, fed, still_at}
use Rattle.state_verdicts.proofs.LineCodes.{after_more, line_more, line_none, prefix_more, prefix_none, rest_more, weight, weight_four}
use Rattle.state_verdicts.proofs.Markers.{Marker, flip, flop, marker_of, no_feed_at, white_apart}
use Rattle.state_verdicts.proofs.RunLines.{Held, Outcome, ReadsRun, over_run}
use Rattle.state_verdicts.proofs.Standing.{exits}
use Rattle.state_verdicts.proofs.WhiteLines.{WantsEnd, and_true}
use Rattle.state_verdicts.proofs.WhiteReads.{flows_white, spaced}

abbrev start : Name
start = Block state_block.RawFlowBeforeSequenceClose

abbrev sequence : Name
sequence = Block state_block.RawFlowSequenceClose

abbrev after : Name
after = Block state_block.RawFlowSequenceCloseAfter

-- over the first byte
abbrev opened : Config Flows → Config Flows
opened c = past_byte (record (with_enter c.tokenize_state.token_3 None c) { tokenize_state = record c.tokenize_state { size_b = 1 } })

three : (l : List Event) (a b : Event) (y : List Event) (f : Event) → (((l ++ a ∷ []) ++ b ∷ []) ++ y) ++ f ∷ [] ≡ l ++ (a ∷ b ∷ (y ++ f ∷ []))
three l a b y f = simp append_assoc refl

-- ---- what the states do

module _ {T : Type 0} (x : Context T) where
  start_none : (c : Config Flows) → c.current ≡ None → run (flows_bodies x start) c ≡ plain c states.Nok
  unfolding flows_bodies
  start_none c h = rw h refl

  start_does : (b : ℕ) (c : Config Flows) (is : Bool) → c.current ≡ Some b → (b == c.tokenize_state.marker) ≡ is
      → run (flows_bodies x start) c ≡ (if is then plain (opened c) (states.Next sequence) else plain c states.Nok)
  unfolding flows_bodies
  start_does b c is h k = rw (h, k) refl

  after_other : (b : ℕ) (c : Config Flows) → c.current ≡ Some b → (b == 10) ≡ false → run (flows_bodies x after) c ≡ plain c states.Nok
  unfolding flows_bodies
  after_other b c h k = rw (h, k) refl

  after_none : (c : Config Flows) → c.current ≡ None → run (flows_bodies x after) c ≡ plain (with_exit c.tokenize_state.token_2 c) states.Ok
  unfolding flows_bodies
  after_none c h = rw h refl

  after_feed : (c : Config Flows) → c.current ≡ Some 10 → run (flows_bodies x after) c ≡ plain (with_exit c.tokenize_state.token_2 c) states.Ok
  unfolding flows_bodies
  after_feed c h = rw h refl

  abbrev wants_end : WantsEnd (flows_bodies x)
  wants_end = record { name = after; may_end = true; stops = after_other; stops_at_end = λ e c h. absurd (let f : true ≡ false = e in cc) }

  module _ (k : KeptState) where
    -- what is kept within the fence
    abbrev kept : ℕ → KeptState
    kept n = record k { size_b = min n no_limit }

    -- so many bytes close it
    abbrev long : ℕ → Bool
    long n = not (nat_lt (min n no_limit) k.size)

    longer_does : (w n b : ℕ) (c : Config Flows) → c.tokenize_state ≡ spaced w (kept n) → c.current ≡ Some b → (b == k.marker) ≡ true
        → run (flows_bodies x sequence) c ≡ plain (past_byte (record c { tokenize_state = spaced w (kept (n + 1)) })) (states.Next sequence)
    unfolding flows_bodies
    longer_does w n b c e h l =
        let f : run (flows_bodies x sequence) c ≡ plain (past_byte (record c { tokenize_state = record k { size_b = more (min n no_limit); size_c = w } }))
        (states.Next sequence) = rw (h, e, l) refl in
        f ∙ ap (λ (i : ℕ). plain (past_byte (record c { tokenize_state = record k { size_b = i; size_c = w } })) (states.Next sequence))
        (let s : more (min n no_limit) ≡ min (n + 1) no_limit = omega arith in s)

    short_does : (w n : ℕ) (c : Config Flows) (v : Option ℕ) → c.tokenize_state ≡ spaced w (kept n) → c.current ≡ v → has (λ b. b == k.marker) v ≡ false
        → long n ≡ false → run (flows_bodies x sequence) c ≡ plain c states.Nok
    unfolding flows_bodies
    short_does w n c None e h l s = let f = flip (nat_lt (min n no_limit) k.size) s in rw (h, e, f) refl
    short_does w n c (Some b) e h l s = let f = flip (nat_lt (min n no_limit) k.size) s in rw (h, e, l, f) refl

    ends_does : (w n : ℕ) (c : Config Flows) → c.tokenize_state ≡ spaced w (kept n) → c.current ≡ None → long n ≡ true
        → run (flows_bodies x sequence) c ≡ plain (with_exit k.token_3 c) (states.Retry after)
    unfolding flows_bodies
    ends_does w n c e h s = let f = flop (nat_lt (min n no_limit) k.size) s in rw (h, e, f) refl

    black_does : (w n b : ℕ) (c : Config Flows) → c.tokenize_state ≡ spaced w (kept n) → c.current ≡ Some b → (b == k.marker) ≡ false
        → is_space_or_tab b ≡ false → long n ≡ true → run (flows_bodies x sequence) c ≡ plain (with_exit k.token_3 c) (states.Retry after)
    unfolding flows_bodies
    black_does w n b c e h l t s = let f = flop (nat_lt (min n no_limit) k.size) s in rw (h, e, l, f, t) refl

    white_does : (w n b : ℕ) (c : Config Flows) → c.tokenize_state ≡ spaced w (kept n) → c.current ≡ Some b → (b == k.marker) ≡ false
        → is_space_or_tab b ≡ true → long n ≡ true → run (flows_bodies x sequence) c ≡ tries (states.Next after) states.Nok
        (record (with_exit k.token_3 c) { tokenize_state = spaced no_limit (kept n) }) (part state_inline.SpaceOrTabStart)
    unfolding flows_bodies
    white_does w n b c e h l t s = let f = flop (nat_lt (min n no_limit) k.size) s in rw (h, e, l, f, t) refl

    abbrev reads_run : k.connect ≡ false → ReadsRun (flows_bodies x) wants_end k.marker
    reads_run whole = record {
      sequence = sequence;
      name = k.token_3;
      kept = kept;
      long = long;
      whole = λ n. whole;
      longer = longer_does;
      short = short_does;
      ends = ends_does;
      black = black_does;
      white = white_does;
    }

-- ---- what the definition says

no_less : (a b : ℕ) → not (nat_lt b a) ≡ leb a b
no_less a b = elim (cases_lt b a) [
  | inl less ↦ ap not (lt-ltb b a less) ∙ sym (lt-leb a b less)
  | inr most ↦ ap not (le-ltb b a most) ∙ sym (le-leb a b most)
]

-- what is known of the byte of a fence
pub record IsFence (m : ℕ) : Type 0 where
  pub marker : Marker m
  pub inner : is_eol m ≡ false

of_byte : (m n : ℕ) → IsFence n → (m == n) ≡ true → IsFence m
of_byte m n f h = subst (λ (i : ℕ). IsFence i) (sym (eqb-true m n h)) f

pub is_fence : (m : ℕ) → is_fence_byte m ≡ true → IsFence m
is_fence m h = elim (or_cases ((m == 96) || (m == 126)) (m == 36) h) [
  | inl l ↦ elim (or_cases (m == 96) (m == 126) l) [
    | inl e ↦ of_byte m 96 (record { marker = marker_of 96 refl refl refl refl refl refl; inner = refl }) e
    | inr e ↦ of_byte m 126 (record { marker = marker_of 126 refl refl refl refl refl refl; inner = refl }) e
  ]
  | inr e ↦ of_byte m 36 (record { marker = marker_of 36 refl refl refl refl refl refl; inner = refl }) e
]

-- ---- reading

module _ {T : Type 0} (here : InLine T) (once : SkipsOnce here.text) (few : length (line_of here.codes) < 2 ^ 62)
    (whole : here.config.tokenize_state.connect ≡ false) (fence : IsFence here.config.tokenize_state.marker) (some : 0 < here.config.tokenize_state.size) where
  abbrev c0 : Config Flows
  c0 = at_hand here

  abbrev x : Context T
  x = here.context

  abbrev text : Text
  text = here.text

  abbrev p : Point
  p = here.place

  abbrev k : KeptState
  k = here.config.tokenize_state

  abbrev m : ℕ
  m = here.config.tokenize_state.marker

  at_p : AtHand text c0 p
  at_p = fed text (at_point p here.config) p refl

  abbrev begins : State
  begins = states.Retry start

  stops : run (flows_bodies x start) c0 ≡ plain c0 states.Nok → ClosingVerdict here false
  stops h = (
    c0,
    fails x text c0 c0 begins (does x text start c0 c0 states.Nok h),
    record { size = k.size_b; columns = k.size_c; kept = refl; map = refl; resolvers = refl },
  )

  none_by : (l : List ℕ) → line here ≡ l → run_length m l ≡ 0 → ClosingVerdict here false → ClosingVerdict here (is_run k.size m (line here))
  none_by l e h v =
      subst (λ (is : Bool). ClosingVerdict here is) (sym (ap (is_run k.size m) e ∙ (ap (λ (i : ℕ). leb k.size i && list_all is_white (drop i l)) h
      ∙ ap (λ (b : Bool). b && list_all is_white l) (lt-leb k.size 0 some)))) v

  elsewhere : (code : ℕ) (cs : List ℕ) (q : Point) (b : ℕ) → here.codes ≡ code ∷ cs → text.byte (text.start p) ≡ Some (as_byte b q)
      → (b == m) ≡ false → (code == m) ≡ false → ClosingVerdict here (is_run k.size m (line here))
  elsewhere code cs q b is e h other =
      let v = stops (start_does x b c0 false (byte_at at_p e) h) in
      elim (cases_Bool (is_eol code)) [
        | inl eol ↦ none_by [] (ap line_of is ∙ line_none code cs eol) refl v
        | inr inner ↦ none_by (code ∷ line_of cs) (ap line_of is ∙ line_more code cs inner) (prefix_none (λ i. i == m) code (line_of cs) other) v
      ]

  module _ (cs : List ℕ) (q : Point) (is : here.codes ≡ m ∷ cs) (e : text.byte (text.start p) ≡ Some (as_byte m q)) (s : Sees text q cs) where
    same : (m == m) ≡ true
    same = eq-eqb m m refl

    abbrev r : ReadsRun (flows_bodies x) (wants_end x) m
    r = reads_run x k whole

    abbrev es : List Event
    es = c0.events ++ event Enter k.token_3 (text.start p) None ∷ []

    abbrev first : Config Flows
    first = feed text (opened c0)

    abbrev count : ℕ
    count = run_length m (line_of cs)

    held : Held (flows_bodies x) (flows_white x) text once c0 m fence.marker (wants_end x) r 1 es first q
    held = record {
      columns = c0.tokenize_state.size_c;
      at = fed text (opened c0) q (at_p.next (as_byte m q) e);
      here = record { events = refl; kept = refl; map = refl; resolvers = refl };
      apart = ap is_feed (byte_at at_p e) ∙ no_feed_at m fence.marker m same;
    }

    line_is : line here ≡ m ∷ line_of cs
    line_is = ap line_of is ∙ line_more m cs fence.inner

    room : weight (line_of cs) ≤ no_limit
    room = let l = ap length line_is in let w = weight_four (line_of cs) in omega (arith, few, l, w)

    abbrev Read : Bool → Type 0
    Read is = Outcome (flows_bodies x) (flows_white x) text once c0 m fence.marker (wants_end x) r is first 1 es cs

    size_is : closing_size here ≡ 1 + count
    size_is =
        let l = ap (run_length m) line_is in
        let n = prefix_more (λ b. b == m) m (line_of cs) same in omega (arith, l, n)

    few_bytes : min (1 + count) no_limit ≡ 1 + count
    few_bytes = let l = ap length line_is in let n = prefix_len-le-length (λ b. b == m) (line_of cs) in omega (arith, few, l, n)

    rest : drop count cs ≡ after_closing here
    rest =
        ap (λ (i : ℕ). drop i (m ∷ cs)) (let n = size_is in let j : suc count ≡ closing_size here = omega (arith, n) in j)
        ∙ ap (λ (l : List ℕ). drop (closing_size here) l) (sym is)

    goes_first : GoesOn x text c0 begins first (states.Retry sequence)
    goes_first = does_next x text start sequence c0 (opened c0) (start_does x m c0 true (byte_at at_p e) same)

    by_end : (is : Bool) → Read is → ClosingVerdict here is
    by_end true o =
        let name_is : o.config.tokenize_state.token_2 ≡ k.token_2 = ap (λ (s : KeptState). s.token_2) o.here.kept in
        let f = exits text c0 o.config.tokenize_state.token_2 o.here o.apart o.at.point in (
          with_exit o.config.tokenize_state.token_2 o.config,
          o.columns,
          o.mid,
          o.end,
          ends_well x text c0 (with_exit o.config.tokenize_state.token_2 o.config) begins (and_on x text goes_first (and_on x text o.goes
              (does x text after o.config (with_exit o.config.tokenize_state.token_2 o.config) states.Ok (elim o.over.stands [
                | inl h ↦ after_feed x o.config h
                | inr h ↦ after_none x o.config h.0
              ])))),
          record {
            events = f.events
                ∙ (ap (λ (n : EventName). ((es ++ event Exit k.token_3 (text.start o.mid) None ∷ []) ++ white_events (drop count cs) (text.start o.mid)
                (text.start o.end)) ++ event Exit n (text.start o.end) None ∷ []) name_is
                ∙ (three c0.events (event Enter k.token_3 (text.start p) None) (event Exit k.token_3 (text.start o.mid) None)
                (white_events (drop count cs) (text.start o.mid) (text.start o.end)) (event Exit k.token_2 (text.start o.end) None)
                ∙ ap (λ (l : List ℕ). c0.events ++ closing_events k l (text.start p) (text.start o.mid) (text.start o.end)) rest));
            at = still_at refl refl refl o.at;
            kept = o.here.kept ∙ ap (λ (i : ℕ). counting i o.columns k) (few_bytes ∙ sym size_is);
            map = o.here.map;
            resolvers = o.here.resolvers;
          },
          o.apart,
          subst (λ (l : List ℕ). Sees text o.mid l) rest o.middle,
          o.over.ends,
          subst (λ (l : List ℕ). Sees text o.end l) (sym (ap after_line is ∙ after_more m cs fence.inner)) o.over.sees,
        )
    by_end false (d, g, left) = (
      d,
      fails x text c0 d begins (and_on x text goes_first g),
      record { size = min left.size no_limit; columns = left.columns; kept = left.kept; map = left.map; resolvers = left.resolvers },
    )

    begun : ClosingVerdict here (is_run k.size m (line here))
    begun =
        subst (λ (b : Bool). ClosingVerdict here b) (ap (λ (b : Bool). long x k (1 + count) && b) (and_true (list_all is_white (after_run m (line_of cs))))
        ∙ (ap (λ (i : ℕ). not (nat_lt i k.size) && list_all is_white (after_run m (line_of cs))) few_bytes
        ∙ (ap (λ (b : Bool). b && list_all is_white (after_run m (line_of cs))) (no_less k.size (1 + count))
        ∙ (ap (λ (l : List ℕ). leb k.size (1 + count) && list_all is_white l)
        (sym (rest_more (λ b. b == m) m (line_of cs) same) ∙ ap (after_run m) (sym line_is))
        ∙ ap (λ (i : ℕ). leb k.size i && list_all is_white (after_run m (line here))) (sym size_is)))))
        (by_end (long x k (1 + count) && (list_all is_white (after_run m (line_of cs)) && true))
        (over_run (flows_bodies x) (flows_white x) text once c0 m fence.marker (wants_end x) r cs s 1 es first held room))

  by_codes : (codes : List ℕ) → here.codes ≡ codes → Sees text p codes → ClosingVerdict here (is_run k.size m (line here))
  by_codes [] is (nothing e) = none_by [] (ap line_of is) refl (stops (start_none x c0 (end_at at_p e)))
  by_codes (code ∷ cs) is (byte {q = q} apart e s) = elim (cases_Bool (code == m)) [
    | inl h ↦
        let code_is = eqb-true code m h in
        begun cs q (is ∙ ap (λ (c : ℕ). c ∷ cs) code_is)
        (e ∙ ap (λ (b : ℕ). Some (as_byte b q)) (eqb-true (text_byte code) m (fence.marker.itself code ∙ h))) s
    | inr h ↦ elsewhere code cs q (text_byte code) is e (fence.marker.itself code ∙ h) h
  ]
  by_codes (code ∷ cs) is (tab {q = q} most e f s) =
      let apart = white_apart m fence.marker 9 refl in elsewhere 9 cs q 9 is e apart apart

pub closing_fence_verdict : (T : Type 0) → ClosingFenceVerdict T
closing_fence_verdict T here s once few whole fence some =
    by_codes here once few whole (is_fence here.config.tokenize_state.marker fence) some here.codes refl s
