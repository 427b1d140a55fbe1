-- An attempt at the closing line of frontmatter reads one where the line is one, and nothing else.
use Rattle.std.proofs.Common.{◌≡◌, ◌∙◌, ℕ, ◌+◌, ◌^◌, ◌<◌, ◌≤◌, min, Bool, true, false, ◌==◌, ◌&&◌, if◌then◌else◌, List, [], ◌∷◌, ◌++◌, drop, length}
use Rattle.std.proofs.Common.{Option, Some, None, inl, inr, refl, sym, ap, subst, arith, append_assoc}
use Rattle.state_verdicts.proofs.BlockPrelude.{after_line, and_parts, as_byte, AtHand, byte, cases_Bool, Config, Context, eq-eqb, eqb-true, event, Event, feed}
use Rattle.state_verdicts.proofs.BlockPrelude.{has, is_eol, is_feed, is_space_or_tab, is_white, KeptState, line_of, list_all, more, Name, no_limit, nothing}
use Rattle.state_verdicts.proofs.BlockPrelude.{or_cases, part, past_byte, plain, Point, run, Sees, SkipsOnce, State, tab, Text, text_byte, tries, with_enter}
use Rattle.state_verdicts.proofs.BlockPrelude.{with_exit}
use Rattle.definition_block.specs.Frontmatter.{is_metadata_fence}
use Rattle.definition_text.specs.Runs.{after_run, run as run_length}
use Rattle.engine_events.specs.declared.event.Kind.TheVariants.{Enter, Exit}
use Rattle.engine_events.specs.declared.event.Name.TheVariants as names
use Rattle.engine_programs.specs.Bodies.{Body}
use Rattle.engine_states.specs.declared.state.Block.TheVariants as state_block
use Rattle.engine_states.specs.declared.state.Inline.TheVariants as state_inline
use Rattle.engine_states.specs.declared.state.Name.TheVariants.{Block}
use Rattle.engine_states.specs.declared.state.State.TheVariants as states
use Rattle.markdown_engine.specs.Reading.{at_point}
use Rattle.state_document.specs.Blocks.{blocks_bodies}
use Rattle.state_document.specs.Readers.{Calls}
use Rattle.state_verdicts.specs.DocumentVerdicts.{GoesOn, InDocument, at_hand, line}
use Rattle.state_verdicts.specs.Frontmatter.{ClosingVerdict, FrontmatterClosingVerdict, closing_events, is_metadata_byte}
use Rattle.state_verdicts.specs.WhiteSpace.{white_events}
use Rattle.state_verdicts.proofs.FrontmatterReads.{blocks_white, counted, fence_first, no_fence}
use Rattle.state_verdicts.proofs.LineCodes.{after_more, line_more, line_none, prefix_none, weight, weight_four}
use Rattle.state_verdicts.proofs.MachineTurns.{and_on, byte_at, does, does_next, end_at, ends_well, fails, fed, still_at}
use Rattle.state_verdicts.proofs.Markers.{Marker, marker_of, no_feed_at, white_apart}
use Rattle.state_verdicts.proofs.RunLines.{Held, Outcome, ReadsRun, over_run}
use Rattle.state_verdicts.proofs.Standing.{exits}
use Rattle.state_verdicts.proofs.WhiteLines.{WantsEnd, and_true}
use Rattle.state_verdicts.proofs.WhiteReads.{spaced}

abbrev start : Name
start = Block state_block.FrontmatterCloseStart

abbrev sequence : Name
sequence = Block state_block.FrontmatterCloseSequence

abbrev after : Name
after = Block state_block.FrontmatterCloseAfter

-- over the first byte
abbrev opened : {V : Type 0} → Config V → Config V
opened c = past_byte (with_enter names.FrontmatterSequence None (with_enter names.FrontmatterFence None
    (record c { tokenize_state = record c.tokenize_state { size = 1 } })))

five : (l : List Event) (a b e : Event) (y : List Event) (f : Event)
    → ((((l ++ a ∷ []) ++ b ∷ []) ++ e ∷ []) ++ y) ++ f ∷ [] ≡ l ++ (a ∷ b ∷ e ∷ (y ++ f ∷ []))
five l a b e y f = simp append_assoc refl

-- ---- what the states do

module _ {T V : Type 0} (calls : Calls T V) (x : Context T) where
  start_none : (c : Config V) → c.current ≡ None → run (blocks_bodies calls x start) c ≡ plain c states.Nok
  unfolding blocks_bodies
  start_none c h = rw h refl

  start_does : (b : ℕ) (c : Config V) (is : Bool) → c.current ≡ Some b → (b == c.tokenize_state.marker) ≡ is
      → run (blocks_bodies calls x start) c ≡ (if is then plain (opened c) (states.Next sequence) else plain c states.Nok)
  unfolding blocks_bodies
  start_does b c is h k = rw (h, k) refl

  after_other : (b : ℕ) (c : Config V) → c.current ≡ Some b → (b == 10) ≡ false → run (blocks_bodies calls x after) c ≡ plain c states.Nok
  unfolding blocks_bodies
  after_other b c h k = rw (h, k) refl

  after_none : (c : Config V) → c.current ≡ None → run (blocks_bodies calls x after) c ≡ plain (with_exit names.FrontmatterFence c) states.Ok
  unfolding blocks_bodies
  after_none c h = rw h refl

  after_feed : (c : Config V) → c.current ≡ Some 10 → run (blocks_bodies calls x after) c ≡ plain (with_exit names.FrontmatterFence c) states.Ok
  unfolding blocks_bodies
  after_feed c h = rw h refl

  abbrev wants_end : WantsEnd (blocks_bodies calls x)
  wants_end = record { name = after; may_end = true; stops = after_other; stops_at_end = λ e c h. absurd (let f : true ≡ false = e in cc) }

  module _ (k : KeptState) where
    -- what is kept within the fence
    abbrev kept : ℕ → KeptState
    kept n = record k { size = min n no_limit }

    longer_does : (w n b : ℕ) (c : Config V) → c.tokenize_state ≡ spaced w (kept n) → c.current ≡ Some b → (b == k.marker) ≡ true
        → run (blocks_bodies calls x sequence) c ≡ plain (past_byte (record c { tokenize_state = spaced w (kept (n + 1)) })) (states.Next sequence)
    unfolding blocks_bodies
    longer_does w n b c e h l =
        let f : run (blocks_bodies calls x sequence) c ≡ plain (past_byte (record c {
          tokenize_state =
              record k { size = more (min n no_limit); size_c = w };
        })) (states.Next sequence) = rw (h, e, l) refl in
        f ∙ ap (λ (i : ℕ). plain (past_byte (record c { tokenize_state = record k { size = i; size_c = w } })) (states.Next sequence))
        (let s : more (min n no_limit) ≡ min (n + 1) no_limit = omega arith in s)

    short_does : (w n : ℕ) (c : Config V) (v : Option ℕ) → c.tokenize_state ≡ spaced w (kept n) → c.current ≡ v → has (λ b. b == k.marker) v ≡ false
        → (n == 3) ≡ false → run (blocks_bodies calls x sequence) c ≡ plain c states.Nok
    unfolding blocks_bodies
    short_does w n c None e h l s = let f = counted n ∙ s in rw (h, e, f) refl
    short_does w n c (Some b) e h l s = let f = counted n ∙ s in rw (h, e, l, f) refl

    ends_does : (w n : ℕ) (c : Config V) → c.tokenize_state ≡ spaced w (kept n) → c.current ≡ None → (n == 3) ≡ true
        → run (blocks_bodies calls x sequence) c ≡ plain (with_exit names.FrontmatterSequence c) (states.Retry after)
    unfolding blocks_bodies
    ends_does w n c e h s = let f = counted n ∙ s in rw (h, e, f) refl

    black_does : (w n b : ℕ) (c : Config V) → c.tokenize_state ≡ spaced w (kept n) → c.current ≡ Some b → (b == k.marker) ≡ false
        → is_space_or_tab b ≡ false → (n == 3) ≡ true
        → run (blocks_bodies calls x sequence) c ≡ plain (with_exit names.FrontmatterSequence c) (states.Retry after)
    unfolding blocks_bodies
    black_does w n b c e h l t s = let f = counted n ∙ s in rw (h, e, l, f, t) refl

    white_does : (w n b : ℕ) (c : Config V) → c.tokenize_state ≡ spaced w (kept n) → c.current ≡ Some b → (b == k.marker) ≡ false
        → is_space_or_tab b ≡ true → (n == 3) ≡ true → run (blocks_bodies calls x sequence) c ≡ tries (states.Next after) states.Nok
        (record (with_exit names.FrontmatterSequence c) { tokenize_state = spaced no_limit (kept n) }) (part state_inline.SpaceOrTabStart)
    unfolding blocks_bodies
    white_does w n b c e h l t s = let f = counted n ∙ s in rw (h, e, l, f, t) refl

    abbrev reads_run : k.connect ≡ false → ReadsRun (blocks_bodies calls x) wants_end k.marker
    reads_run whole = record {
      sequence = sequence;
      name = names.FrontmatterSequence;
      kept = kept;
      long = λ n. n == 3;
      whole = λ n. whole;
      longer = longer_does;
      short = short_does;
      ends = ends_does;
      black = black_does;
      white = white_does;
    }

-- what is known of the byte of a fence
record IsFence (m : ℕ) : Type 0 where
  pub marker : Marker m
  pub inner : is_eol m ≡ false

of_byte : (m n : ℕ) → IsFence n → (m == n) ≡ true → IsFence m
of_byte m n f h = subst (λ (i : ℕ). IsFence i) (sym (eqb-true m n h)) f

is_fence : (m : ℕ) → is_metadata_byte m ≡ true → IsFence m
is_fence m h = elim (or_cases (m == 45) (m == 43) h) [
  | inl e ↦ of_byte m 45 (record { marker = marker_of 45 refl refl refl refl refl refl; inner = refl }) e
  | inr e ↦ of_byte m 43 (record { marker = marker_of 43 refl refl refl refl refl refl; inner = refl }) e
]

-- ---- reading

module _ {T V : Type 0} (here : InDocument T V) (once : SkipsOnce here.text) (few : length (line_of here.codes) < 2 ^ 62)
    (whole : here.config.tokenize_state.connect ≡ false) (fence : IsFence here.config.tokenize_state.marker) where
  abbrev c0 : Config V
  c0 = at_hand here

  abbrev x : Context T
  x = here.context

  abbrev bodies : Name → Body V
  bodies = blocks_bodies here.calls here.context

  abbrev text : Text
  text = here.text

  abbrev p : Point
  p = here.place

  abbrev k : KeptState
  k = here.config.tokenize_state

  abbrev m : ℕ
  m = here.config.tokenize_state.marker

  at_p : AtHand text c0 p
  at_p = fed text (at_point p here.config) p refl

  abbrev begins : State
  begins = states.Retry start

  stops : run (bodies start) c0 ≡ plain c0 states.Nok → ClosingVerdict here false
  stops h = (
    c0,
    fails bodies text c0 c0 begins (does bodies text start c0 c0 states.Nok h),
    record { size = k.size; columns = k.size_c; kept = refl; map = refl; resolvers = refl },
  )

  none_by : (l : List ℕ) → line here ≡ l → run_length m l ≡ 0 → ClosingVerdict here false → ClosingVerdict here (is_metadata_fence m (line here))
  none_by l e h v = subst (λ (is : Bool). ClosingVerdict here is) (sym (ap (is_metadata_fence m) e ∙ no_fence m l h)) v

  elsewhere : (code : ℕ) (cs : List ℕ) (q : Point) (b : ℕ) → here.codes ≡ code ∷ cs → text.byte (text.start p) ≡ Some (as_byte b q)
      → (b == m) ≡ false → (code == m) ≡ false → ClosingVerdict here (is_metadata_fence m (line here))
  elsewhere code cs q b is e h other =
      let v = stops (start_does here.calls x b c0 false (byte_at at_p e) h) in
      elim (cases_Bool (is_eol code)) [
        | inl eol ↦ none_by [] (ap line_of is ∙ line_none code cs eol) refl v
        | inr inner ↦ none_by (code ∷ line_of cs) (ap line_of is ∙ line_more code cs inner) (prefix_none (λ i. i == m) code (line_of cs) other) v
      ]

  module _ (cs : List ℕ) (q : Point) (is : here.codes ≡ m ∷ cs) (e : text.byte (text.start p) ≡ Some (as_byte m q)) (s : Sees text q cs) where
    same : (m == m) ≡ true
    same = eq-eqb m m refl

    abbrev r : ReadsRun bodies (wants_end here.calls x) m
    r = reads_run here.calls x k whole

    abbrev es : List Event
    es = (c0.events ++ event Enter names.FrontmatterFence (text.start p) None ∷ []) ++ event Enter names.FrontmatterSequence (text.start p) None ∷ []

    abbrev first : Config V
    first = feed text (opened c0)

    abbrev count : ℕ
    count = run_length m (line_of cs)

    held : Held bodies (blocks_white here.calls x) text once c0 m fence.marker (wants_end here.calls x) r 1 es first q
    held = record {
      columns = c0.tokenize_state.size_c;
      at = fed text (opened c0) q (at_p.next (as_byte m q) e);
      here = record { events = refl; kept = refl; map = refl; resolvers = refl };
      apart = ap is_feed (byte_at at_p e) ∙ no_feed_at m fence.marker m same;
    }

    line_is : line here ≡ m ∷ line_of cs
    line_is = ap line_of is ∙ line_more m cs fence.inner

    room : weight (line_of cs) ≤ no_limit
    room = let l = ap length line_is in let w = weight_four (line_of cs) in omega (arith, few, l, w)

    abbrev Read : Bool → Type 0
    Read is = Outcome bodies (blocks_white here.calls x) text once c0 m fence.marker (wants_end here.calls x) r is first 1 es cs

    goes_first : GoesOn here c0 begins first (states.Retry sequence)
    goes_first = does_next bodies text start sequence c0 (opened c0) (start_does here.calls x m c0 true (byte_at at_p e) same)

    -- the line is a fence
    abbrev is_it : Bool
    is_it = (1 + count == 3) && (list_all is_white (after_run m (line_of cs)) && true)

    by_end : (is : Bool) → is_it ≡ is → Read is → ClosingVerdict here is
    by_end true found o =
        let three = eqb-true (1 + count) 3 (and_parts (1 + count == 3) (list_all is_white (after_run m (line_of cs)) && true) found).0 in
        let two : count ≡ 2 = omega (arith, three) in
        let rest : drop count cs ≡ drop 3 here.codes = ap (λ (i : ℕ). drop i cs) two ∙ ap (λ (l : List ℕ). drop 3 l) (sym is) in
        let f = exits text c0 names.FrontmatterFence o.here o.apart o.at.point in (
          with_exit names.FrontmatterFence o.config,
          o.columns,
          o.mid,
          o.end,
          ends_well bodies text c0 (with_exit names.FrontmatterFence o.config) begins (and_on bodies text goes_first (and_on bodies text o.goes
              (does bodies text after o.config (with_exit names.FrontmatterFence o.config) states.Ok (elim o.over.stands [
                | inl h ↦ after_feed here.calls x o.config h
                | inr h ↦ after_none here.calls x o.config h.0
              ])))),
          record {
            events = f.events
                ∙ (five c0.events (event Enter names.FrontmatterFence (text.start p) None) (event Enter names.FrontmatterSequence (text.start p) None)
                (event Exit names.FrontmatterSequence (text.start o.mid) None) (white_events (drop count cs) (text.start o.mid) (text.start o.end))
                (event Exit names.FrontmatterFence (text.start o.end) None)
                ∙ ap (λ (l : List ℕ). c0.events ++ closing_events l (text.start p) (text.start o.mid) (text.start o.end)) rest);
            at = still_at refl refl refl o.at;
            kept = o.here.kept ∙ ap (λ (i : ℕ). record k { size = min i no_limit; size_c = o.columns }) three;
            map = o.here.map;
            resolvers = o.here.resolvers;
          },
          o.apart,
          subst (λ (l : List ℕ). Sees text o.mid l) rest o.middle,
          o.over.ends,
          subst (λ (l : List ℕ). Sees text o.end l) (sym (ap after_line is ∙ after_more m cs fence.inner)) o.over.sees,
        )
    by_end false found (d, g, left) = (
      d,
      fails bodies text c0 d begins (and_on bodies text goes_first g),
      record { size = min left.size no_limit; columns = left.columns; kept = left.kept; map = left.map; resolvers = left.resolvers },
    )

    begun : ClosingVerdict here (is_metadata_fence m (line here))
    begun =
        subst (λ (b : Bool). ClosingVerdict here b) (ap (λ (b : Bool). (1 + count == 3) && b) (and_true (list_all is_white (after_run m (line_of cs))))
        ∙ sym (ap (is_metadata_fence m) line_is ∙ fence_first m (line_of cs) same))
        (by_end is_it refl
        (over_run bodies (blocks_white here.calls x) text once c0 m fence.marker (wants_end here.calls x) r cs s 1 es first held room))

  by_codes : (codes : List ℕ) → here.codes ≡ codes → Sees text p codes → ClosingVerdict here (is_metadata_fence m (line here))
  by_codes [] is (nothing e) = none_by [] (ap line_of is) refl (stops (start_none here.calls x c0 (end_at at_p e)))
  by_codes (code ∷ cs) is (byte {q = q} apart e s) = elim (cases_Bool (code == m)) [
    | inl h ↦
        let code_is = eqb-true code m h in
        begun cs q (is ∙ ap (λ (c : ℕ). c ∷ cs) code_is)
        (e ∙ ap (λ (b : ℕ). Some (as_byte b q)) (eqb-true (text_byte code) m (fence.marker.itself code ∙ h))) s
    | inr h ↦ elsewhere code cs q (text_byte code) is e (fence.marker.itself code ∙ h) h
  ]
  by_codes (code ∷ cs) is (tab {q = q} most e f s) =
      let apart = white_apart m fence.marker 9 refl in elsewhere 9 cs q 9 is e apart apart

pub frontmatter_closing_verdict : (T V : Type 0) → FrontmatterClosingVerdict T V
frontmatter_closing_verdict T V here s once few whole fence =
    by_codes here once few whole (is_fence here.config.tokenize_state.marker fence) here.codes refl s
