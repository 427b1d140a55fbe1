-- An attempt at an ATX heading goes on after its opening sequence where the line is a heading, and fails elsewhere.
use Rattle.std.proofs.Common.{◌≡◌, ◌∙◌, ℕ, suc, ◌+◌, ◌<◌, ◌≤◌, Bool, true, false, ◌==◌, ◌&&◌, ◌||◌, leb, nat_lt, if◌then◌else◌, List, [], ◌∷◌, ◌++◌, drop}
use Rattle.std.proofs.Common.{Option, Some, None, inl, inr, refl, sym, ap, subst, arith, append_assoc}
use Rattle.state_verdicts.proofs.BlockPrelude.{and_left, as_byte, AtHand, byte, cases_Bool, cases_lt, Config, Context, eqb-true, event, Event, feed, Flows}
use Rattle.state_verdicts.proofs.BlockPrelude.{GoesOn}
use Rattle.state_verdicts.proofs.BlockPrelude.{InLine, is_eol, is_feed, is_white, KeptState, le-leb, le-ltb, line_of, lt-leb, lt-ltb, more, Name, next}
use Rattle.state_verdicts.proofs.BlockPrelude.{nothing, past_byte, plain, Point, retry, run, Sees, State, tab, Text, text_byte, with_enter, with_exit}
use Rattle.definition_block.specs.HeadingAtx.{Atx, atx, atx_of, begins_apart, without_closing}
use Rattle.definition_text.specs.Columns.{trim}
use Rattle.definition_text.specs.Runs.{after_run, run as run_length}
use Rattle.engine_events.specs.declared.event.Kind.TheVariants.{Enter, Exit}
use Rattle.engine_events.specs.declared.event.Name.TheVariants as names
use Rattle.engine_states.specs.declared.state.Block.TheVariants as state_block
use Rattle.engine_states.specs.declared.state.Name.TheVariants.{Block}
use Rattle.engine_states.specs.declared.state.State.TheVariants as states
use Rattle.markdown_engine.specs.Reading.{at_point}
use Rattle.state_table.specs.BlockWords.{is_white as is_white_byte}
use Rattle.state_flow.specs.Flows.{flows_bodies}
use Rattle.state_verdicts.specs.HeadingAtx.{HeadingAtxVerdict, OpeningVerdict}
use Rattle.state_verdicts.specs.BlockVerdicts.{at_hand, line}
use Rattle.state_verdicts.proofs.LineCodes.{line_more, line_none, prefix_more, prefix_none, rest_more, rest_none}
use Rattle.state_verdicts.proofs.Seen.{seen_feed, seen_sort, seen_white}
use Rattle.state_verdicts.proofs.BlockTurns.{and_on, byte_at, does, does_next, end_at, fails, fed, still_at}
use Rattle.state_verdicts.proofs.Standing.{Here, exits}

abbrev start : Name
start = Block state_block.HeadingAtxStart

abbrev before : Name
before = Block state_block.HeadingAtxBefore

abbrev sequence : Name
sequence = Block state_block.HeadingAtxSequenceOpen

-- over the first `#`
abbrev opened : Config Flows → Config Flows
opened c =
    past_byte (record (with_enter names.HeadingAtxSequence None c) { tokenize_state = record c.tokenize_state { size = 1 } })

-- over a further one
abbrev longer : Config Flows → Config Flows
longer c = past_byte (record c { tokenize_state = record c.tokenize_state { size = more c.tokenize_state.size } })

abbrev closed : Config Flows → Config Flows
closed c = with_exit names.HeadingAtxSequence c

-- ---- what the states do

module _ {T : Type 0} (x : Context T) where
  start_does : (c : Config Flows) (on : Bool) → x.options.constructs.heading_atx ≡ on
      → run (flows_bodies x start) c
      ≡ (if on then plain (with_enter names.HeadingAtx None c) (retry state_block.HeadingAtxBefore) else plain c states.Nok)
  unfolding flows_bodies
  start_does c on h = rw h refl

  before_none : (c : Config Flows) → c.current ≡ None → run (flows_bodies x before) c ≡ plain c states.Nok
  unfolding flows_bodies
  before_none c h = rw h refl

  before_does : (b : ℕ) (c : Config Flows) (is : Bool) → c.current ≡ Some b → (b == 35) ≡ is
      → run (flows_bodies x before) c ≡ (if is then plain (opened c) (next state_block.HeadingAtxSequenceOpen) else plain c states.Nok)
  unfolding flows_bodies
  before_does b c is h k = rw (h, k) refl

  sequence_none : (c : Config Flows) → c.current ≡ None → run (flows_bodies x sequence) c ≡ plain (closed c) (retry state_block.HeadingAtxAtBreak)
  unfolding flows_bodies
  sequence_none c h = rw h refl

  sequence_longer : (b : ℕ) (c : Config Flows) (few : Bool) → c.current ≡ Some b → (b == 35) ≡ true → nat_lt c.tokenize_state.size 6 ≡ few
      → run (flows_bodies x sequence) c ≡ (if few then plain (longer c) (next state_block.HeadingAtxSequenceOpen) else plain c states.Nok)
  unfolding flows_bodies
  sequence_longer b c few h k l = rw (h, k, l) refl

  sequence_ends : (b : ℕ) (c : Config Flows) (white : Bool) → c.current ≡ Some b → (b == 35) ≡ false → is_white_byte b ≡ white
      → run (flows_bodies x sequence) c ≡ (if white then plain (closed c) (retry state_block.HeadingAtxAtBreak) else plain c states.Nok)
  unfolding flows_bodies
  sequence_ends b c white h k l = rw (h, k, l) refl

-- ---- what the definition says

itself : (c : ℕ) → (text_byte c == 35) ≡ (c == 35)
itself = seen_sort (λ b. b == 35) refl refl refl refl

-- so many `#` were read, and with those of the line a heading begins
abbrev opens : ℕ → List ℕ → Bool
opens n l = leb (n + run_length 35 l) 6 && begins_apart (after_run 35 l)

opens_longer : (n c : ℕ) (l : List ℕ) → (c == 35) ≡ true → opens n (c ∷ l) ≡ opens (n + 1) l
opens_longer n c l h =
    ap (λ (i : ℕ). leb (n + i) 6 && begins_apart (after_run 35 (c ∷ l))) (prefix_more (λ b. b == 35) c l h)
    ∙ (ap (λ (i : ℕ). leb i 6 && begins_apart (after_run 35 (c ∷ l))) (let e : n + suc (run_length 35 l) ≡ n + 1 + run_length 35 l = omega arith in e)
    ∙ ap (λ (r : List ℕ). leb (n + 1 + run_length 35 l) 6 && begins_apart r) (rest_more (λ b. b == 35) c l h))

opens_none : (n : ℕ) → n ≤ 6 → opens n [] ≡ true
opens_none n few = ap (λ (b : Bool). b && true) (le-leb (n + 0) 6 (omega (arith, few)))

opens_ends : (n c : ℕ) (l : List ℕ) → n ≤ 6 → (c == 35) ≡ false → opens n (c ∷ l) ≡ is_white c
opens_ends n c l few h =
    ap (λ (i : ℕ). leb (n + i) 6 && begins_apart (after_run 35 (c ∷ l))) (prefix_none (λ b. b == 35) c l h)
    ∙ (ap (λ (b : Bool). b && begins_apart (after_run 35 (c ∷ l))) (le-leb (n + 0) 6 (omega (arith, few)))
    ∙ ap begins_apart (rest_none (λ b. b == 35) c l h))

opens_many : (n : ℕ) (l : List ℕ) → 6 < n → opens n l ≡ false
opens_many n l many = and_left (leb (n + run_length 35 l) 6) (begins_apart (after_run 35 l)) (lt-leb (n + run_length 35 l) 6 (omega (arith, many)))

-- ---- reading

module _ {T : Type 0} (x : Context T) (text : Text) (c0 : Config Flows) where
  -- at a place after so many `#`
  record Held (n : ℕ) (es : List Event) (c : Config Flows) (p : Point) : Type 0 where
    pub at : AtHand text c p
    pub here : Here text c0 es (record c0.tokenize_state { size = n }) c
    pub apart : is_feed c.previous ≡ false

  -- the opening sequence is behind
  record Well (c : Config Flows) (n : ℕ) (es : List Event) (codes : List ℕ) : Type 0 where
    pub config : Config Flows
    pub end : Point
    pub goes : GoesOn x text c (states.Retry sequence) config (retry state_block.HeadingAtxAtBreak)
    pub at : AtHand text config end
    pub here : Here text c0 (es ++ event Exit names.HeadingAtxSequence (text.start end) None ∷ [])
        (record c0.tokenize_state { size = n + run_length 35 (line_of codes) }) config
    pub apart : is_feed config.previous ≡ false
    pub sees : Sees text end (drop (run_length 35 (line_of codes)) codes)

  abbrev Outcome : Bool → Config Flows → ℕ → List Event → List ℕ → Type 0
  Outcome true c n es codes = Well c n es codes
  Outcome false c n es codes = (d : Config Flows) × GoesOn x text c (states.Retry sequence) d states.Nok

  size_is : {n : ℕ} {es : List Event} {c : Config Flows} {p : Point} → Held n es c p → c.tokenize_state.size ≡ n
  size_is h = ap (λ (k : KeptState). k.size) h.here.kept

  -- where the sequence ends
  ends : (n : ℕ) (es : List Event) (c : Config Flows) (p : Point) (codes : List ℕ) → Held n es c p → Sees text p codes
      → run_length 35 (line_of codes) ≡ 0 → run (flows_bodies x sequence) c ≡ plain (closed c) (retry state_block.HeadingAtxAtBreak) → Well c n es codes
  ends n es c p codes h s none e =
      let f = exits text c0 names.HeadingAtxSequence h.here h.apart h.at.point in record {
        config = closed c;
        end = p;
        goes = does x text sequence c (closed c) (retry state_block.HeadingAtxAtBreak) e;
        at = still_at refl refl refl h.at;
        here = record {
          events = f.events;
          kept = f.kept ∙ ap (λ (i : ℕ). record c0.tokenize_state { size = i })
              (let k : n ≡ n + run_length 35 (line_of codes) = omega (arith, none) in k);
          map = f.map;
          resolvers = f.resolvers;
        };
        apart = h.apart;
        sees = subst (λ (i : ℕ). Sees text p (drop i codes)) (sym none) s;
      }

  -- at a further `#`
  goes_longer : (is : Bool) (n b : ℕ) (es : List Event) (c : Config Flows) (code : ℕ) (cs : List ℕ) → (code == 35) ≡ true → is_eol code ≡ false
      → GoesOn x text c (states.Retry sequence) (feed text (longer c)) (states.Retry sequence) → Outcome is (feed text (longer c)) (n + 1) es cs
      → Outcome is c n es (code ∷ cs)
  goes_longer true n b es c code cs h inner g o =
      let size : run_length 35 (line_of (code ∷ cs)) ≡ suc (run_length 35 (line_of cs)) =
      ap (run_length 35) (line_more code cs inner) ∙ prefix_more (λ b. b == 35) code (line_of cs) h in record {
        config = o.config;
        end = o.end;
        goes = and_on x text g o.goes;
        at = o.at;
        here = record {
          events = o.here.events;
          kept = o.here.kept ∙ ap (λ (i : ℕ). record c0.tokenize_state { size = i })
              (let k : n + 1 + run_length 35 (line_of cs) ≡ n + run_length 35 (line_of (code ∷ cs)) = omega (arith, size) in k);
          map = o.here.map;
          resolvers = o.here.resolvers;
        };
        apart = o.apart;
        sees = subst (λ (i : ℕ). Sees text o.end (drop i (code ∷ cs))) (sym size) o.sees;
      }
  goes_longer false n b es c code cs h inner g (d, o) = (d, and_on x text g o)

  longer_is : (n b : ℕ) (es : List Event) (c : Config Flows) (p q : Point) → n < 6 → Held n es c p → text.byte (text.start p) ≡ Some (as_byte b q)
      → (b == 35) ≡ true → Held (n + 1) es (feed text (longer c)) q
  longer_is n b es c p q few h e is = record {
    at = fed text (longer c) q (h.at.next (as_byte b q) e);
    here = record {
      events = h.here.events;
      kept = ap (λ (k : KeptState). record k { size = more k.size }) h.here.kept
          ∙ ap (λ (i : ℕ). record c0.tokenize_state { size = i }) (let k : more n ≡ n + 1 = omega (arith, few) in k);
      map = h.here.map;
      resolvers = h.here.resolvers;
    };
    apart = ap is_feed (byte_at h.at e) ∙ ap (λ (i : ℕ). i == 10) (eqb-true b 35 is);
  }

  -- at a byte that ends it, or fails
  at_other : (n : ℕ) (es : List Event) (c : Config Flows) (p q : Point) (code : ℕ) (cs : List ℕ) (b : ℕ) → Held n es c p → n ≤ 6 → Sees text p (code ∷ cs)
      → text.byte (text.start p) ≡ Some (as_byte b q) → (b == 35) ≡ false → (code == 35) ≡ false → is_white_byte b ≡ (is_white code || is_eol code)
      → Outcome (opens n (line_of (code ∷ cs))) c n es (code ∷ cs)
  at_other n es c p q code cs b h few s e apart other white = elim (cases_Bool (is_eol code)) [
    | inl eol ↦
        let l = line_none code cs eol in
        subst (λ (is : Bool). Outcome is c n es (code ∷ cs)) (sym (ap (opens n) l ∙ opens_none n few))
        (ends n es c p (code ∷ cs) h s (ap (run_length 35) l)
        (sequence_ends x b c true (byte_at h.at e) apart (white ∙ (ap (λ (i : Bool). is_white code || i) eol ∙ or_true (is_white code)))))
    | inr inner ↦
        let l = line_more code cs inner in
        subst (λ (is : Bool). Outcome is c n es (code ∷ cs)) (sym (ap (opens n) l ∙ opens_ends n code (line_of cs) few other))
        (by_white (is_white code) (sequence_ends x b c (is_white code) (byte_at h.at e) apart (white ∙ (ap (λ (i : Bool). is_white code || i) inner
        ∙ or_false (is_white code)))) (ap (run_length 35) l ∙ prefix_none (λ i. i == 35) code (line_of cs) other))
  ]
    where
      or_true : (i : Bool) → (i || true) ≡ true
      or_true true = refl
      or_true false = refl

      or_false : (i : Bool) → (i || false) ≡ i
      or_false true = refl
      or_false false = refl

      by_white : (w : Bool) → run (flows_bodies x sequence) c ≡ (if w then plain (closed c) (retry state_block.HeadingAtxAtBreak) else plain c states.Nok)
          → run_length 35 (line_of (code ∷ cs)) ≡ 0 → Outcome w c n es (code ∷ cs)
      by_white true k none = ends n es c p (code ∷ cs) h s none k
      by_white false k none = (c, does x text sequence c c states.Nok k)

  -- in the opening sequence
  reads : (codes : List ℕ) {p : Point} → Sees text p codes → (n : ℕ) (es : List Event) (c : Config Flows) → Held n es c p → n ≤ 6
      → Outcome (opens n (line_of codes)) c n es codes
  reads [] {p} (nothing e) n es c h few =
      subst (λ (is : Bool). Outcome is c n es []) (sym (opens_none n few)) (ends n es c p [] h (nothing e) refl (sequence_none x c (end_at h.at e)))
  reads (code ∷ cs) {p} (byte {q = q} apart e s) n es c h few = elim (cases_Bool (code == 35)) [
    | inl is ↦
        let inner : is_eol code ≡ false = ap is_eol (eqb-true code 35 is) in
        let seen : (text_byte code == 35) ≡ true = itself code ∙ is in
        let l = line_more code cs inner in
        subst (λ (f : Bool). Outcome f c n es (code ∷ cs)) (sym (ap (opens n) l ∙ opens_longer n code (line_of cs) is)) (elim (cases_lt n 6) [
          | inl less ↦
              goes_longer (opens (n + 1) (line_of cs)) n (text_byte code) es c code cs is inner
              (does_next x text sequence sequence c (longer c) (sequence_longer x (text_byte code) c true (byte_at h.at e) seen
              (ap (λ (i : ℕ). nat_lt i 6) (size_is h) ∙ lt-ltb n 6 less)))
              (reads cs s (n + 1) es (feed text (longer c)) (longer_is n (text_byte code) es c p q less h e seen) (omega (arith, less)))
          | inr many ↦
              subst (λ (f : Bool). Outcome f c n es (code ∷ cs)) (sym (opens_many (n + 1) (line_of cs) (omega (arith, many)))) (
                c,
                does x text sequence c c states.Nok (sequence_longer x (text_byte code) c false (byte_at h.at e) seen
                    (ap (λ (i : ℕ). nat_lt i 6) (size_is h) ∙ le-ltb n 6 many)),
              )
        ])
    | inr other ↦ at_other n es c p q code cs (text_byte code) h few (byte apart e s) e (itself code ∙ other) other
        (ap (λ (i : Bool). i || (text_byte code == 10)) (seen_white code) ∙ ap (λ (i : Bool). is_white code || i) (seen_feed code))
  ]
  reads (code ∷ cs) {p} (tab {q = q} most e f s) n es c h few = at_other n es c p q 9 cs 9 h few (tab most e f s) e refl refl refl

-- ---- from the first byte on

module _ {T : Type 0} (here : InLine T) where
  abbrev c0 : Config Flows
  c0 = at_hand here

  abbrev entered : Config Flows
  entered = with_enter names.HeadingAtx None c0

  abbrev x : Context T
  x = here.context

  abbrev text : Text
  text = here.text

  abbrev p : Point
  p = here.place

  at_p : AtHand text c0 p
  at_p = fed text (at_point p here.config) p refl

  abbrev begins : State
  begins = states.Retry start

  three : (l : List Event) (a b e : Event) → ((l ++ a ∷ []) ++ b ∷ []) ++ e ∷ [] ≡ l ++ (a ∷ b ∷ e ∷ [])
  three l a b e = simp append_assoc refl

  refused : x.options.constructs.heading_atx ≡ false → OpeningVerdict here None
  refused off = (c0, fails x text c0 c0 begins (does x text start c0 c0 states.Nok (start_does x c0 false off)))

  goes_in : x.options.constructs.heading_atx ≡ true → GoesOn x text c0 begins entered (states.Retry before)
  goes_in on = does x text start c0 entered (states.Retry before) (start_does x c0 true on)

  stops_before : x.options.constructs.heading_atx ≡ true → run (flows_bodies x before) entered ≡ plain entered states.Nok → OpeningVerdict here None
  stops_before on h = (entered, fails x text c0 entered begins (and_on x text (goes_in on) (does x text before entered entered states.Nok h)))

  abbrev started : List Event
  started = (c0.events ++ event Enter names.HeadingAtx (text.start p) None ∷ []) ++ event Enter names.HeadingAtxSequence (text.start p) None ∷ []

  by_outcome : (is : Bool) (c : Config Flows) (cs : List ℕ) (rank : ℕ) (content : List ℕ) → here.codes ≡ 35 ∷ cs → rank ≡ 1 + run_length 35 (line_of cs)
      → GoesOn x text c0 begins c (states.Retry sequence) → Outcome x text c0 is c 1 started cs
      → OpeningVerdict here (if is then Some (atx rank content) else None)
  by_outcome true c cs rank content is size g o = (
    o.config,
    o.end,
    and_on x text g o.goes,
    record {
      events =
          o.here.events
          ∙ three c0.events (event Enter names.HeadingAtx (text.start p) None) (event Enter names.HeadingAtxSequence (text.start p) None)
          (event Exit names.HeadingAtxSequence (text.start o.end) None);
      at = o.at;
      kept = o.here.kept ∙ ap (λ (i : ℕ). record here.config.tokenize_state { size = i }) (sym size);
      map = o.here.map;
      resolvers = o.here.resolvers;
    },
    o.apart,
    subst (λ (ds : List ℕ). Sees text o.end ds) (ap (λ (i : ℕ). drop i (35 ∷ cs)) (let e : suc (run_length 35 (line_of cs)) ≡ rank = omega (
      arith,
      size,
    ) in e) ∙ ap (λ (l : List ℕ). drop rank l) (sym is)) o.sees,
  )
  by_outcome false c cs rank content is size g (d, o) = (d, fails x text c0 d begins (and_on x text g o))

  -- at a `#`
  at_sign : x.options.constructs.heading_atx ≡ true → (cs : List ℕ) (q : Point) → here.codes ≡ 35 ∷ cs → text.byte (text.start p) ≡ Some (as_byte 35 q)
      → Sees text q cs → OpeningVerdict here (atx_of (line here))
  at_sign on cs q is e s =
      let l : line here ≡ 35 ∷ line_of cs = ap line_of is ∙ line_more 35 cs refl in
      let size : run_length 35 (35 ∷ line_of cs) ≡ suc (run_length 35 (line_of cs)) = prefix_more (λ b. b == 35) 35 (line_of cs) refl in
      let rest = rest_more (λ b. b == 35) 35 (line_of cs) refl in
      let content = without_closing (trim (after_run 35 (35 ∷ line_of cs))) in
      let rank = run_length 35 (35 ∷ line_of cs) in
      let tests : (leb 1 rank && leb rank 6 && begins_apart (after_run 35 (35 ∷ line_of cs))) ≡ opens 1 (line_of cs) =
      ap (λ (b : Bool). b && leb rank 6 && begins_apart (after_run 35 (35 ∷ line_of cs))) (le-leb 1 rank (omega (arith, size)))
      ∙ (ap (λ (i : ℕ). leb i 6 && begins_apart (after_run 35 (35 ∷ line_of cs))) (let k : rank ≡ 1 + run_length 35 (line_of cs) = omega (
        arith,
        size,
      ) in k)
      ∙ ap (λ (r : List ℕ). leb (1 + run_length 35 (line_of cs)) 6 && begins_apart r) rest) in
      let c = feed text (opened entered) in
      let held : Held x text c0 1 started c q = record {
        at = fed text (opened entered) q (at_p.next (as_byte 35 q) e);
        here = record { events = refl; kept = refl; map = refl; resolvers = refl };
        apart = ap is_feed (byte_at at_p e);
      } in
      subst (λ (o : Option Atx). OpeningVerdict here o) (sym (ap atx_of l ∙ ap (λ (b : Bool). if b then Some (atx rank content) else None) tests))
      (by_outcome (opens 1 (line_of cs)) c cs rank content is (omega (arith, size))
      (and_on x text (goes_in on) (does_next x text before sequence entered (opened entered) (before_does x 35 entered true (byte_at at_p e) refl)))
      (reads x text c0 cs s 1 started c held (omega arith)))

  -- elsewhere
  none_by : (l : List ℕ) → line here ≡ l → run_length 35 l ≡ 0 → OpeningVerdict here None → OpeningVerdict here (atx_of (line here))
  none_by l is none v =
      subst (λ (o : Option Atx). OpeningVerdict here o) (sym (ap atx_of is
      ∙ ap (λ (i : ℕ). if leb 1 i && leb i 6 && begins_apart (drop i l) then Some (atx i (without_closing (trim (drop i l)))) else None) none)) v

  elsewhere : x.options.constructs.heading_atx ≡ true → (code : ℕ) (cs : List ℕ) (q : Point) (b : ℕ) → here.codes ≡ code ∷ cs
      → text.byte (text.start p) ≡ Some (as_byte b q) → (b == 35) ≡ false → (code == 35) ≡ false → OpeningVerdict here (atx_of (line here))
  elsewhere on code cs q b is e apart other =
      let v = stops_before on (before_does x b entered false (byte_at at_p e) apart) in
      elim (cases_Bool (is_eol code)) [
        | inl eol ↦ none_by [] (ap line_of is ∙ line_none code cs eol) refl v
        | inr inner ↦ none_by (code ∷ line_of cs) (ap line_of is ∙ line_more code cs inner) (prefix_none (λ i. i == 35) code (line_of cs) other) v
      ]

  by_codes : x.options.constructs.heading_atx ≡ true → (codes : List ℕ) → here.codes ≡ codes → Sees text p codes → OpeningVerdict here (atx_of (line here))
  by_codes on [] is (nothing e) = none_by [] (ap line_of is) refl (stops_before on (before_none x entered (end_at at_p e)))
  by_codes on (code ∷ cs) is (byte {q = q} apart e s) = elim (cases_Bool (code == 35)) [
    | inl h ↦
        let code_is = eqb-true code 35 h in
        at_sign on cs q (is ∙ ap (λ (c : ℕ). c ∷ cs) code_is) (e ∙ ap (λ (c : ℕ). Some (as_byte (text_byte c) q)) code_is) s
    | inr h ↦ elsewhere on code cs q (text_byte code) is e (itself code ∙ h) h
  ]
  by_codes on (code ∷ cs) is (tab {q = q} most e f s) = elsewhere on 9 cs q 9 is e refl refl

  by_switch : (on : Bool) → x.options.constructs.heading_atx ≡ on → Sees text p here.codes
      → OpeningVerdict here (if on then atx_of (line here) else None)
  by_switch true h s = by_codes h here.codes refl s
  by_switch false h s = refused h

pub heading_atx_verdict : (T : Type 0) → HeadingAtxVerdict T
heading_atx_verdict T here s = by_switch here here.context.options.constructs.heading_atx refl s
