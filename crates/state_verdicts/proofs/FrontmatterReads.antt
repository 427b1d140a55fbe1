-- An attempt at frontmatter goes on after its opening line where there is one, and fails elsewhere.
use Rattle.std.proofs.Common.{◌≡◌, ◌∙◌, ℕ, ◌+◌, ◌^◌, ◌<◌, ◌≤◌, min, Bool, true, false, ◌==◌, ◌&&◌, if◌then◌else◌, List, [], ◌∷◌, ◌++◌, drop}
use Rattle.std.proofs.Common.{length}
use Rattle.std.proofs.Common.{Option, Some, None, inl, inr, refl, sym, ap, subst, arith, append_assoc}
use Rattle.std.proofs.lemmas.Bool.{eqb-false, ne_eqb}
use Rattle.state_verdicts.proofs.BlockPrelude.{after_line, and_parts, as_byte, AtHand, byte, cases_Bool, Config, Context, eqb-true, event, Event, feed, has}
use Rattle.state_verdicts.proofs.BlockPrelude.{is_eol, is_feed, is_space_or_tab, is_white, KeptState, line_of, list_all, more, Name, no_limit, nothing, part}
use Rattle.state_verdicts.proofs.BlockPrelude.{past_byte, plain, Point, run, Sees, SkipsOnce, State, tab, Text, text_byte, tries, with_enter, with_exit}
use Rattle.definition_block.specs.Frontmatter.{is_metadata_fence}
use Rattle.definition_text.specs.Runs.{after_run, run as run_length}
use Rattle.engine_events.specs.declared.event.Kind.TheVariants.{Enter, Exit}
use Rattle.engine_events.specs.declared.event.Name.TheVariants as names
use Rattle.engine_programs.specs.Bodies.{Body}
use Rattle.engine_states.specs.declared.state.Block.TheVariants as state_block
use Rattle.engine_states.specs.declared.state.Inline.TheVariants as state_inline
use Rattle.engine_states.specs.declared.state.Name.TheVariants.{Block}
use Rattle.engine_states.specs.declared.state.State.TheVariants as states
use Rattle.markdown_engine.specs.Reading.{at_point}
use Rattle.state_document.specs.Blocks.{blocks_bodies}
use Rattle.state_document.specs.Readers.{Calls}
use Rattle.state_verdicts.specs.DocumentVerdicts.{GoesOn, InDocument, at_hand, line}
use Rattle.state_verdicts.specs.Frontmatter.{FrontmatterVerdict, OpeningVerdict, metadata_byte, opening_events}
use Rattle.state_verdicts.specs.Lines.{has_ending, is_filled}
use Rattle.state_verdicts.specs.WhiteSpace.{white_events}
use Rattle.state_verdicts.proofs.LineCodes.{after_more, line_more, line_none, prefix_more, prefix_none, rest_more, weight, weight_four}
use Rattle.state_verdicts.proofs.MachineTurns.{and_on, byte_at, does, does_next, end_at, fails, fed, still_at}
use Rattle.state_verdicts.proofs.Markers.{Marker, marker_of, no_feed_at}
use Rattle.state_verdicts.proofs.RunLines.{Held, Outcome, ReadsRun, over_run}
use Rattle.state_verdicts.proofs.Standing.{exits}
use Rattle.state_verdicts.proofs.WhiteLines.{WantsEnd}
use Rattle.state_verdicts.proofs.WhiteReads.{ReadsWhite, spaced}

abbrev start : Name
start = Block state_block.FrontmatterStart

abbrev sequence : Name
sequence = Block state_block.FrontmatterOpenSequence

abbrev after : Name
after = Block state_block.FrontmatterOpenAfter

abbrev content_end : Name
content_end = Block state_block.FrontmatterContentEnd

-- over the first byte
abbrev opened : {V : Type 0} → ℕ → Config V → Config V
opened m c = past_byte (with_enter names.FrontmatterSequence None (with_enter names.FrontmatterFence None (with_enter names.Frontmatter None
    (record c { tokenize_state = record c.tokenize_state { marker = m; size = 1 } }))))

-- as many as are counted are three
pub counted : (n : ℕ) → (min n no_limit == 3) ≡ (n == 3)
counted n = elim (cases_Bool (n == 3)) [
  | inl h ↦ ap (λ (i : ℕ). min i no_limit == 3) (eqb-true n 3 h) ∙ sym h
  | inr h ↦ ne_eqb (min n no_limit) 3 (λ e. eqb-false n 3 h (omega (arith, e))) ∙ sym h
]

four : (l : List Event) (a b e : Event) → ((l ++ a ∷ []) ++ b ∷ []) ++ e ∷ [] ≡ l ++ (a ∷ b ∷ e ∷ [])
four l a b e = simp append_assoc refl

six : (l : List Event) (a b e f : Event) (y : List Event) (g : Event)
    → (((((l ++ a ∷ []) ++ b ∷ []) ++ e ∷ []) ++ f ∷ []) ++ y) ++ g ∷ [] ≡ l ++ (a ∷ b ∷ e ∷ f ∷ (y ++ g ∷ []))
six l a b e f y g = simp append_assoc refl

-- ---- what the states do

module _ {T V : Type 0} (calls : Calls T V) (x : Context T) where
  pub blocks_white : ReadsWhite (blocks_bodies calls x)
  unfolding blocks_bodies
  blocks_white = record { start = refl; inside = refl; after = refl }

  start_off : (c : Config V) → x.options.constructs.frontmatter ≡ false → run (blocks_bodies calls x start) c ≡ plain c states.Nok
  unfolding blocks_bodies
  start_off c h = rw h refl

  start_hyphen : (c : Config V) → x.options.constructs.frontmatter ≡ true → c.current ≡ Some 45
      → run (blocks_bodies calls x start) c ≡ plain (opened 45 c) (states.Next sequence)
  unfolding blocks_bodies
  start_hyphen c h k = rw (h, k) refl

  start_plus : (c : Config V) → x.options.constructs.frontmatter ≡ true → c.current ≡ Some 43
      → run (blocks_bodies calls x start) c ≡ plain (opened 43 c) (states.Next sequence)
  unfolding blocks_bodies
  start_plus c h k = rw (h, k) refl

  start_none : (c : Config V) → x.options.constructs.frontmatter ≡ true → c.current ≡ None → run (blocks_bodies calls x start) c ≡ plain c states.Nok
  unfolding blocks_bodies
  start_none c h k = rw (h, k) refl

  start_other : (b : ℕ) (c : Config V) → x.options.constructs.frontmatter ≡ true → c.current ≡ Some b → (b == 45) ≡ false → (b == 43) ≡ false
      → run (blocks_bodies calls x start) c ≡ plain c states.Nok
  unfolding blocks_bodies
  start_other b c h k l m = rw (h, k, l, m) refl

  after_other : (b : ℕ) (c : Config V) → c.current ≡ Some b → (b == 10) ≡ false → run (blocks_bodies calls x after) c ≡ plain c states.Nok
  unfolding blocks_bodies
  after_other b c h k = rw (h, k) refl

  after_none : (c : Config V) → c.current ≡ None → run (blocks_bodies calls x after) c ≡ plain c states.Nok
  unfolding blocks_bodies
  after_none c h = rw h refl

  after_does : (c : Config V) → c.current ≡ Some 10
      → run (blocks_bodies calls x after) c ≡ plain (with_exit names.FrontmatterFence c) (states.Retry content_end)
  unfolding blocks_bodies
  after_does c h = rw h refl

  abbrev wants_end : WantsEnd (blocks_bodies calls x)
  wants_end = record { name = after; may_end = false; stops = after_other; stops_at_end = λ e. after_none }

  module _ (k : KeptState) (m : ℕ) where
    -- what is kept within the fence
    abbrev kept : ℕ → KeptState
    kept n = record k { marker = m; size = min n no_limit }

    longer_does : (w n b : ℕ) (c : Config V) → c.tokenize_state ≡ spaced w (kept n) → c.current ≡ Some b → (b == m) ≡ true
        → run (blocks_bodies calls x sequence) c ≡ plain (past_byte (record c { tokenize_state = spaced w (kept (n + 1)) })) (states.Next sequence)
    unfolding blocks_bodies
    longer_does w n b c e h l =
        let f : run (blocks_bodies calls x sequence) c ≡ plain (past_byte (record c {
          tokenize_state =
              record k { marker = m; size = more (min n no_limit); size_c = w };
        })) (states.Next sequence) = rw (h, e, l) refl in
        f ∙ ap (λ (i : ℕ). plain (past_byte (record c { tokenize_state = record k { marker = m; size = i; size_c = w } })) (states.Next sequence))
        (let s : more (min n no_limit) ≡ min (n + 1) no_limit = omega arith in s)

    short_does : (w n : ℕ) (c : Config V) (v : Option ℕ) → c.tokenize_state ≡ spaced w (kept n) → c.current ≡ v → has (λ b. b == m) v ≡ false
        → (n == 3) ≡ false → run (blocks_bodies calls x sequence) c ≡ plain c states.Nok
    unfolding blocks_bodies
    short_does w n c None e h l s = rw h refl
    short_does w n c (Some b) e h l s = let f = counted n ∙ s in rw (h, e, l, f) refl

    ends_does : (c : Config V) → c.current ≡ None → run (blocks_bodies calls x sequence) c ≡ plain c states.Nok
    unfolding blocks_bodies
    ends_does c h = rw h refl

    black_does : (w n b : ℕ) (c : Config V) → c.tokenize_state ≡ spaced w (kept n) → c.current ≡ Some b → (b == m) ≡ false → is_space_or_tab b ≡ false
        → (n == 3) ≡ true → run (blocks_bodies calls x sequence) c ≡ plain (with_exit names.FrontmatterSequence c) (states.Retry after)
    unfolding blocks_bodies
    black_does w n b c e h l t s = let f = counted n ∙ s in rw (h, e, l, f, t) refl

    white_does : (w n b : ℕ) (c : Config V) → c.tokenize_state ≡ spaced w (kept n) → c.current ≡ Some b → (b == m) ≡ false → is_space_or_tab b ≡ true
        → (n == 3) ≡ true → run (blocks_bodies calls x sequence) c ≡ tries (states.Next after) states.Nok
        (record (with_exit names.FrontmatterSequence c) { tokenize_state = spaced no_limit (kept n) }) (part state_inline.SpaceOrTabStart)
    unfolding blocks_bodies
    white_does w n b c e h l t s = let f = counted n ∙ s in rw (h, e, l, f, t) refl

    abbrev reads_run : k.connect ≡ false → ReadsRun (blocks_bodies calls x) wants_end m
    reads_run whole = record {
      sequence = sequence;
      name = names.FrontmatterSequence;
      kept = kept;
      long = λ n. n == 3;
      whole = λ n. whole;
      longer = longer_does;
      short = short_does;
      ends = λ w n c e h s. ends_does c h;
      black = black_does;
      white = white_does;
    }

-- ---- what the definition says

pub fence_first : (m : ℕ) (l : List ℕ) → (m == m) ≡ true → is_metadata_fence m (m ∷ l) ≡ ((1 + run_length m l == 3) && list_all is_white (after_run m l))
fence_first m l h =
    let size = prefix_more (λ b. b == m) m l h in
    ap (λ (i : ℕ). (i == 3) && list_all is_white (after_run m (m ∷ l))) (let e : run_length m (m ∷ l) ≡ 1 + run_length m l = omega (arith, size) in e)
    ∙ ap (λ (r : List ℕ). (1 + run_length m l == 3) && list_all is_white r) (rest_more (λ b. b == m) m l h)

pub no_fence : (m : ℕ) (l : List ℕ) → run_length m l ≡ 0 → is_metadata_fence m l ≡ false
no_fence m l h = ap (λ (i : ℕ). (i == 3) && list_all is_white (drop i l)) h

abbrev byte_if : Bool → ℕ → Option ℕ
byte_if is m = if is then Some m else None

of_hyphen : (l : List ℕ) → metadata_byte (45 ∷ l) ≡ byte_if (is_metadata_fence 45 (45 ∷ l)) 45
of_hyphen l = ap (λ (b : Bool). if is_metadata_fence 45 (45 ∷ l) then Some 45 else byte_if b 43) (no_fence 43 (45 ∷ l) (prefix_none (λ b. b == 43) 45 l refl))

of_plus : (l : List ℕ) → metadata_byte (43 ∷ l) ≡ byte_if (is_metadata_fence 43 (43 ∷ l)) 43
of_plus l = ap (λ (b : Bool). if b then Some 45 else byte_if (is_metadata_fence 43 (43 ∷ l)) 43)
    (no_fence 45 (43 ∷ l) (prefix_none (λ b. b == 45) 43 l refl))

of_other : (l : List ℕ) → run_length 45 l ≡ 0 → run_length 43 l ≡ 0 → metadata_byte l ≡ None
of_other l h k = ap (λ (b : Bool). if b then Some 45 else byte_if (is_metadata_fence 43 l) 43) (no_fence 45 l h) ∙ ap (λ (b : Bool). byte_if b 43)
    (no_fence 43 l k)

swapped : (a b e : Bool) (m : ℕ) → byte_if (a && (b && e)) m ≡ (if e then byte_if (a && b) m else None)
swapped true true true m = refl
swapped true true false m = refl
swapped true false true m = refl
swapped true false false m = refl
swapped false b true m = refl
swapped false b false m = refl

abbrev none_if : Bool → Option ℕ
none_if b = if b then None else None

none_both : (b : Bool) → none_if b ≡ None
none_both true = refl
none_both false = refl

-- ---- reading

module _ {T V : Type 0} (here : InDocument T V) (once : SkipsOnce here.text) (few : length (line_of here.codes) < 2 ^ 62)
    (whole : here.config.tokenize_state.connect ≡ false) where
  abbrev c0 : Config V
  c0 = at_hand here

  abbrev x : Context T
  x = here.context

  abbrev bodies : Name → Body V
  bodies = blocks_bodies here.calls here.context

  abbrev text : Text
  text = here.text

  abbrev p : Point
  p = here.place

  at_p : AtHand text c0 p
  at_p = fed text (at_point p here.config) p refl

  abbrev begins : State
  begins = states.Retry start

  stops : run (bodies start) c0 ≡ plain c0 states.Nok → OpeningVerdict here None
  stops h = (c0, fails bodies text c0 c0 begins (does bodies text start c0 c0 states.Nok h))

  -- the verdict where frontmatter is on
  abbrev On : Type 0
  On = OpeningVerdict here (if has_ending here.codes then metadata_byte (line here) else None)

  module _ (m : ℕ) (marker : Marker m) (opens : run (bodies start) c0 ≡ plain (opened m c0) (states.Next sequence)) (cs : List ℕ) (q : Point)
      (is : here.codes ≡ m ∷ cs) (inner : is_eol m ≡ false) (same : (m == m) ≡ true) (e : text.byte (text.start p) ≡ Some (as_byte m q))
      (s : Sees text q cs) where
    abbrev r : ReadsRun bodies (wants_end here.calls x) m
    r = reads_run here.calls x here.config.tokenize_state m whole

    abbrev es : List Event
    es = ((c0.events ++ event Enter names.Frontmatter (text.start p) None ∷ []) ++ event Enter names.FrontmatterFence (text.start p) None ∷ [])
        ++ event Enter names.FrontmatterSequence (text.start p) None ∷ []

    abbrev first : Config V
    first = feed text (opened m c0)

    abbrev count : ℕ
    count = run_length m (line_of cs)

    held : Held bodies (blocks_white here.calls x) text once c0 m marker (wants_end here.calls x) r 1 es first q
    held = record {
      columns = c0.tokenize_state.size_c;
      at = fed text (opened m c0) q (at_p.next (as_byte m q) e);
      here = record { events = refl; kept = refl; map = refl; resolvers = refl };
      apart = ap is_feed (byte_at at_p e) ∙ no_feed_at m marker m same;
    }

    line_is : line here ≡ m ∷ line_of cs
    line_is = ap line_of is ∙ line_more m cs inner

    room : weight (line_of cs) ≤ no_limit
    room = let l = ap length line_is in let w = weight_four (line_of cs) in omega (arith, few, l, w)

    abbrev Read : Bool → Type 0
    Read is = Outcome bodies (blocks_white here.calls x) text once c0 m marker (wants_end here.calls x) r is first 1 es cs

    goes_first : GoesOn here c0 begins first (states.Retry sequence)
    goes_first = does_next bodies text start sequence c0 (opened m c0) opens

    -- the line is a fence and has an ending
    abbrev is_it : Bool
    is_it = (1 + count == 3) && (list_all is_white (after_run m (line_of cs)) && has_ending cs)

    by_end : (is : Bool) → is_it ≡ is → Read is → OpeningVerdict here (byte_if is m)
    by_end true found o =
        let three = eqb-true (1 + count) 3 (and_parts (1 + count == 3) (list_all is_white (after_run m (line_of cs)) && has_ending cs) found).0 in
        let two : count ≡ 2 = omega (arith, three) in
        let rest : drop count cs ≡ drop 3 here.codes = ap (λ (i : ℕ). drop i cs) two ∙ ap (λ (l : List ℕ). drop 3 l) (sym is) in
        let f = exits text c0 names.FrontmatterFence o.here o.apart o.at.point in (
          with_exit names.FrontmatterFence o.config,
          o.columns,
          o.mid,
          o.end,
          and_on bodies text goes_first (and_on bodies text o.goes (does bodies text after o.config (with_exit names.FrontmatterFence o.config)
              (states.Retry content_end) (elim o.over.stands [
                | inl h ↦ after_does here.calls x o.config h
                | inr h ↦ absurd (let g : false ≡ true = h.1 in cc)
              ]))),
          record {
            events = f.events
                ∙ (six c0.events (event Enter names.Frontmatter (text.start p) None) (event Enter names.FrontmatterFence (text.start p) None)
                (event Enter names.FrontmatterSequence (text.start p) None) (event Exit names.FrontmatterSequence (text.start o.mid) None)
                (white_events (drop count cs) (text.start o.mid) (text.start o.end)) (event Exit names.FrontmatterFence (text.start o.end) None)
                ∙ ap (λ (l : List ℕ). c0.events ++ opening_events l (text.start p) (text.start o.mid) (text.start o.end)) rest);
            at = still_at refl refl refl o.at;
            kept = o.here.kept ∙ ap (λ (i : ℕ). record here.config.tokenize_state { marker = m; size = min i no_limit; size_c = o.columns }) three;
            map = o.here.map;
            resolvers = o.here.resolvers;
          },
          subst (λ (l : List ℕ). Sees text o.mid l) rest o.middle,
          o.over.ends,
          subst (λ (l : List ℕ). Sees text o.end l) (sym (ap after_line is ∙ after_more m cs inner)) o.over.sees,
        )
    by_end false found (d, g, left) = (d, fails bodies text c0 d begins (and_on bodies text goes_first g))

    begun : OpeningVerdict here (if has_ending here.codes then byte_if (is_metadata_fence m (line here)) m else None)
    begun =
        subst (λ (o : Option ℕ). OpeningVerdict here o) (swapped (1 + count == 3) (list_all is_white (after_run m (line_of cs))) (has_ending cs) m
        ∙ (ap (λ (l : List ℕ). if is_filled l then byte_if ((1 + count == 3) && list_all is_white (after_run m (line_of cs))) m else None)
        (sym (ap after_line is ∙ after_more m cs inner))
        ∙ ap (λ (b : Bool). if has_ending here.codes then byte_if b m else None) (sym (ap (is_metadata_fence m) line_is ∙ fence_first m (line_of cs) same))))
        (by_end is_it refl
        (over_run bodies (blocks_white here.calls x) text once c0 m marker (wants_end here.calls x) r cs s 1 es first held room))

  module _ (on : x.options.constructs.frontmatter ≡ true) where
    none_by : (l : List ℕ) → line here ≡ l → run_length 45 l ≡ 0 → run_length 43 l ≡ 0 → OpeningVerdict here None → On
    none_by l e h k v =
        subst (λ (o : Option ℕ). OpeningVerdict here o) (sym (ap (λ (o : Option ℕ). if has_ending here.codes then o else None)
        (ap metadata_byte e ∙ of_other l h k) ∙ none_both (has_ending here.codes))) v

    elsewhere : (code : ℕ) (cs : List ℕ) (q : Point) (b : ℕ) → here.codes ≡ code ∷ cs → text.byte (text.start p) ≡ Some (as_byte b q)
        → (b == 45) ≡ false → (b == 43) ≡ false → (code == 45) ≡ false → (code == 43) ≡ false → On
    elsewhere code cs q b is e h k other apart =
        let v = stops (start_other here.calls x b c0 on (byte_at at_p e) h k) in
        elim (cases_Bool (is_eol code)) [
          | inl eol ↦ none_by [] (ap line_of is ∙ line_none code cs eol) refl refl v
          | inr inner ↦ none_by (code ∷ line_of cs) (ap line_of is ∙ line_more code cs inner) (prefix_none (λ i. i == 45) code (line_of cs) other)
              (prefix_none (λ i. i == 43) code (line_of cs) apart) v
        ]

    hyphen_marker : Marker 45
    hyphen_marker = marker_of 45 refl refl refl refl refl refl

    plus_marker : Marker 43
    plus_marker = marker_of 43 refl refl refl refl refl refl

    at_hyphen : (cs : List ℕ) (q : Point) → here.codes ≡ 45 ∷ cs → text.byte (text.start p) ≡ Some (as_byte 45 q) → Sees text q cs → On
    at_hyphen cs q is e s =
        subst (λ (o : Option ℕ). OpeningVerdict here (if has_ending here.codes then o else None))
        (sym (ap metadata_byte (ap line_of is ∙ line_more 45 cs refl) ∙ (of_hyphen (line_of cs)
        ∙ ap (λ (l : List ℕ). byte_if (is_metadata_fence 45 l) 45) (sym (ap line_of is ∙ line_more 45 cs refl)))))
        (begun 45 hyphen_marker (start_hyphen here.calls x c0 on (byte_at at_p e)) cs q is refl refl e s)

    at_plus : (cs : List ℕ) (q : Point) → here.codes ≡ 43 ∷ cs → text.byte (text.start p) ≡ Some (as_byte 43 q) → Sees text q cs → On
    at_plus cs q is e s =
        subst (λ (o : Option ℕ). OpeningVerdict here (if has_ending here.codes then o else None))
        (sym (ap metadata_byte (ap line_of is ∙ line_more 43 cs refl) ∙ (of_plus (line_of cs)
        ∙ ap (λ (l : List ℕ). byte_if (is_metadata_fence 43 l) 43) (sym (ap line_of is ∙ line_more 43 cs refl)))))
        (begun 43 plus_marker (start_plus here.calls x c0 on (byte_at at_p e)) cs q is refl refl e s)

    by_codes : (codes : List ℕ) → here.codes ≡ codes → Sees text p codes → On
    by_codes [] is (nothing e) = none_by [] (ap line_of is) refl refl (stops (start_none here.calls x c0 on (end_at at_p e)))
    by_codes (code ∷ cs) is (byte {q = q} apart e s) = elim (cases_Bool (code == 45)) [
      | inl k ↦
          let code_is = eqb-true code 45 k in
          at_hyphen cs q (is ∙ ap (λ (c : ℕ). c ∷ cs) code_is) (e ∙ ap (λ (c : ℕ). Some (as_byte (text_byte c) q)) code_is) s
      | inr k ↦ elim (cases_Bool (code == 43)) [
        | inl l ↦
            let code_is = eqb-true code 43 l in
            at_plus cs q (is ∙ ap (λ (c : ℕ). c ∷ cs) code_is) (e ∙ ap (λ (c : ℕ). Some (as_byte (text_byte c) q)) code_is) s
        | inr l ↦ elsewhere code cs q (text_byte code) is e (hyphen_marker.itself code ∙ k) (plus_marker.itself code ∙ l) k l
      ]
    ]
    by_codes (code ∷ cs) is (tab {q = q} most e f s) = elsewhere 9 cs q 9 is e refl refl refl refl

  by_switch : (on : Bool) → x.options.constructs.frontmatter ≡ on → Sees text p here.codes
      → OpeningVerdict here (if on && has_ending here.codes then metadata_byte (line here) else None)
  by_switch true h s = by_codes h here.codes refl s
  by_switch false h s = stops (start_off here.calls x c0 h)

pub frontmatter_verdict : (T V : Type 0) → FrontmatterVerdict T V
frontmatter_verdict T V here s once few whole = by_switch here once few whole here.context.options.constructs.frontmatter refl s
