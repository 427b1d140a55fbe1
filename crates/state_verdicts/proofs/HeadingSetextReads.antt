-- An attempt at an underline reads one where the line is one and one may stand there, and nothing else.
use Rattle.std.proofs.Common.{◌≡◌, ◌∙◌, ℕ, suc, ◌^◌, ◌<◌, ◌≤◌, Bool, true, false, not, ◌==◌, ◌&&◌, ◌||◌, leb, if◌then◌else◌, List, [], ◌∷◌, ◌++◌, drop}
use Rattle.std.proofs.Common.{length}
use Rattle.std.proofs.Common.{take, Option, Some, None, inl, inr, refl, sym, ap, subst, arith, append_assoc}
use Rattle.std.proofs.Math.Seq.{take-append_seam, take-length}
use Rattle.state_verdicts.proofs.BlockPrelude.{after_line, as_byte, AtHand, byte, cases_Bool, Config, Context, eqb-true, event, Event, feed, Flows, GoesOn}
use Rattle.state_verdicts.proofs.BlockPrelude.{InLine, is_eol, is_feed, is_space_or_tab, is_white, KeptState, le-leb, line_of, list_all, Name, no_limit}
use Rattle.state_verdicts.proofs.BlockPrelude.{nothing}
use Rattle.state_verdicts.proofs.BlockPrelude.{part, past_byte, plain, Point, run, Sees, SkipsOnce, State, tab, Text, text_byte, tries, with_enter, with_exit}
use Rattle.definition_block.specs.HeadingSetext.{underline_of}
use Rattle.definition_text.specs.Runs.{after_run, is_run, run as run_length}
use Rattle.engine_events.specs.declared.event.Kind.TheVariants.{Enter, Exit}
use Rattle.engine_events.specs.declared.event.Name.TheVariants as names
use Rattle.engine_states.specs.declared.resolve.Name.{Name as Resolver}
use Rattle.engine_states.specs.declared.resolve.Name.TheVariants as resolvers
use Rattle.engine_states.specs.declared.state.Block.TheVariants as state_block
use Rattle.engine_states.specs.declared.state.Inline.TheVariants as state_inline
use Rattle.engine_states.specs.declared.state.Name.TheVariants.{Block}
use Rattle.engine_states.specs.declared.state.State.TheVariants as states
use Rattle.markdown_engine.specs.Machine.{to_run_last}
use Rattle.markdown_engine.specs.Reading.{at_point}
use Rattle.markdown_engine.specs.Resolvers.{with_last}
use Rattle.state_flow.specs.Flows.{flows_bodies}
use Rattle.state_left.specs.Before.{is_after_content}
use Rattle.state_left.specs.Left.{is_left, is_paragraph_left, paragraph_text}
use Rattle.state_verdicts.specs.HeadingSetext.{HeadingSetextVerdict, UnderlineVerdict, from_here, underline_byte, underline_events, underlining}
use Rattle.state_verdicts.specs.BlockVerdicts.{at_hand, line}
use Rattle.state_verdicts.specs.WhiteSpace.{white_events}
use Rattle.state_verdicts.proofs.BlockTurns.{and_on, byte_at, does, does_next, end_at, ends_well, fails, fed, still_at}
use Rattle.state_verdicts.proofs.LineCodes.{after_more, line_more, line_none, prefix_more, prefix_none, rest_more, weight, weight_four}
use Rattle.state_verdicts.proofs.Markers.{Marker, marker_of, no_feed_at}
use Rattle.state_verdicts.proofs.RunLines.{Held, Outcome, ReadsRun, over_run}
use Rattle.state_verdicts.proofs.Standing.{exits}
use Rattle.state_verdicts.proofs.WhiteLines.{WantsEnd, and_true}
use Rattle.state_verdicts.proofs.WhiteReads.{flows_white, spaced}

abbrev start : Name
start = Block state_block.HeadingSetextStart

abbrev before : Name
before = Block state_block.HeadingSetextBefore

abbrev inside : Name
inside = Block state_block.HeadingSetextInside

abbrev after : Name
after = Block state_block.HeadingSetextAfter

-- the underline is entered
abbrev entered : Config Flows → Config Flows
entered c = with_enter names.HeadingSetextUnderline None (from_here c)

-- over its first byte
abbrev opened : ℕ → Config Flows → Config Flows
opened m c = past_byte (with_enter names.HeadingSetextUnderlineSequence None (record c { tokenize_state = record c.tokenize_state { marker = m } }))

-- at the end of the line
abbrev finished : Config Flows → Config Flows
finished c = record (to_run_last resolvers.HeadingSetext (with_exit names.HeadingSetextUnderline c)) { interrupt = false }

four : (l : List Event) (a b e : Event) (y : List Event) → (((l ++ a ∷ []) ++ b ∷ []) ++ e ∷ []) ++ y ≡ l ++ (a ∷ b ∷ e ∷ y)
four l a b e y = simp append_assoc refl

five : (l : List Event) (a b e : Event) (y : List Event) (f : Event)
    → ((((l ++ a ∷ []) ++ b ∷ []) ++ e ∷ []) ++ y) ++ f ∷ [] ≡ l ++ (a ∷ b ∷ e ∷ (y ++ f ∷ []))
five l a b e y f = simp append_assoc refl

-- ---- what the states do

module _ {T : Type 0} (x : Context T) where
  start_off : (c : Config Flows) → x.options.constructs.heading_setext ≡ false → run (flows_bodies x start) c ≡ plain c states.Nok
  unfolding flows_bodies
  start_off c h = rw h refl

  start_lazy : (c : Config Flows) → x.options.constructs.heading_setext ≡ true → c.lazy ≡ true → run (flows_bodies x start) c ≡ plain c states.Nok
  unfolding flows_bodies
  start_lazy c h k = rw (h, k) refl

  start_does : (c : Config Flows) (is : Bool) → x.options.constructs.heading_setext ≡ true → c.lazy ≡ false → is_after_content c.events ≡ is
      → run (flows_bodies x start) c ≡ (if is then plain (entered c) (states.Retry before) else plain c states.Nok)
  unfolding flows_bodies
  start_does c is h k l = rw (h, k, l) refl

  before_none : (c : Config Flows) → c.current ≡ None → run (flows_bodies x before) c ≡ plain c states.Nok
  unfolding flows_bodies
  before_none c h = rw h refl

  before_other : (b : ℕ) (c : Config Flows) → c.current ≡ Some b → (b == 45) ≡ false → (b == 61) ≡ false → run (flows_bodies x before) c ≡ plain c states.Nok
  unfolding flows_bodies
  before_other b c h k l = rw (h, k, l) refl

  before_hyphen : (c : Config Flows) → c.current ≡ Some 45 → run (flows_bodies x before) c ≡ plain (opened 45 c) (states.Next inside)
  unfolding flows_bodies
  before_hyphen c h = rw h refl

  before_equals : (c : Config Flows) → c.current ≡ Some 61 → run (flows_bodies x before) c ≡ plain (opened 61 c) (states.Next inside)
  unfolding flows_bodies
  before_equals c h = rw h refl

  after_other : (b : ℕ) (c : Config Flows) → c.current ≡ Some b → (b == 10) ≡ false → run (flows_bodies x after) c ≡ plain c states.Nok
  unfolding flows_bodies
  after_other b c h k = rw (h, k) refl

  after_none : (c : Config Flows) (is : Bool) → c.current ≡ None → is_paragraph_left x.bytes x.options.constructs.definition c ≡ is
      → run (flows_bodies x after) c ≡ (if is then plain (finished c) states.Ok else plain c states.Nok)
  unfolding flows_bodies
  after_none c is h k = rw (h, k) refl

  after_line_does : (c : Config Flows) (is : Bool) → c.current ≡ Some 10 → is_paragraph_left x.bytes x.options.constructs.definition c ≡ is
      → run (flows_bodies x after) c ≡ (if is then plain (finished c) states.Ok else plain c states.Nok)
  unfolding flows_bodies
  after_line_does c is h k = rw (h, k) refl

  abbrev wants_end : WantsEnd (flows_bodies x)
  wants_end = record { name = after; may_end = true; stops = after_other; stops_at_end = λ e c h. absurd (let f : true ≡ false = e in cc) }

  module _ (k : KeptState) (m : ℕ) (from : ℕ) where
    -- what is kept within an underline
    abbrev kept : ℕ → KeptState
    kept n = record k { start = from; marker = m }

    inside_longer : (w b : ℕ) (c : Config Flows) → c.tokenize_state ≡ spaced w (kept 0) → c.current ≡ Some b → (b == m) ≡ true
        → run (flows_bodies x inside) c ≡ plain (past_byte (record c { tokenize_state = spaced w (kept 0) })) (states.Next inside)
    unfolding flows_bodies
    inside_longer w b c e h l = rw (h, e, l) refl

    inside_ends : (w : ℕ) (c : Config Flows) → c.tokenize_state ≡ spaced w (kept 0) → c.current ≡ None
        → run (flows_bodies x inside) c ≡ plain (with_exit names.HeadingSetextUnderlineSequence c) (states.Retry after)
    unfolding flows_bodies
    inside_ends w c e h = rw h refl

    inside_black : (w b : ℕ) (c : Config Flows) → c.tokenize_state ≡ spaced w (kept 0) → c.current ≡ Some b → (b == m) ≡ false → is_space_or_tab b ≡ false
        → run (flows_bodies x inside) c ≡ plain (with_exit names.HeadingSetextUnderlineSequence c) (states.Retry after)
    unfolding flows_bodies
    inside_black w b c e h l s = rw (h, e, l, s) refl

    inside_white : (w b : ℕ) (c : Config Flows) → c.tokenize_state ≡ spaced w (kept 0) → c.current ≡ Some b → (b == m) ≡ false → is_space_or_tab b ≡ true
        → run (flows_bodies x inside) c ≡ tries (states.Next after) states.Nok
        (record (with_exit names.HeadingSetextUnderlineSequence c) { tokenize_state = spaced no_limit (kept 0) }) (part state_inline.SpaceOrTabStart)
    unfolding flows_bodies
    inside_white w b c e h l s = rw (h, e, l, s) refl

    abbrev reads_run : k.connect ≡ false → ReadsRun (flows_bodies x) wants_end m
    reads_run whole = record {
      sequence = inside;
      name = names.HeadingSetextUnderlineSequence;
      kept = kept;
      long = λ n. true;
      whole = λ n. whole;
      longer = λ w n b c. inside_longer w b c;
      short = λ w n c v e h l s. absurd (let f : true ≡ false = s in cc);
      ends = λ w n c e h s. inside_ends w c e h;
      black = λ w n b c e h l t s. inside_black w b c e h l t;
      white = λ w n b c e h l t s. inside_white w b c e h l t;
    }

-- ---- what the definition says

equals_marker : Marker 61
equals_marker = marker_of 61 refl refl refl refl refl refl

hyphen_marker : Marker 45
hyphen_marker = marker_of 45 refl refl refl refl refl refl

run_of_first : (m : ℕ) (l : List ℕ) → (m == m) ≡ true → is_run 1 m (m ∷ l) ≡ list_all is_white (after_run m l)
run_of_first m l h =
    let size = prefix_more (λ b. b == m) m l h in
    ap (λ (b : Bool). b && list_all is_white (after_run m (m ∷ l))) (le-leb 1 (run_length m (m ∷ l)) (omega (arith, size)))
    ∙ ap (list_all is_white) (rest_more (λ b. b == m) m l h)

no_run : (m : ℕ) (l : List ℕ) → run_length m l ≡ 0 → is_run 1 m l ≡ false
no_run m l h = ap (λ (i : ℕ). leb 1 i && list_all is_white (drop i l)) h

abbrev rank_if : Bool → ℕ → Option ℕ
rank_if is rank = if is then Some rank else None

of_equals : (l : List ℕ) → underline_of (61 ∷ l) ≡ rank_if (list_all is_white (after_run 61 l)) 1
of_equals l =
    ap (λ (b : Bool). if is_run 1 61 (61 ∷ l) then Some 1 else rank_if b 2) (no_run 45 (61 ∷ l) (prefix_none (λ b. b == 45) 61 l refl))
    ∙ ap (λ (b : Bool). rank_if b 1) (run_of_first 61 l refl)

of_hyphen : (l : List ℕ) → underline_of (45 ∷ l) ≡ rank_if (list_all is_white (after_run 45 l)) 2
of_hyphen l =
    ap (λ (b : Bool). if b then Some 1 else rank_if (is_run 1 45 (45 ∷ l)) 2) (no_run 61 (45 ∷ l) (prefix_none (λ b. b == 61) 45 l refl))
    ∙ ap (λ (b : Bool). rank_if b 2) (run_of_first 45 l refl)

of_other : (l : List ℕ) → run_length 61 l ≡ 0 → run_length 45 l ≡ 0 → underline_of l ≡ None
of_other l h k = ap (λ (b : Bool). if b then Some 1 else rank_if (is_run 1 45 l) 2) (no_run 61 l h) ∙ ap (λ (b : Bool). rank_if b 2) (no_run 45 l k)

swapped : (a b : Bool) (rank : ℕ) → (if a && b then Some rank else None) ≡ (if b then rank_if a rank else None)
swapped true true rank = refl
swapped true false rank = refl
swapped false true rank = refl
swapped false false rank = refl

abbrev none_if : Bool → Option ℕ
none_if b = if b then None else None

none_both : (b : Bool) → none_if b ≡ None
none_both true = refl
none_both false = refl

-- ---- reading

module _ {T : Type 0} (here : InLine T) (once : SkipsOnce here.text) (few : length (line_of here.codes) < 2 ^ 62)
    (whole : here.config.tokenize_state.connect ≡ false) where
  abbrev c0 : Config Flows
  c0 = at_hand here

  abbrev x : Context T
  x = here.context

  abbrev text : Text
  text = here.text

  abbrev p : Point
  p = here.place

  at_p : AtHand text c0 p
  at_p = fed text (at_point p here.config) p refl

  abbrev begins : State
  begins = states.Retry start

  -- something is left of the paragraph
  abbrev is_there : Bool
  is_there = is_paragraph_left x.bytes x.options.constructs.definition (from_here c0)

  left_is : (d : Config Flows) (added : List Event) (columns m : ℕ) → d.events ≡ c0.events ++ added
      → d.tokenize_state ≡ spaced columns (record here.config.tokenize_state { start = length here.config.events; marker = m })
      → is_paragraph_left x.bytes x.options.constructs.definition d ≡ is_there
  left_is d added columns m e k =
      ap (λ (l : List Event). not x.options.constructs.definition || is_left (paragraph_text x.bytes l))
      (ap (λ (s : KeptState). drop s.space_or_tab_min (take s.start d.events)) k
      ∙ (ap (λ (l : List Event). drop here.config.tokenize_state.space_or_tab_min (take (length here.config.events) l)) e
      ∙ (ap (drop here.config.tokenize_state.space_or_tab_min) (take-append_seam here.config.events added)
      ∙ sym (ap (drop here.config.tokenize_state.space_or_tab_min) (take-length here.config.events)))))

  module _ (on : x.options.constructs.heading_setext ≡ true) (active : c0.lazy ≡ false) (content : is_after_content c0.events ≡ true) where
    goes_in : GoesOn x text c0 begins (entered c0) (states.Retry before)
    goes_in = does x text start c0 (entered c0) (states.Retry before) (start_does x c0 true on active content)

    stops_before : run (flows_bodies x before) (entered c0) ≡ plain (entered c0) states.Nok → UnderlineVerdict here None
    stops_before h = (entered c0, fails x text c0 (entered c0) begins (and_on x text goes_in (does x text before (entered c0) (entered c0) states.Nok h)))

    module _ (m : ℕ) (marker : Marker m) (rank : ℕ) (opens : run (flows_bodies x before) (entered c0) ≡ plain (opened m (entered c0)) (states.Next inside))
        (cs : List ℕ) (q : Point) (is : here.codes ≡ m ∷ cs) (inner : is_eol m ≡ false) (same : (m == m) ≡ true)
        (e : text.byte (text.start p) ≡ Some (as_byte m q)) (s : Sees text q cs) (ranked : underline_byte rank ≡ m) where
      abbrev r : ReadsRun (flows_bodies x) (wants_end x) m
      r = reads_run x here.config.tokenize_state m (length here.config.events) whole

      abbrev es : List Event
      es = (c0.events ++ event Enter names.HeadingSetextUnderline (text.start p) None ∷ [])
          ++ event Enter names.HeadingSetextUnderlineSequence (text.start p) None ∷ []

      abbrev first : Config Flows
      first = feed text (opened m (entered c0))

      held : Held (flows_bodies x) (flows_white x) text once c0 m marker (wants_end x) r 1 es first q
      held = record {
        columns = c0.tokenize_state.size_c;
        at = fed text (opened m (entered c0)) q (at_p.next (as_byte m q) e);
        here = record { events = refl; kept = refl; map = refl; resolvers = refl };
        apart = ap is_feed (byte_at at_p e) ∙ no_feed_at m marker m same;
      }

      line_is : line here ≡ m ∷ line_of cs
      line_is = ap line_of is ∙ line_more m cs inner

      room : weight (line_of cs) ≤ no_limit
      room = let l = ap length line_is in let w = weight_four (line_of cs) in omega (arith, few, l, w)

      abbrev Read : Bool → Type 0
      Read is = Outcome (flows_bodies x) (flows_white x) text once c0 m marker (wants_end x) r is first 1 es cs

      goes_first : GoesOn x text c0 begins first (states.Retry inside)
      goes_first = and_on x text goes_in (does_next x text before inside (entered c0) (opened m (entered c0)) opens)

      run_is : suc (run_length m (line_of cs)) ≡ run_length (underline_byte rank) (line here)
      run_is = sym (prefix_more (λ b. b == m) m (line_of cs) same) ∙ (ap (run_length m) (sym line_is) ∙ ap (λ (i : ℕ). run_length i (line here)) (sym ranked))

      rest_is : drop (run_length m (line_of cs)) cs ≡ drop (run_length (underline_byte rank) (line here)) here.codes
      rest_is = ap (λ (i : ℕ). drop i (m ∷ cs)) run_is ∙ ap (λ (l : List ℕ). drop (run_length (underline_byte rank) (line here)) l) (sym is)

      by_end : (is : Bool) → Read is → UnderlineVerdict here (if is && is_there then Some rank else None)
      by_end true o = by_left is_there refl
        where
          after_is : (left : Bool) → is_there ≡ left
              → run (flows_bodies x after) o.config ≡ (if left then plain (finished o.config) states.Ok else plain o.config states.Nok)
          after_is left h =
              let k = left_is o.config (event Enter names.HeadingSetextUnderline (text.start p) None
              ∷ event Enter names.HeadingSetextUnderlineSequence (text.start p) None ∷ event Exit names.HeadingSetextUnderlineSequence (text.start o.mid) None
              ∷ white_events (drop (run_length m (line_of cs)) cs) (text.start o.mid) (text.start o.end)) o.columns m
              (o.here.events ∙ four c0.events (event Enter names.HeadingSetextUnderline (text.start p) None)
              (event Enter names.HeadingSetextUnderlineSequence (text.start p) None) (event Exit names.HeadingSetextUnderlineSequence (text.start o.mid) None)
              (white_events (drop (run_length m (line_of cs)) cs) (text.start o.mid) (text.start o.end))) o.here.kept ∙ h in
              elim o.over.stands [ inl e ↦ after_line_does x o.config left e k | inr e ↦ after_none x o.config left e.0 k ]

          by_left : (left : Bool) → is_there ≡ left → UnderlineVerdict here (if left then Some rank else None)
          by_left true h = let f = exits text c0 names.HeadingSetextUnderline o.here o.apart o.at.point in (
            finished o.config,
            o.columns,
            o.mid,
            o.end,
            ends_well x text c0 (finished o.config) begins (and_on x text goes_first (and_on x text o.goes
                (does x text after o.config (finished o.config) states.Ok (after_is true h)))),
            record {
              events = f.events
                  ∙ (five c0.events (event Enter names.HeadingSetextUnderline (text.start p) None)
                  (event Enter names.HeadingSetextUnderlineSequence (text.start p) None) (event Exit names.HeadingSetextUnderlineSequence (text.start o.mid)
                  None)
                  (white_events (drop (run_length m (line_of cs)) cs) (text.start o.mid) (text.start o.end))
                  (event Exit names.HeadingSetextUnderline (text.start o.end) None)
                  ∙ ap (λ (l : List ℕ). c0.events ++ underline_events l (text.start p) (text.start o.mid) (text.start o.end)) rest_is);
              at = still_at refl refl refl o.at;
              kept = o.here.kept ∙ ap (λ (i : ℕ). underlining (length here.config.events) i o.columns here.config.tokenize_state) (sym ranked);
              map = o.here.map;
              resolvers = ap (λ (l : List Resolver). with_last resolvers.HeadingSetext l) o.here.resolvers;
            },
            refl,
            subst (λ (l : List ℕ). Sees text o.mid l) rest_is o.middle,
            o.over.ends,
            subst (λ (l : List ℕ). Sees text o.end l) (sym (ap after_line is ∙ after_more m cs inner)) o.over.sees,
          )
          by_left false h = (
            o.config,
            fails x text c0 o.config begins (and_on x text goes_first (and_on x text o.goes
                (does x text after o.config o.config states.Nok (after_is false h)))),
          )
      by_end false (d, g, left) = (d, fails x text c0 d begins (and_on x text goes_first g))

      begun : UnderlineVerdict here (if is_there then rank_if (list_all is_white (after_run m (line_of cs))) rank else None)
      begun =
          subst (λ (o : Option ℕ). UnderlineVerdict here o) (swapped (list_all is_white (after_run m (line_of cs)) && true) is_there rank
          ∙ ap (λ (b : Bool). if is_there then rank_if b rank else None) (and_true (list_all is_white (after_run m (line_of cs)))))
          (by_end (list_all is_white (after_run m (line_of cs)) && true)
          (over_run (flows_bodies x) (flows_white x) text once c0 m marker (wants_end x) r cs s 1 es first held room))

    none_by : (l : List ℕ) → line here ≡ l → run_length 61 l ≡ 0 → run_length 45 l ≡ 0 → UnderlineVerdict here None
        → UnderlineVerdict here (if is_there then underline_of (line here) else None)
    none_by l e h k v =
        subst (λ (o : Option ℕ). UnderlineVerdict here o) (sym (ap (λ (o : Option ℕ). if is_there then o else None) (ap underline_of e ∙ of_other l h k)
        ∙ none_both is_there)) v

    -- at a code that begins no underline
    elsewhere : (code : ℕ) (cs : List ℕ) (q : Point) (b : ℕ) → here.codes ≡ code ∷ cs → text.byte (text.start p) ≡ Some (as_byte b q)
        → (b == 45) ≡ false → (b == 61) ≡ false → (code == 45) ≡ false → (code == 61) ≡ false
        → UnderlineVerdict here (if is_there then underline_of (line here) else None)
    elsewhere code cs q b is e h k other apart =
        let v = stops_before (before_other x b (entered c0) (byte_at at_p e) h k) in
        elim (cases_Bool (is_eol code)) [
          | inl eol ↦ none_by [] (ap line_of is ∙ line_none code cs eol) refl refl v
          | inr inner ↦ none_by (code ∷ line_of cs) (ap line_of is ∙ line_more code cs inner) (prefix_none (λ i. i == 61) code (line_of cs) apart)
              (prefix_none (λ i. i == 45) code (line_of cs) other) v
        ]

    at_equals : (cs : List ℕ) (q : Point) → here.codes ≡ 61 ∷ cs → text.byte (text.start p) ≡ Some (as_byte 61 q) → Sees text q cs
        → UnderlineVerdict here (if is_there then underline_of (line here) else None)
    at_equals cs q is e s =
        subst (λ (o : Option ℕ). UnderlineVerdict here (if is_there then o else None))
        (sym (ap underline_of (ap line_of is ∙ line_more 61 cs refl) ∙ of_equals (line_of cs)))
        (begun 61 equals_marker 1 (before_equals x (entered c0) (byte_at at_p e)) cs q is refl refl e s refl)

    at_hyphen : (cs : List ℕ) (q : Point) → here.codes ≡ 45 ∷ cs → text.byte (text.start p) ≡ Some (as_byte 45 q) → Sees text q cs
        → UnderlineVerdict here (if is_there then underline_of (line here) else None)
    at_hyphen cs q is e s =
        subst (λ (o : Option ℕ). UnderlineVerdict here (if is_there then o else None))
        (sym (ap underline_of (ap line_of is ∙ line_more 45 cs refl) ∙ of_hyphen (line_of cs)))
        (begun 45 hyphen_marker 2 (before_hyphen x (entered c0) (byte_at at_p e)) cs q is refl refl e s refl)

    by_codes : (codes : List ℕ) → here.codes ≡ codes → Sees text p codes → UnderlineVerdict here (if is_there then underline_of (line here) else None)
    by_codes [] is (nothing e) = none_by [] (ap line_of is) refl refl (stops_before (before_none x (entered c0) (end_at at_p e)))
    by_codes (code ∷ cs) is (byte {q = q} apart e s) = elim (cases_Bool (code == 61)) [
      | inl k ↦
          let code_is = eqb-true code 61 k in
          at_equals cs q (is ∙ ap (λ (c : ℕ). c ∷ cs) code_is) (e ∙ ap (λ (c : ℕ). Some (as_byte (text_byte c) q)) code_is) s
      | inr k ↦ elim (cases_Bool (code == 45)) [
        | inl l ↦
            let code_is = eqb-true code 45 l in
            at_hyphen cs q (is ∙ ap (λ (c : ℕ). c ∷ cs) code_is) (e ∙ ap (λ (c : ℕ). Some (as_byte (text_byte c) q)) code_is) s
        | inr l ↦ elsewhere code cs q (text_byte code) is e (hyphen_marker.itself code ∙ l) (equals_marker.itself code ∙ k) l k
      ]
    ]
    by_codes (code ∷ cs) is (tab {q = q} most e f s) = elsewhere 9 cs q 9 is e refl refl refl refl

  by_switches : (on lazy content : Bool) → x.options.constructs.heading_setext ≡ on → c0.lazy ≡ lazy → is_after_content c0.events ≡ content
      → Sees text p here.codes → UnderlineVerdict here (if on && (not lazy && (content && is_there)) then underline_of (line here) else None)
  by_switches true true content h k l s = (c0, fails x text c0 c0 begins (does x text start c0 c0 states.Nok (start_lazy x c0 h k)))
  by_switches true false true h k l s = by_codes h k l here.codes refl s
  by_switches true false false h k l s = (c0, fails x text c0 c0 begins (does x text start c0 c0 states.Nok (start_does x c0 false h k l)))
  by_switches false lazy content h k l s = (c0, fails x text c0 c0 begins (does x text start c0 c0 states.Nok (start_off x c0 h)))

pub heading_setext_verdict : (T : Type 0) → HeadingSetextVerdict T
heading_setext_verdict T here s once few whole =
    by_switches here once few whole here.context.options.constructs.heading_setext (at_hand here).lazy (is_after_content (at_hand here).events) refl refl refl s
