-- An attempt at indented code reads all of its lines where code begins, and fails elsewhere.
use Rattle.std.proofs.Common.{◌≡◌, ◌∙◌, ℕ, zero, suc, ◌+◌, ◌-◌, ◌<◌, ◌≤◌, min, ◌⊎◌, Bool, true, false, not, ◌==◌, ◌&&◌, leb, List, [], ◌∷◌, ◌++◌}
use Rattle.std.proofs.Common.{drop, length, Some, None, inl, inr, refl, sym, ap, subst, arith, append_assoc}
use Rattle.state_verdicts.proofs.BlockPrelude.{after_line, and_parts, as_byte, AtHand, byte_of, cases_Bool, Config, Context, event, Event, feed}
use Rattle.state_verdicts.proofs.BlockPrelude.{Flows, has, indent, InLine, is_eol, is_feed, is_inner, is_white, KeptState, leb-true, line_of}
use Rattle.state_verdicts.proofs.BlockPrelude.{LineEnds, lt-ltb, Name, part, plain, Point, run, SkipsOnce, State, Text, text_byte, tries, with_exit}
use Rattle.definition_block.specs.CodeIndented.{starts_code_indented}
use Rattle.definition_block.specs.Tree.{BlockLine, Indented, beside_line, rest_line}
use Rattle.definition_text.specs.Columns.{is_blank}
use Rattle.definition_text.specs.Indents.{outdent}
use Rattle.definition_text.specs.Lines.{text_line}
use Rattle.engine_events.specs.declared.event.Kind.TheVariants.{Enter, Exit}
use Rattle.engine_events.specs.declared.event.Name.TheVariants as names
use Rattle.engine_programs.specs.Bodies.{Body}
use Rattle.engine_states.specs.declared.state.Inline.TheVariants as state_inline
use Rattle.engine_states.specs.declared.state.State.TheVariants as states
use Rattle.markdown_engine.specs.Reading.{hand_on}
use Rattle.markdown_options.specs.declared.beside.Kind.TheVariants.{Whitespace}
use Rattle.markdown_options.specs.declared.configuration.Constructs.{Constructs}
use Rattle.state_flow.specs.Flows.{flows_bodies}
use Rattle.state_verdicts.specs.BlockVerdicts.{at_hand, line}
use Rattle.state_verdicts.specs.CodeIndented.{CodeIndentedWholeVerdict, CodeLines, CodeVerdict, IndentVerdict, chunk_if, code_block, line_events, over}
use Rattle.state_verdicts.specs.CodeIndented.{further, own_code, with_lines}
use Rattle.state_verdicts.specs.Columns.{SeesColumns, along, ended}
use Rattle.state_verdicts.specs.Lines.{code_lines, is_filled}
use Rattle.state_verdicts.specs.Machines.{GoesOnBy, ReadsBy}
use Rattle.state_verdicts.specs.WhiteSpace.{ending_events, white_events, white_if}
use Rattle.state_verdicts.proofs.CodeIndentedLines.{Found, Held, Missing, Outcome, Outdented, further_lines, outdented}
use Rattle.state_verdicts.proofs.CodeIndentedReads.{Reads_white, code_indented_verdict, readied, start, three, white_does, white_read}
use Rattle.state_verdicts.proofs.CodeIndentedStates as does_it
use Rattle.state_verdicts.proofs.CodeIndentedStates.{after, at_break, further_start, in_line, inside}
use Rattle.state_verdicts.proofs.ColumnLoops.{over_columns}
use Rattle.state_verdicts.proofs.LineCodes.{after_eol, after_more, first_line_is, indent_line, line_more, line_none, prefix_none, rest_within}
use Rattle.state_verdicts.proofs.Markers.{flop}
use Rattle.state_verdicts.proofs.MachineTurns.{and_on, byte_at, does, does_next, end_at, ends_well, fails, fed, fed_again, feeds, missed, still_at, tried}
use Rattle.state_verdicts.proofs.Seen.{seen_eol, seen_feed}
use Rattle.state_verdicts.proofs.Standing.{Here, enters, exits, fed_here, past_here}
use Rattle.state_verdicts.proofs.WhiteReads.{spaced}

module _ {T : Type 0} (x : Context T) (text : Text) (once : SkipsOnce text) (code_on : x.options.constructs.code_indented ≡ true) (k : KeptState)
    (whole : k.connect ≡ false) (c0 : Config Flows) where
  abbrev bodies : Name → Body Flows
  bodies = flows_bodies x

  abbrev on : Constructs
  on = x.options.constructs

  -- at a place, with these events
  abbrev Standing : List Event → Config Flows → Point → Type 0
  Standing es c p = Held x text once code_on k whole c0 es c p

  -- ---- the end of a line

  record AtEnd (c : Config Flows) (p : Point) : Type 0 where
    pub ends : LineEnds text p
    pub current : (c.current ≡ None) ⊎ (c.current ≡ Some 10)

  at_end : (c : Config Flows) (p : Point) (codes l : List ℕ) → AtHand text c p → after_line codes ≡ l → SeesColumns text p l → AtEnd c p
  at_end c p codes [] at is (ended e) = record { ends = ap (λ v. has in_line (byte_of v)) e; current = inl (end_at at e) }
  at_end c p codes (code ∷ cs) at is (along {q = q} e s) =
      let feed_is : text.byte (text.start p) ≡ Some (as_byte 10 q) = e ∙ ap (λ (i : ℕ). Some (as_byte i q)) (seen_eol code (after_eol codes code cs is)) in
      record { ends = ap (λ v. has in_line (byte_of v)) feed_is; current = inr (byte_at at feed_is) }

  -- a chunk is read up to the end of the line
  record Chunk (es : List Event) (c : Config Flows) (codes : List ℕ) : Type 0 where
    pub config : Config Flows
    pub end : Point
    pub goes : GoesOnBy bodies text c (states.Retry inside) config (states.Retry at_break)
    pub held : Standing (es ++ event Exit names.CodeFlowChunk (text.start end) None ∷ []) config end
    pub apart : is_feed config.previous ≡ false
    pub ends : LineEnds text end
    pub sees : SeesColumns text end (after_line codes)

  over_chunk : (es : List Event) (w : ℕ) (codes : List ℕ) {p : Point} → SeesColumns text p codes → (c : Config Flows) → AtHand text c p
      → Here text c0 es (spaced w k) c → is_feed c.previous ≡ false → c.lazy ≡ false → c.pierce ≡ false → Chunk es c codes
  over_chunk es w codes s c at here apart lazy pierce =
      let o = over_columns bodies text inside in_line is_inner refl (λ code. ap not (seen_feed code)) (λ b d now is. does_it.inside_goes x d b now is) c0 es
      (spaced w k) codes s c at here apart in
      let stop = at_end o.config o.end codes (after_line codes) o.at refl o.sees in
      let f = exits text c0 names.CodeFlowChunk o.here o.apart o.at.point in record {
        config = with_exit names.CodeFlowChunk o.config;
        end = o.end;
        goes = and_on bodies text o.goes (does bodies text inside o.config (with_exit names.CodeFlowChunk o.config) (states.Retry at_break)
            (by_current o.config stop.current));
        held = record { columns = w; at = still_at refl refl refl o.at; here = f; lazy = o.flags.lazy ∙ lazy; pierce = o.flags.pierce ∙ pierce };
        apart = o.apart;
        ends = stop.ends;
        sees = o.sees;
      }
    where
      by_current : (d : Config Flows) → (d.current ≡ None) ⊎ (d.current ≡ Some 10)
          → run (bodies inside) d ≡ plain (with_exit names.CodeFlowChunk d) (states.Retry at_break)
      by_current d (inl h) = does_it.inside_none x d h
      by_current d (inr h) = does_it.inside_line x d h

  -- ---- one line after another

  -- lines, and then further ones
  lines_on : {n m : ℕ} {codes more left : List ℕ} {p q r : Point} {events others : List Event} → CodeLines text n codes p events q more
      → CodeLines text m more q others r left → CodeLines text (n + m) codes p (events ++ others) r left
  lines_on {m = m} {more = more} {left = left} {q = q} {r = r} {others = others} over ms =
      subst (λ (i : ℕ). CodeLines text i more q others r left) (let i : m ≡ 0 + m = omega arith in i) ms
  lines_on {m = m} {left = left} {r = end} {others = others} (further {n = n} {code = code} {codes = codes} {p = p} {q = q} {mid = mid} {r = r} {events = events}
      e s s_mid ends s_r ls) ms =
      subst (λ (l : List Event). CodeLines text (n + 1 + m) (code ∷ codes) p l end left)
      (group (ending_events (text.start p) q) (line_events codes (text.start q) (text.start mid) (text.start r)) events others)
      (subst (λ (i : ℕ). CodeLines text i (code ∷ codes) p (ending_events (text.start p) q
      ++ (line_events codes (text.start q) (text.start mid) (text.start r) ++ (events ++ others))) end left)
      (let i : n + m + 1 ≡ n + 1 + m = omega arith in i) (further e s s_mid ends s_r (lines_on ls ms)))
    where
      group : (a b y z : List Event) → a ++ (b ++ (y ++ z)) ≡ (a ++ (b ++ y)) ++ z
      group a b y z = simp append_assoc refl

  -- the code ends
  pub record Ended (es : List Event) (c : Config Flows) (s : State) (p : Point) (codes : List ℕ) : Type 0 where
    pub config : Config Flows
    pub columns : ℕ
    pub count : ℕ
    pub held : List Event
    pub end : Point
    pub left : List ℕ
    pub goes : GoesOnBy bodies text c s config states.Ok
    pub events : config.events ≡ es ++ (held ++ event Exit names.CodeIndented (text.start end) None ∷ [])
    pub at : AtHand text config end
    pub kept : config.tokenize_state ≡ spaced columns k
    pub map : config.map ≡ c0.map
    pub resolvers : config.resolvers ≡ c0.resolvers
    pub free : config.interrupt ≡ false
    pub lines : CodeLines text count codes p held end left
    pub ends : LineEnds text end
    pub sees : SeesColumns text end left
    pub size : (ls : List BlockLine) → length (own_code (with_lines on (Indented ls []) (code_lines (drop 1 codes)))) ≡ length ls + count

  -- no further line is one of the code
  stops : (es : List Event) (c d : Config Flows) (p : Point) (codes : List ℕ) (s : State) (w : ℕ) → GoesOnBy bodies text c s d (states.Retry after)
      → AtHand text d p → Here text c0 es (spaced w k) d → is_feed d.previous ≡ false → LineEnds text p → SeesColumns text p codes
      → ((ls : List BlockLine) → own_code (with_lines on (Indented ls []) (code_lines (drop 1 codes))) ≡ ls) → Ended es c s p codes
  stops es c d p codes s w goes at here apart ends sees stays =
      let f = exits text c0 names.CodeIndented here apart at.point in record {
        config = does_it.over d;
        columns = w;
        count = 0;
        held = [];
        end = p;
        left = codes;
        goes = and_on bodies text goes (does bodies text after d (does_it.over d) states.Ok (does_it.after_does x d));
        events = f.events;
        at = still_at refl refl refl at;
        kept = f.kept;
        map = f.map;
        resolvers = f.resolvers;
        free = refl;
        lines = over;
        ends = ends;
        sees = sees;
        size = λ ls. let e = ap length (stays ls) in omega (arith, e);
      }

  -- what comes of fewer codes than these after a line
  abbrev Breaks : ℕ → Type 0
  Breaks bound = (line codes : List ℕ) → after_line line ≡ codes → length codes < bound → (es : List Event) (c : Config Flows) (p : Point) → Standing es c p
      → is_feed c.previous ≡ false → LineEnds text p → SeesColumns text p codes → Ended es c (states.Retry at_break) p codes

  module _ (bound : ℕ) (more : Breaks bound) (code : ℕ) (cs : List ℕ) (few : length (code ∷ cs) < suc bound) (es : List Event) (c : Config Flows) (p : Point)
      (h : Standing es c p) (apart : is_feed c.previous ≡ false) (ends : LineEnds text p) (s : SeesColumns text p (code ∷ cs)) (feed_is : c.current ≡ Some 10) where
    abbrev begins_line : State
    begins_line = states.Retry further_start

    -- none follows
    missing : Missing x text once code_on k whole c0 c cs → Ended es c (states.Retry at_break) p (code ∷ cs)
    missing m =
        let back : Config Flows = hand_on c m.config in
        stops es c (feed text back) p (code ∷ cs) (states.Retry at_break) m.columns
        (and_on bodies text (missed bodies text at_break c c m.config (states.Next inside) (states.Next after) begins_line (does_it.break_line x c feed_is)
        (fails bodies text c m.config begins_line m.goes)) (feeds bodies text after back)) (fed_again text back p once (still_at refl refl refl h.at))
        (record { events = h.here.events; kept = m.kept; map = m.map; resolvers = m.resolvers }) apart ends s (λ ls. m.stays ls [])

    -- one follows
    module _ (f : Found x text once code_on k whole c0 es c p code cs) where
      abbrev chunk_es : List Event
      chunk_es = es ++ (f.before ++ event Enter names.CodeFlowChunk (text.start f.chunk) None ∷ [])

      o : Chunk chunk_es (feed text f.config) f.rest
      o = over_chunk chunk_es f.columns f.rest f.sees (feed text f.config) f.at (fed_here text c0 f.here) f.apart f.lazy f.pierce

      e : Ended (chunk_es ++ event Exit names.CodeFlowChunk (text.start o.end) None ∷ []) o.config (states.Retry at_break) o.end (after_line f.rest)
      e = more f.rest (after_line f.rest) refl (let a = rest_within is_inner f.rest in let b = f.shorter in omega (arith, a, b, few))
          (chunk_es ++ event Exit names.CodeFlowChunk (text.start o.end) None ∷ []) o.config o.end o.held o.apart o.ends o.sees

      regroup : (l b h z : List Event) (a y : Event) → ((l ++ (b ++ a ∷ [])) ++ y ∷ []) ++ (h ++ z) ≡ l ++ (((b ++ (a ∷ y ∷ [])) ++ h) ++ z)
      regroup l b h z a y = simp append_assoc refl

      grown : (ls : List BlockLine) → length (own_code (with_lines on (Indented ls []) (code_lines cs))) ≡ length ls + (f.count + e.count)
      grown ls =
          let g = f.grows ls [] in
          let size = g.size in
          let rest = e.size g.now in
          let is = ap (λ l. length (own_code l)) g.is in omega (arith, size, rest, is)

      another : Ended es c (states.Retry at_break) p (code ∷ cs)
      another = record {
        config = e.config;
        columns = e.columns;
        count = f.count + e.count;
        held = (f.before ++ chunk_if true (text.start f.chunk) (text.start o.end)) ++ e.held;
        end = e.end;
        left = e.left;
        goes = and_on bodies text (tried bodies text at_break c c f.config (states.Next inside) (states.Next after) begins_line (does_it.break_line x c feed_is)
            (ends_well bodies text c f.config begins_line f.goes)) (and_on bodies text (feeds bodies text inside f.config) (and_on bodies text o.goes e.goes));
        events = e.events ∙ regroup es f.before e.held (event Exit names.CodeIndented (text.start e.end) None ∷ [])
            (event Enter names.CodeFlowChunk (text.start f.chunk) None) (event Exit names.CodeFlowChunk (text.start o.end) None);
        at = e.at;
        kept = e.kept;
        map = e.map;
        resolvers = e.resolvers;
        free = e.free;
        lines = lines_on (f.lines o.end o.ends o.sees) e.lines;
        ends = e.ends;
        sees = e.sees;
        size = grown;
      }

    by_outcome : Outcome x text once code_on k whole c0 es c p code cs → Ended es c (states.Retry at_break) p (code ∷ cs)
    by_outcome (inl f) = another f
    by_outcome (inr m) = missing m

  break_on : (bound : ℕ) → Breaks bound → Breaks (suc bound)
  break_on bound more before [] is few es c p h apart ends (ended e) =
      stops es c c p [] (states.Retry at_break) h.columns (does bodies text at_break c c (states.Retry after) (does_it.break_none x c (end_at h.at e))) h.at h.here
      apart ends (ended e) (λ ls. refl)
  break_on bound more before (code ∷ cs) is few es c p h apart ends (along {q = q} e s) =
      let e3 : text.byte (text.start p) ≡ Some (as_byte 10 q) = e ∙ ap (λ (i : ℕ). Some (as_byte i q)) (seen_eol code (after_eol before code cs is)) in
      by_outcome bound more code cs few es c p h apart ends (along e s) (byte_at h.at e3) (further_lines x text once code_on k whole c0 code cs es c p q h e3 s)

  breaks : (bound : ℕ) → Breaks bound
  breaks zero line codes is few es c p h apart ends s = absurd (omega (arith, few))
  breaks (suc bound) line codes is few es c p h apart ends s = break_on bound (breaks bound) line codes is few es c p h apart ends s

  -- from the end of a line of the code
  pub code_on_lines : (line : List ℕ) (es : List Event) (c : Config Flows) (p : Point) → Standing es c p → is_feed c.previous ≡ false → LineEnds text p
      → SeesColumns text p (after_line line) → Ended es c (states.Retry at_break) p (after_line line)
  code_on_lines line = breaks (suc (length (after_line line))) line (after_line line) refl (omega arith)

-- ---- all of it

module _ {T : Type 0} (here : InLine T) (once : SkipsOnce here.text) (whole : here.config.tokenize_state.connect ≡ false)
    (filled : is_blank (line_of here.codes) ≡ false) (lazy : here.config.lazy ≡ false) (pierce : here.config.pierce ≡ false)
    (code_on : here.context.options.constructs.code_indented ≡ true) (free : here.config.interrupt ≡ false) (four : 4 ≤ indent here.codes) where
  abbrev c0 : Config Flows
  c0 = at_hand here

  abbrev x : Context T
  x = here.context

  abbrev text : Text
  text = here.text

  abbrev p : Point
  p = here.place

  abbrev k : KeptState
  k = here.config.tokenize_state

  module _ (code : ℕ) (cs : List ℕ) (is : here.codes ≡ code ∷ cs) (white : is_white code ≡ true) (does_start : run (flows_bodies x start) c0
      ≡ tries (states.Next at_break) states.Nok (readied c0) (part state_inline.SpaceOrTabStart)) (o : Reads_white here once whole filled) where
    abbrev last : Config Flows
    last = feed text o.config

    at_last : AtHand text last o.end
    at_last = fed_again text o.config o.end once o.at

    -- the events of the indent
    abbrev white_is : List Event
    white_is = white_events here.codes (text.start p) (text.start o.end)

    abbrev indent_es : List Event
    indent_es = c0.events ++ (event Enter names.CodeIndented (text.start p) None ∷ white_is)

    here_last : Here text c0 indent_es (spaced 0 k) last
    here_last = let f = fed_here text c0 o.here in record {
      events = f.events ∙ (three c0.events (event Enter names.CodeIndented (text.start p) None) (event Enter names.SpaceOrTab (text.start p) None)
          (event Exit names.SpaceOrTab (text.start o.end) None)
          ∙ ap (λ (b : Bool). c0.events ++ (event Enter names.CodeIndented (text.start p) None ∷ white_if b (text.start p) (text.start o.end)))
          (sym (lt-ltb 0 (indent here.codes) (omega (arith, four)))));
      kept = f.kept ∙ ap (λ (i : ℕ). spaced i k) (let j : 4 - min 4 (indent here.codes) ≡ 0 = omega (arith, four) in j);
      map = f.map;
      resolvers = f.resolvers;
    }

    cut : Outdented (min 4 (indent here.codes)) here.codes
    cut = outdented (min 4 (indent here.codes)) here.codes (omega arith)

    -- the first chunk
    module _ (code3 : ℕ) (cs3 : List ℕ) (rest : outdent 4 here.codes ≡ code3 ∷ cs3) (inner : is_eol code3 ≡ false) (q3 : Point)
        (e3 : text.byte (text.start o.end) ≡ Some (as_byte (text_byte code3) q3)) (s3 : SeesColumns text q3 cs3) where
      abbrev code_es : List Event
      code_es = indent_es ++ event Enter names.CodeFlowChunk (text.start o.end) None ∷ []

      abbrev in_chunk : Config Flows
      in_chunk = does_it.begun last

      inner_byte : (text_byte code3 == 10) ≡ false
      inner_byte = seen_feed code3 ∙ inner

      z : Chunk x text once code_on k whole c0 code_es (feed text in_chunk) cs3
      z = over_chunk x text once code_on k whole c0 code_es 0 cs3 s3 (feed text in_chunk)
          (fed text in_chunk q3 (at_last.next (as_byte (text_byte code3) q3) e3))
          (fed_here text c0 (past_here text c0 (enters text c0 names.CodeFlowChunk here_last at_last.point))) (ap is_feed (byte_at at_last e3) ∙ inner_byte)
          (o.flags.lazy ∙ lazy) (o.flags.pierce ∙ pierce)

      abbrev first_es : List Event
      first_es = code_es ++ event Exit names.CodeFlowChunk (text.start z.end) None ∷ []

      after_is : after_line cs3 ≡ after_line here.codes
      after_is = sym (after_more code3 cs3 inner) ∙ (ap after_line (sym rest) ∙ cut.after)

      done : Ended x text once code_on k whole c0 first_es z.config (states.Retry at_break) z.end (after_line cs3)
      done = code_on_lines x text once code_on k whole c0 cs3 first_es z.config z.end z.held z.apart z.ends z.sees

      chunk_is : is_filled (line_of (outdent 4 here.codes)) ≡ true
      chunk_is = ap (λ (l : List ℕ). is_filled (line_of l)) rest ∙ ap is_filled (line_more code3 cs3 inner)

      reads : ReadsBy (flows_bodies x) text c0 (states.Retry start) done.config true
      reads = ends_well (flows_bodies x) text c0 done.config (states.Retry start) (and_on (flows_bodies x) text (tried (flows_bodies x) text start c0 (readied c0)
          o.config (states.Next at_break) states.Nok (part state_inline.SpaceOrTabStart) does_start o.reads)
          (and_on (flows_bodies x) text (feeds (flows_bodies x) text at_break o.config)
          (and_on (flows_bodies x) text (does_next (flows_bodies x) text at_break inside last in_chunk
          (does_it.break_goes x last (text_byte code3) (byte_at at_last e3) inner_byte (ap (λ (t : KeptState). t.size_c == 0) here_last.kept)))
          (and_on (flows_bodies x) text z.goes done.goes))))

      gather : (l w h y : List Event) (a b d : Event) → ((((l ++ (a ∷ w)) ++ b ∷ []) ++ d ∷ []) ++ (h ++ y)) ≡ l ++ (a ∷ ((w ++ (b ∷ d ∷ [])) ++ (h ++ y)))
      gather l w h y a b d = simp append_assoc refl

      size_is : suc done.count ≡ length (code_block x.options.constructs (code_lines here.codes))
      size_is =
          let f = first_line_is code cs in
          let own : BlockLine = rest_line (outdent 4 (line_of (code ∷ cs))) (beside_line Whitespace (text_line (line_of (code ∷ cs)) f.ending)) in
          let lines = ap (λ (l : List ℕ). length (code_block x.options.constructs (code_lines l))) is ∙ ap (λ l. length (code_block x.options.constructs l)) f.is in
          let size = done.size (own ∷ []) in
          let others = ap (λ (l : List ℕ). length (own_code (with_lines x.options.constructs (Indented (own ∷ []) []) (code_lines (drop 1 l)))))
          (after_is ∙ ap after_line is) in
          omega (arith, lines, size, others)

      verdict : CodeVerdict here true
      verdict = (
        done.config,
        done.columns,
        o.end,
        z.end,
        done.end,
        done.count,
        done.held,
        done.left,
        reads,
        record {
          events = done.events ∙ (gather c0.events white_is done.held (event Exit names.CodeIndented (text.start done.end) None ∷ [])
              (event Enter names.CodeIndented (text.start p) None) (event Enter names.CodeFlowChunk (text.start o.end) None)
              (event Exit names.CodeFlowChunk (text.start z.end) None)
              ∙ ap (λ (b : Bool). c0.events ++ (event Enter names.CodeIndented (text.start p) None
              ∷ ((white_is ++ chunk_if b (text.start o.end) (text.start z.end)) ++ (done.held ++ event Exit names.CodeIndented (text.start done.end) None ∷ []))))
              (sym chunk_is));
          at = done.at;
          kept = done.kept;
          map = done.map;
          resolvers = done.resolvers;
        },
        o.sees,
        subst (λ (l : List ℕ). CodeLines text done.count l z.end done.held done.end done.left) after_is done.lines,
        size_is,
        done.free,
        done.ends,
        done.sees,
      )

    by_outdent : (l : List ℕ) → outdent 4 here.codes ≡ l → SeesColumns text o.end l → CodeVerdict here true
    by_outdent [] rest (ended none) = absurd (let f : true ≡ false = sym (ap (λ (l : List ℕ). is_blank (line_of l)) rest) ∙ (cut.blank ∙ filled) in cc)
    by_outdent (code3 ∷ cs3) rest (along {q = q3} e3 s3) = elim (cases_Bool (is_eol code3)) [
      | inl eol ↦ absurd (let f : true ≡ false =
          sym (ap (λ (l : List ℕ). is_blank (line_of l)) rest ∙ ap is_blank (line_none code3 cs3 eol)) ∙ (cut.blank ∙ filled) in cc)
      | inr inner ↦ verdict code3 cs3 rest inner q3 e3 s3
    ]

  by_codes : (codes : List ℕ) → here.codes ≡ codes → SeesColumns text p codes → CodeVerdict here true
  by_codes [] is (ended e) = absurd (let none = ap indent is in omega (arith, four, none))
  by_codes (code ∷ cs) is (along e s) = elim (cases_Bool (is_white code)) [
    | inl white ↦
        let o = white_read here once whole filled code cs is white (along e s) in
        by_outdent code cs is white (white_does here once whole filled code_on free code white e) o (outdent 4 here.codes) refl o.sees
    | inr black ↦ absurd (let none = prefix_none is_white code cs black in let all = ap indent is in omega (arith, four, none, all))
  ]

pub code_indented_whole_verdict : (T : Type 0) → CodeIndentedWholeVerdict T
code_indented_whole_verdict T here s whole once lazy pierce filled =
    by_start (not here.config.interrupt && starts_code_indented here.context.options.constructs (line here)) refl (code_indented_verdict T here s whole once filled)
  where
    by_start : (is : Bool) → (not here.config.interrupt && starts_code_indented here.context.options.constructs (line here)) ≡ is → IndentVerdict here is
        → CodeVerdict here is
    by_start true h v =
        let parts = and_parts (not here.config.interrupt) (starts_code_indented here.context.options.constructs (line here)) h in
        let on = and_parts here.context.options.constructs.code_indented (leb 4 (indent (line here))) parts.1 in
        let four = leb-true 4 (indent (line here)) on.1 in
        let l = indent_line here.codes in
        by_codes here once whole filled lazy pierce on.0 (flop here.config.interrupt parts.0) (omega (arith, four, l)) here.codes refl s
    by_start false h v = v
