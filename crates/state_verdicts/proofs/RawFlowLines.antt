-- The lines of code and math, one after another, up to the closing one or the end of the text.
use Rattle.std.proofs.Common.{◌≡◌, ◌∙◌, ℕ, zero, suc, ◌^◌, ◌<◌, ◌-◌, Bool, true, false, not, ◌==◌, ◌||◌, if◌then◌else◌, nat_lt, List, [], ◌∷◌, ◌++◌, drop}
use Rattle.std.proofs.Common.{length, Option, Some, None, inl, inr, refl, sym, ap, subst, arith, append_assoc, append-nil}
use Rattle.state_verdicts.proofs.BlockPrelude.{after_line, as_byte, AtHand, byte_of, cases_Bool, Config, Context, eqb-true, event, Event, feed}
use Rattle.state_verdicts.proofs.BlockPrelude.{Flows, GoesOn, has, indent, InLine, is_eol, is_feed, is_inner, is_space_or_tab, is_white, KeptState, line_of}
use Rattle.state_verdicts.proofs.BlockPrelude.{LineEnds, lt-ltb, Name, nothing, or_cases, part, past_byte, plain, Point, run}
use Rattle.state_verdicts.proofs.BlockPrelude.{Sees, SkipsOnce, State, Text, text_byte}
use Rattle.state_verdicts.proofs.BlockPrelude.{tries, with_enter, with_exit}
use Rattle.definition_text.specs.Indents.{outdent}
use Rattle.engine_events.specs.declared.event.Kind.TheVariants.{Enter, Exit}
use Rattle.engine_events.specs.declared.event.Name.TheVariants as names
use Rattle.engine_states.specs.declared.state.Inline.TheVariants as state_inline
use Rattle.engine_states.specs.declared.state.State.TheVariants as states
use Rattle.markdown_engine.specs.Machine.{checks}
use Rattle.markdown_engine.specs.Reading.{at_point, hand_on}
use Rattle.markdown_options.specs.declared.configuration.Constructs.{Constructs}
use Rattle.state_flow.specs.Flows.{flows_bodies}
use Rattle.state_verdicts.specs.BlockVerdicts.{Reads, at_hand, line}
use Rattle.state_verdicts.specs.Columns.{SeesColumns, along, ended}
use Rattle.state_verdicts.specs.Frontmatter.{is_inner_byte}
use Rattle.state_verdicts.specs.Lines.{is_filled}
use Rattle.state_verdicts.specs.RawFlow.{LinesVerdict, RawFlowLinesVerdict, RawLines, chunk_if, closes, closes_fence, closing_line, content_line, counting}
use Rattle.state_verdicts.specs.RawFlow.{further, is_fence_byte, last, lost, over}
use Rattle.state_verdicts.specs.WhiteSpace.{ending_events, white_if}
use Rattle.state_verdicts.proofs.BlockTurns.{and_on, byte_at, does, does_next, end_at, ends_well, fails, fed, fed_again, feeds, stays, still_at, tried}
use Rattle.state_verdicts.proofs.ColumnLoops.{OverColumns, over_columns}
use Rattle.state_verdicts.proofs.ColumnReads.{TakenIf, attempted}
use Rattle.state_verdicts.proofs.ColumnSees.{after_drop}
use Rattle.state_verdicts.proofs.LineCodes.{after_eol, after_more, after_none, line_more, line_none, prefix_more, prefix_none, rest_within}
use Rattle.state_verdicts.proofs.MachineTurns.{checked, missed}
use Rattle.state_verdicts.proofs.RawFlowCloses.{Closed, Missed, Outcome, closes_or_not}
use Rattle.state_verdicts.proofs.RawFlowStates as steps
use Rattle.state_verdicts.proofs.RawStays.{RawState, Within, still_lazy}
use Rattle.state_verdicts.proofs.RawStays as raw
use Rattle.state_verdicts.proofs.Seen.{seen_eol, seen_feed, seen_white}
use Rattle.state_verdicts.proofs.Standing.{Here, ended_events, exits, past_ending, two}
use Rattle.state_verdicts.proofs.WhiteReads.{flows_white, spaced}

-- the byte of a fence is none of the kinds of HTML
no_kind : (m : ℕ) → is_fence_byte m ≡ true → nat_lt m 8 ≡ false
no_kind m h = elim (or_cases ((m == 96) || (m == 126)) (m == 36) h) [
  | inl l ↦ elim (or_cases (m == 96) (m == 126) l) [
    | inl e ↦ ap (λ (i : ℕ). nat_lt i 8) (eqb-true m 96 e)
    | inr e ↦ ap (λ (i : ℕ). nat_lt i 8) (eqb-true m 126 e)
  ]
  | inr e ↦ ap (λ (i : ℕ). nat_lt i 8) (eqb-true m 36 e)
]

line_ends : (text : Text) (p q : Point) (b : ℕ) → text.byte (text.start p) ≡ Some (as_byte b q) → (b == 10) ≡ true → LineEnds text p
line_ends text p q b e h = ap (λ v. has (λ i. not (i == 10)) (byte_of v)) e ∙ ap not h

text_ends : (text : Text) (p : Point) → text.byte (text.start p) ≡ None → LineEnds text p
text_ends text p e = ap (λ v. has (λ i. not (i == 10)) (byte_of v)) e

-- a state over the bytes of a line goes over the codes of the line
inner_seen : (code : ℕ) → is_inner_byte (text_byte code) ≡ is_inner code
inner_seen code = ap not (seen_feed code)

module _ {T : Type 0} (x : Context T) (text : Text) (once : SkipsOnce text) (k : KeptState) (whole : k.connect ≡ false)
    (fence : is_fence_byte k.marker ≡ true) (some : 0 < k.size) (cs : Config Flows) (begins : State) (in_raw : Within begins) (active : cs.lazy ≡ false) where
  abbrev on : Constructs
  on = x.options.constructs

  -- at the end of a line, where a state looks for a further line
  pub record AtBreak (c at : Config Flows) (n : Name) (p : Point) : Type 0 where
    pub goes : GoesOn x text cs begins c (states.Retry n)
    pub state : RawState n
    pub looks : run (flows_bodies x n) c ≡ checks (states.Next steps.at_break) (states.Next steps.after) at (states.Retry steps.ending)
    pub same : at.lazy ≡ c.lazy
    pub hand : AtHand text at p
    pub size : ℕ
    pub columns : ℕ
    pub kept : at.tokenize_state ≡ counting size columns k
    pub map : at.map ≡ cs.map
    pub resolvers : at.resolvers ≡ cs.resolvers

  -- the end was reached
  pub record Finished (c at : Config Flows) (n : Name) (p : Point) (codes : List ℕ) : Type 0 where
    pub config : Config Flows
    pub size : ℕ
    pub columns : ℕ
    pub inside : List Event
    pub end : Point
    pub left : List ℕ
    pub reads : Reads x text c (states.Retry n) config true
    pub events : config.events ≡ at.events ++ inside
    pub hand : AtHand text config end
    pub kept : config.tokenize_state ≡ counting size columns k
    pub map : config.map ≡ cs.map
    pub resolvers : config.resolvers ≡ cs.resolvers
    pub lines : RawLines k on text codes p inside end left
    pub free : config.interrupt ≡ false
    pub ends : LineEnds text end
    pub sees : Sees text end left

  -- from the last state
  ends_there : (c : Config Flows) → Reads x text c (states.Retry steps.after) (steps.done c) true
  ends_there c = ends_well x text c (steps.done c) (states.Retry steps.after) (does x text steps.after c (steps.done c) states.Ok (steps.after_does x c))

  -- ---- at the end of the text

  -- the place where what ends there ends: of a line that is empty its start
  abbrev exit_place : Config Flows → Point
  exit_place c = if is_feed c.previous then c.line_start else c.point

  record Over (c at : Config Flows) (n : Name) (p place : Point) : Type 0 where
    pub config : Config Flows
    pub size : ℕ
    pub columns : ℕ
    pub reads : Reads x text c (states.Retry n) config true
    pub events : config.events ≡ at.events ++ event Exit k.token_1 place None ∷ []
    pub hand : AtHand text config p
    pub kept : config.tokenize_state ≡ counting size columns k
    pub map : config.map ≡ cs.map
    pub resolvers : config.resolvers ≡ cs.resolvers
    pub free : config.interrupt ≡ false

  at_over : (c at : Config Flows) (n : Name) (p place : Point) → AtBreak c at n p → text.byte (text.start p) ≡ None
      → (if is_feed at.previous then at.line_start else text.start p) ≡ place → Over c at n p place
  at_over c at n p place h e there =
      let later : Config Flows = feed text (hand_on at at) in
      let hand = fed_again text (hand_on at at) p once (still_at refl refl refl h.hand) in
      let bad : Reads x text at (states.Retry steps.ending) at false = fails x text at at (states.Retry steps.ending)
      (does x text steps.ending at at states.Nok (steps.ending_none x at (end_at h.hand e))) in
      let goes = and_on x text (checked (flows_bodies x) text n c at at (states.Next steps.at_break) (states.Next steps.after) (states.Retry steps.ending)
      h.looks false bad) (feeds x text steps.after (hand_on at at)) in record {
        config = steps.done later;
        size = h.size;
        columns = h.columns;
        reads = goes.there (steps.done later) true (ends_there later);
        events = ap (λ (r : Point). at.events ++ event Exit at.tokenize_state.token_1 (if is_feed at.previous then at.line_start else r) None ∷ []) hand.point
            ∙ (ap (λ (r : Point). at.events ++ event Exit at.tokenize_state.token_1 r None ∷ []) there
            ∙ ap (λ (s : KeptState). at.events ++ event Exit s.token_1 place None ∷ []) h.kept);
        hand = still_at refl refl refl hand;
        kept = h.kept;
        map = h.map;
        resolvers = h.resolvers;
        free = refl;
      }

  -- ---- at a line ending

  module _ (c at : Config Flows) (n : Name) (p q : Point) (h : AtBreak c at n p) (e : text.byte (text.start p) ≡ Some (as_byte 10 q)) where
    -- the look ahead goes to the next line
    abbrev ahead : Config Flows
    ahead = feed text (past_ending at)

    to_ahead : GoesOn x text at (states.Retry steps.ending) ahead (states.Retry steps.after_ending)
    to_ahead = does_next x text steps.ending steps.after_ending at (past_ending at) (steps.ending_line x at (byte_at h.hand e))

    active_is : {b : ℕ} → ahead.current ≡ Some b → (lazy : Bool) → at.lazy ≡ lazy → at.lazy ≡ false
    active_is {b} now true is =
        let bad : Reads x text at (states.Retry steps.ending) ahead false = fails x text at ahead (states.Retry steps.ending)
        (and_on x text to_ahead (does x text steps.after_ending ahead ahead states.Nok (steps.after_ending_byte x b ahead true now is))) in
        let goes = and_on x text (checked (flows_bodies x) text n c at ahead (states.Next steps.at_break) (states.Next steps.after)
        (states.Retry steps.ending) h.looks false bad) (feeds x text steps.after (hand_on at ahead)) in
        let later : Config Flows = feed text (hand_on at ahead) in
        h.same ∙ (still_lazy x text (steps.done later) true in_raw h.state h.goes (goes.there (steps.done later) true (ends_there later)) ∙ active)
    active_is now false is = is

    looks_by : (v : Option ℕ) → ahead.current ≡ v → Reads x text at (states.Retry steps.ending) ahead true
    looks_by None now = ends_well x text at ahead (states.Retry steps.ending) (and_on x text to_ahead (does x text steps.after_ending ahead ahead states.Ok
        (steps.after_ending_none x ahead now (ap (λ (s : KeptState). nat_lt s.marker 8) h.kept ∙ no_kind k.marker fence))))
    looks_by (Some b) now = ends_well x text at ahead (states.Retry steps.ending) (and_on x text to_ahead (does x text steps.after_ending ahead ahead states.Ok
        (steps.after_ending_byte x b ahead false now (active_is now at.lazy refl))))

    -- back at the line ending
    abbrev c1 : Config Flows
    c1 = feed text (hand_on at ahead)

    hand_1 : AtHand text c1 p
    hand_1 = fed_again text (hand_on at ahead) p once (still_at refl refl refl h.hand)

    next_is : c1.next ≡ q
    next_is = hand_1.next (as_byte 10 q) e

    -- over the line ending
    abbrev started : Config Flows
    started = past_ending c1

    goes_back : GoesOn x text c (states.Retry n) c1 (states.Retry steps.before_line)
    goes_back = and_on x text (and_on x text (checked (flows_bodies x) text n c at ahead (states.Next steps.at_break) (states.Next steps.after)
        (states.Retry steps.ending) h.looks true (looks_by ahead.current refl)) (feeds x text steps.at_break (hand_on at ahead)))
        (does x text steps.at_break c1 c1 (states.Retry steps.before_line) (steps.break_line x c1 (byte_at hand_1 e)))

    tries_it : run (flows_bodies x steps.before_line) c1 ≡ tries (states.Next steps.after) (states.Next steps.at_line) started (states.Next steps.close)
    tries_it = steps.line_does x c1 (byte_at hand_1 e)

    events_is : started.events ≡ at.events ++ ending_events (text.start p) q
    events_is = ended_events c1 (text.start p) q (byte_at hand_1 e) hand_1.point next_is

    -- ---- the closing line

    module _ (code : ℕ) (codes : List ℕ) (s : SeesColumns text q codes) (few : length codes < 2 ^ 62) where
      abbrev ClosedHere : Type 0
      ClosedHere = Closed x text once k whole fence some started q next_is h.size h.columns h.kept codes few

      abbrev MissedHere : Type 0
      MissedHere = Missed x text once k whole fence some started q next_is h.size h.columns h.kept codes few

      closed : closes_fence k on (line_of codes) ≡ true → ClosedHere → Finished c at n p (code ∷ codes)
      closed is o =
          let later : Config Flows = feed text o.config in
          let hand = fed_again text o.config o.end once o.at in
          let goes = and_on x text goes_back (and_on x text (tried x text steps.before_line c1 started o.config (states.Next steps.after)
          (states.Next steps.at_line) (states.Next steps.close) tries_it ((feeds x text steps.close started).there o.config true o.reads))
          (feeds x text steps.after o.config)) in
          let stands : Here text cs later.events later.tokenize_state later =
          record { events = refl; kept = refl; map = o.map ∙ h.map; resolvers = o.resolvers ∙ h.resolvers } in
          let f = exits text cs later.tokenize_state.token_1 stands o.apart hand.point in record {
            config = steps.done later;
            size = o.size_now;
            columns = o.columns_now;
            inside = ending_events (text.start p) q ++ (closing_line k codes (text.start q) (text.start o.first) (text.start o.mid) (text.start o.end)
                ++ event Exit k.token_1 (text.start o.end) None ∷ []);
            end = o.end;
            left = after_line codes;
            reads = goes.there (steps.done later) true (ends_there later);
            events = f.events
                ∙ (ap (λ (t : KeptState). o.config.events ++ event Exit t.token_1 (text.start o.end) None ∷ []) o.kept_now
                ∙ (ap (λ (l : List Event). l ++ event Exit k.token_1 (text.start o.end) None ∷ []) (o.events
                ∙ ap (λ (l : List Event). l ++ closing_line k codes (text.start q) (text.start o.first) (text.start o.mid) (text.start o.end)) events_is)
                ∙ regroup at.events (ending_events (text.start p) q)
                (closing_line k codes (text.start q) (text.start o.first) (text.start o.mid) (text.start o.end))
                (event Exit k.token_1 (text.start o.end) None ∷ [])));
            hand = still_at refl refl refl hand;
            kept = o.kept_now;
            map = o.map ∙ h.map;
            resolvers = o.resolvers ∙ h.resolvers;
            lines = closes e s is o.sees_first o.sees_mid o.ends o.sees;
            free = refl;
            ends = o.ends;
            sees = o.sees;
          }
        where
          regroup : (l a b y : List Event) → ((l ++ a) ++ b) ++ y ≡ l ++ (a ++ (b ++ y))
          regroup l a b y = simp append_assoc refl

      -- ---- a line of the content

      module _ (m : MissedHere) where
        -- at the start of the line again
        abbrev c2 : Config Flows
        c2 = feed text (hand_on started m.config)

        hand_2 : AtHand text c2 q
        hand_2 = fed text (hand_on started m.config) q next_is

        goes_again : GoesOn x text c (states.Retry n) c2 (states.Retry steps.at_line)
        goes_again = and_on x text goes_back (and_on x text (missed (flows_bodies x) text steps.before_line c1 started m.config (states.Next steps.after)
            (states.Next steps.at_line) (states.Next steps.close) tries_it ((feeds x text steps.close started).there m.config false m.reads))
            (feeds x text steps.at_line (hand_on started m.config)))

        abbrev size_is : ℕ
        size_is = k.space_or_tab_size

        size_there : c2.tokenize_state.space_or_tab_size ≡ size_is
        size_there = ap (λ (t : KeptState). t.space_or_tab_size) m.kept_now

        -- at the start of a line that has nothing to lose
        stays_there : has is_space_or_tab c2.current ≡ false → run (flows_bodies x steps.at_line) c2 ≡ plain c2 (states.Retry steps.before_chunk)
        stays_there black = elim (cases_Bool (size_is == 0)) [
          | inl none ↦ steps.line_whole x c2 (ap (λ (i : ℕ). i == 0) size_there ∙ none)
          | inr filled ↦ steps.line_black x c2 (ap (λ (i : ℕ). i == 0) size_there ∙ filled) black
        ]

        -- the columns that the line loses are behind
        record Outdented : Type 0 where
          pub config : Config Flows
          pub mid : Point
          pub columns : ℕ
          pub goes : GoesOn x text c2 (states.Retry steps.at_line) config (states.Retry steps.before_chunk)
          pub events : config.events ≡ c2.events ++ white_if (nat_lt 0 (lost k codes)) (text.start q) (text.start mid)
          pub hand : AtHand text config mid
          pub kept : config.tokenize_state ≡ counting m.size_now columns k
          pub map : config.map ≡ cs.map
          pub resolvers : config.resolvers ≡ cs.resolvers
          pub apart : 0 < lost k codes → is_feed config.previous ≡ false
          pub sees : SeesColumns text mid (outdent size_is codes)

        at_start : lost k codes ≡ 0 → run (flows_bodies x steps.at_line) c2 ≡ plain c2 (states.Retry steps.before_chunk) → Outdented
        at_start none does_it = record {
          config = c2;
          mid = q;
          columns = m.columns_now;
          goes = does x text steps.at_line c2 c2 (states.Retry steps.before_chunk) does_it;
          events = sym (append-nil c2.events)
              ∙ ap (λ (i : ℕ). c2.events ++ white_if (nat_lt 0 i) (text.start q) (text.start q)) (sym none);
          hand = hand_2;
          kept = m.kept_now;
          map = m.map ∙ h.map;
          resolvers = m.resolvers ∙ h.resolvers;
          apart = λ positive. absurd (omega (arith, positive, none));
          sees = subst (λ (i : ℕ). SeesColumns text q (drop i codes)) (sym none) s;
        }

        abbrev ready : Config Flows
        ready = steps.with_most c2.tokenize_state.space_or_tab_size c2

        abbrev Attempt : Bool → Type 0
        Attempt is = TakenIf (flows_bodies x) (flows_white x) text c2 c2.tokenize_state is c2.events ready q size_is codes

        over_white : 0 < lost k codes → (size_is == 0) ≡ false → has is_space_or_tab c2.current ≡ true → Attempt true → Outdented
        over_white positive filled white o = record {
          config = feed text o.config;
          mid = o.end;
          columns = size_is - lost k codes;
          goes = and_on x text (tried x text steps.at_line c2 ready o.config (states.Next steps.before_chunk) states.Nok (part state_inline.SpaceOrTabStart)
              (steps.line_white x c2 (ap (λ (i : ℕ). i == 0) size_there ∙ filled) white) o.reads) (feeds x text steps.before_chunk o.config);
          events = o.here.events
              ∙ (two c2.events (event Enter names.SpaceOrTab (text.start q) None) (event Exit names.SpaceOrTab (text.start o.end) None)
              ∙ ap (λ (b : Bool). c2.events ++ white_if b (text.start q) (text.start o.end)) (sym (lt-ltb 0 (lost k codes) positive)));
          hand = fed_again text o.config o.end once o.at;
          kept = o.here.kept ∙ ap (spaced (size_is - lost k codes)) m.kept_now;
          map = o.here.map ∙ (m.map ∙ h.map);
          resolvers = o.here.resolvers ∙ (m.resolvers ∙ h.resolvers);
          apart = λ z. o.apart;
          sees = o.sees;
        }

        attempt : Attempt (nat_lt 0 (lost k codes))
        attempt = attempted (flows_bodies x) (flows_white x) text c2 c2.tokenize_state c2.events size_is ready q (still_at refl refl refl hand_2)
            (record { events = refl; kept = ap (λ (i : ℕ). spaced i c2.tokenize_state) size_there; map = refl; resolvers = refl })
            (ap (λ (t : KeptState). t.connect) m.kept_now ∙ whole) codes s

        outdented : (l : List ℕ) → codes ≡ l → SeesColumns text q l → Outdented
        outdented [] is (ended none) =
            at_start (let i = ap indent is in omega (arith, i)) (stays_there (ap (has is_space_or_tab) (end_at hand_2 none)))
        outdented (first ∷ others) is (along e1 s1) = elim (cases_Bool (is_white first)) [
          | inl white ↦
              let i = ap indent is in
              let size = prefix_more is_white first others white in
              let seen : has is_space_or_tab c2.current ≡ true = ap (has is_space_or_tab) (byte_at hand_2 e1) ∙ (seen_white first ∙ white) in
              elim (cases_Bool (size_is == 0)) [
                | inl none ↦
                    let z = eqb-true size_is 0 none in
                    at_start (omega (arith, z)) (steps.line_whole x c2 (ap (λ (i : ℕ). i == 0) size_there ∙ none))
                | inr filled ↦
                    let positive : 0 < lost k codes = let some_size = positive_by size_is filled in omega (arith, i, size, some_size) in
                    over_white positive filled seen (subst (λ (b : Bool). Attempt b) (lt-ltb 0 (lost k codes) positive) attempt)
              ]
          | inr black ↦
              at_start (let i = ap indent is in let size = prefix_none is_white first others black in omega (arith, i, size))
              (stays_there (ap (has is_space_or_tab) (byte_at hand_2 e1) ∙ (seen_white first ∙ black)))
        ]
          where
            positive_by : (i : ℕ) → (i == 0) ≡ false → 0 < i
            positive_by zero some_size = absurd (let f : true ≡ false = some_size in cc)
            positive_by (suc i) some_size = omega arith

        -- the end of the line is reached
        record Ended (o : Outdented) (codes_then : List ℕ) : Type 0 where
          pub config : Config Flows
          pub r : Point
          pub goes : GoesOn x text o.config (states.Retry steps.before_chunk) config (states.Retry steps.before_chunk)
          pub events : config.events ≡ o.config.events ++ chunk_if k.token_6 (is_filled (line_of codes_then)) (text.start o.mid) (text.start r)
          pub hand : AtHand text config r
          pub kept : config.tokenize_state ≡ counting m.size_now o.columns k
          pub map : config.map ≡ cs.map
          pub resolvers : config.resolvers ≡ cs.resolvers
          pub looks : run (flows_bodies x steps.before_chunk) config
              ≡ checks (states.Next steps.at_break) (states.Next steps.after) config (states.Retry steps.ending)
          pub apart : text.byte (text.start r) ≡ None → (codes_then ≡ [] → is_feed o.config.previous ≡ false) → is_feed config.previous ≡ false
          pub ends : LineEnds text r
          pub sees : SeesColumns text r (after_line codes_then)

        none_held : (o : Outdented) (ds : List ℕ) → SeesColumns text o.mid ds → line_of ds ≡ [] → after_line ds ≡ ds → LineEnds text o.mid
            → run (flows_bodies x steps.before_chunk) o.config
            ≡ checks (states.Next steps.at_break) (states.Next steps.after) o.config (states.Retry steps.ending)
            → (text.byte (text.start o.mid) ≡ None → ds ≡ []) → Ended o ds
        none_held o ds seen empty rest at_end does_it only = record {
          config = o.config;
          r = o.mid;
          goes = stays x text o.config (states.Retry steps.before_chunk);
          events = sym (append-nil o.config.events)
              ∙ ap (λ (l : List ℕ). o.config.events ++ chunk_if k.token_6 (is_filled l) (text.start o.mid) (text.start o.mid)) (sym empty);
          hand = o.hand;
          kept = o.kept;
          map = o.map;
          resolvers = o.resolvers;
          looks = does_it;
          apart = λ none given. given (only none);
          ends = at_end;
          sees = subst (λ (l : List ℕ). SeesColumns text o.mid l) (sym rest) seen;
        }

        -- at the end of what a line holds
        module _ (o : Outdented) (first : ℕ) (others : List ℕ) (inner : is_eol first ≡ false) (r1 : Point)
            (e1 : text.byte (text.start o.mid) ≡ Some (as_byte (text_byte first) r1)) (s1 : SeesColumns text r1 others) where
          abbrev chunk : Config Flows
          chunk = feed text (past_byte (with_enter o.config.tokenize_state.token_6 None o.config))

          abbrev es : List Event
          es = o.config.events ++ event Enter k.token_6 (text.start o.mid) None ∷ []

          feeds_not : (text_byte first == 10) ≡ false
          feeds_not = seen_feed first ∙ inner

          stands : Here text cs es (counting m.size_now o.columns k) chunk
          stands = record {
            events = ap (λ (t : KeptState). o.config.events ++ event Enter t.token_6 o.config.point None ∷ []) o.kept
                ∙ ap (λ (z : Point). o.config.events ++ event Enter k.token_6 z None ∷ []) o.hand.point;
            kept = o.kept;
            map = o.map;
            resolvers = o.resolvers;
          }

          passed : OverColumns (flows_bodies x) text steps.in_chunk is_inner_byte is_inner refl inner_seen (steps.inside_goes x) cs es
              (counting m.size_now o.columns k) chunk others
          passed = over_columns (flows_bodies x) text steps.in_chunk is_inner_byte is_inner refl inner_seen (steps.inside_goes x) cs es
              (counting m.size_now o.columns k) others s1 chunk
              (fed text (past_byte (with_enter o.config.tokenize_state.token_6 None o.config)) r1 (o.hand.next (as_byte (text_byte first) r1) e1))
              stands (ap is_feed (byte_at o.hand e1) ∙ feeds_not)

          -- the chunk is left
          abbrev left_it : Config Flows
          left_it = with_exit passed.config.tokenize_state.token_6 passed.config

          left_here : Here text cs (es ++ event Exit passed.config.tokenize_state.token_6 (text.start passed.end) None ∷ [])
              (counting m.size_now o.columns k) left_it
          left_here = exits text cs passed.config.tokenize_state.token_6 passed.here passed.apart passed.at.point

          held : LineEnds text passed.end → run (flows_bodies x steps.in_chunk) passed.config ≡ plain left_it (states.Retry steps.before_chunk)
              → run (flows_bodies x steps.before_chunk) left_it
              ≡ checks (states.Next steps.at_break) (states.Next steps.after) left_it (states.Retry steps.ending)
              → Ended o (first ∷ others)
          held at_end does_it looks = record {
            config = left_it;
            r = passed.end;
            goes = and_on x text (does_next x text steps.before_chunk steps.in_chunk o.config
                (past_byte (with_enter o.config.tokenize_state.token_6 None o.config))
                (steps.chunk_goes x (text_byte first) o.config (byte_at o.hand e1) feeds_not))
                (and_on x text passed.goes (does x text steps.in_chunk passed.config left_it (states.Retry steps.before_chunk) does_it));
            events = left_here.events
                ∙ (ap (λ (t : KeptState). es ++ event Exit t.token_6 (text.start passed.end) None ∷ []) passed.here.kept
                ∙ (two o.config.events (event Enter k.token_6 (text.start o.mid) None) (event Exit k.token_6 (text.start passed.end) None)
                ∙ ap (λ (l : List ℕ). o.config.events ++ chunk_if k.token_6 (is_filled l) (text.start o.mid) (text.start passed.end))
                (sym (line_more first others inner))));
            hand = still_at refl refl refl passed.at;
            kept = left_here.kept;
            map = left_here.map;
            resolvers = left_here.resolvers;
            looks = looks;
            apart = λ none given. passed.apart;
            ends = at_end;
            sees = subst (λ (l : List ℕ). SeesColumns text passed.end l) (sym (after_more first others inner)) passed.sees;
          }

          by_end : (l : List ℕ) → after_line others ≡ l → SeesColumns text passed.end l → Ended o (first ∷ others)
          by_end [] is (ended none) =
              held (text_ends text passed.end none) (steps.inside_none x passed.config (end_at passed.at none))
              (steps.chunk_none x left_it (end_at passed.at none))
          by_end (code2 ∷ codes2) is (along {q = q2} e2 s2) =
              let eol = after_eol others code2 codes2 is in
              let e3 : text.byte (text.start passed.end) ≡ Some (as_byte 10 q2) = e2 ∙ ap (λ (b : ℕ). Some (as_byte b q2)) (seen_eol code2 eol) in
              held (line_ends text passed.end q2 10 e3 refl) (steps.inside_line x passed.config (byte_at passed.at e3))
              (steps.chunk_line x left_it (byte_at passed.at e3))

        line_over : (o : Outdented) (ds : List ℕ) → SeesColumns text o.mid ds → Ended o ds
        line_over o [] (ended none) =
            none_held o [] (ended none) refl refl (text_ends text o.mid none) (steps.chunk_none x o.config (end_at o.hand none)) (λ z. refl)
        line_over o (first ∷ others) (along {q = r1} e1 s1) = elim (cases_Bool (is_eol first)) [
          | inl eol ↦
              let e3 : text.byte (text.start o.mid) ≡ Some (as_byte 10 r1) = e1 ∙ ap (λ (b : ℕ). Some (as_byte b r1)) (seen_eol first eol) in
              none_held o (first ∷ others) (along e1 s1) (line_none first others eol) (after_none first others eol) (line_ends text o.mid r1 10 e3 refl)
              (steps.chunk_line x o.config (byte_at o.hand e3))
              (λ none. absurd (let f : Some (as_byte 10 r1) ≡ None = sym e3 ∙ none in cc))
          | inr inner ↦ by_end o first others inner r1 e1 s1 (after_line others) refl (passed o first others inner r1 e1 s1).sees
        ]

        -- ---- the next line

        module _ (o : Outdented) (f : Ended o (outdent size_is codes)) where
          next_break : AtBreak f.config f.config steps.before_chunk f.r
          next_break = record {
            goes = and_on x text h.goes (and_on x text goes_again (and_on x text o.goes f.goes));
            state = raw.before_chunk;
            looks = f.looks;
            same = refl;
            hand = f.hand;
            size = m.size_now;
            columns = o.columns;
            kept = f.kept;
            map = f.map;
            resolvers = f.resolvers;
          }

          after_is : after_line (outdent size_is codes) ≡ after_line codes
          after_is = after_drop (lost k codes) codes (omega arith)

          extend : (next : ℕ) (others : List ℕ) → codes ≡ next ∷ others → closes_fence k on (line_of codes) ≡ false
              → Finished f.config f.config steps.before_chunk f.r (after_line codes) → Finished c at n p (code ∷ codes)
          extend next others is open_yet z = record {
            config = z.config;
            size = z.size;
            columns = z.columns;
            inside = ending_events (text.start p) q ++ (content_line k codes (text.start q) (text.start o.mid) (text.start f.r) ++ z.inside);
            end = z.end;
            left = z.left;
            reads = (and_on x text goes_again (and_on x text o.goes f.goes)).there z.config true z.reads;
            events = z.events
                ∙ (ap (λ (l : List Event). l ++ z.inside) (f.events
                ∙ ap (λ (l : List Event). l ++ chunk_if k.token_6 (is_filled (line_of (outdent size_is codes))) (text.start o.mid) (text.start f.r)) (o.events
                ∙ ap (λ (l : List Event). l ++ white_if (nat_lt 0 (lost k codes)) (text.start q) (text.start o.mid)) events_is))
                ∙ regroup at.events (ending_events (text.start p) q) (white_if (nat_lt 0 (lost k codes)) (text.start q) (text.start o.mid))
                (chunk_if k.token_6 (is_filled (line_of (outdent size_is codes))) (text.start o.mid) (text.start f.r)) z.inside);
            hand = z.hand;
            kept = z.kept;
            map = z.map;
            resolvers = z.resolvers;
            lines = subst (λ (l : List ℕ). RawLines k on text (code ∷ l) p (ending_events (text.start p) q
                ++ (content_line k l (text.start q) (text.start o.mid) (text.start f.r) ++ z.inside)) z.end z.left) (sym is)
                (further e (subst (λ (l : List ℕ). SeesColumns text q l) is s) (ap (λ (l : List ℕ). closes_fence k on (line_of l)) (sym is) ∙ open_yet)
                (subst (λ (l : List ℕ). SeesColumns text o.mid (outdent size_is l)) is o.sees) f.ends
                (subst (λ (l : List ℕ). SeesColumns text f.r l) (after_is ∙ ap after_line is) f.sees)
                (subst (λ (l : List ℕ). RawLines k on text (after_line l) f.r z.inside z.end z.left) is z.lines));
            free = z.free;
            ends = z.ends;
            sees = z.sees;
          }
            where
              regroup : (l a b d y : List Event) → (((l ++ a) ++ b) ++ d) ++ y ≡ l ++ (a ++ ((b ++ d) ++ y))
              regroup l a b d y = simp append_assoc refl

        -- nothing is left after the line ending
        last_line : codes ≡ [] → text.byte (text.start q) ≡ None → Finished c at n p (code ∷ codes)
        last_line is none =
            let there : AtBreak c2 c2 steps.before_chunk q = record {
              goes = and_on x text h.goes (and_on x text goes_again
                  (does x text steps.at_line c2 c2 (states.Retry steps.before_chunk) (stays_there (ap (has is_space_or_tab) (end_at hand_2 none)))));
              state = raw.before_chunk;
              looks = steps.chunk_none x c2 (end_at hand_2 none);
              same = refl;
              hand = hand_2;
              size = m.size_now;
              columns = m.columns_now;
              kept = m.kept_now;
              map = m.map ∙ h.map;
              resolvers = m.resolvers ∙ h.resolvers;
            } in
            let z = at_over c2 c2 steps.before_chunk q q there none
            (ap (λ (v : Option ℕ). if is_feed v then (if is_feed v then c1.next else c1.line_start) else text.start q) (byte_at hand_1 e) ∙ next_is) in record {
              config = z.config;
              size = z.size;
              columns = z.columns;
              inside = ending_events (text.start p) q ++ event Exit k.token_1 q None ∷ [];
              end = q;
              left = [];
              reads = (and_on x text goes_again
                  (does x text steps.at_line c2 c2 (states.Retry steps.before_chunk) (stays_there (ap (has is_space_or_tab) (end_at hand_2 none))))).there
                  z.config true z.reads;
              events = z.events ∙ (ap (λ (l : List Event). l ++ event Exit k.token_1 q None ∷ []) events_is
                  ∙ append_assoc at.events (ending_events (text.start p) q) (event Exit k.token_1 q None ∷ []));
              hand = z.hand;
              kept = z.kept;
              map = z.map;
              resolvers = z.resolvers;
              lines = subst (λ (l : List ℕ). RawLines k on text (code ∷ l) p (ending_events (text.start p) q ++ event Exit k.token_1 q None ∷ []) q []) (sym is)
                  (last e none);
              free = z.free;
              ends = text_ends text q none;
              sees = nothing none;
            }

  -- ---- all lines

  -- what comes of fewer codes than these after a line ending
  abbrev Lines : ℕ → Type 0
  Lines bound = (code : ℕ) (codes : List ℕ) → length codes < bound → length codes < 2 ^ 62 → (c at : Config Flows) (n : Name) (p q : Point) → AtBreak c at n p
      → text.byte (text.start p) ≡ Some (as_byte 10 q) → SeesColumns text q codes → Finished c at n p (code ∷ codes)

  -- from a line's end on
  from_end : (c at : Config Flows) (n : Name) (p : Point) → AtBreak c at n p → text.byte (text.start p) ≡ None → is_feed at.previous ≡ false
      → Finished c at n p []
  from_end c at n p h none apart =
      let z = at_over c at n p (text.start p) h none (ap (λ (b : Bool). if b then at.line_start else text.start p) apart) in record {
        config = z.config;
        size = z.size;
        columns = z.columns;
        inside = event Exit k.token_1 (text.start p) None ∷ [];
        end = p;
        left = [];
        reads = z.reads;
        events = z.events;
        hand = z.hand;
        kept = z.kept;
        map = z.map;
        resolvers = z.resolvers;
        lines = over none;
        free = z.free;
        ends = text_ends text p none;
        sees = nothing none;
      }

  module _ (bound : ℕ) (more : Lines bound) (code : ℕ) (codes : List ℕ) (few : length codes < suc bound) (small : length codes < 2 ^ 62) (c at : Config Flows)
      (n : Name) (p q : Point) (h : AtBreak c at n p) (e : text.byte (text.start p) ≡ Some (as_byte 10 q)) (s : SeesColumns text q codes) where
    abbrev MissedIt : Type 0
    MissedIt = MissedHere c at n p q h e code codes s small

    module _ (m : MissedIt) (next : ℕ) (others : List ℕ) (is : codes ≡ next ∷ others) (open_yet : closes_fence k on (line_of codes) ≡ false) where
      o : Outdented c at n p q h e code codes s small m
      o = outdented c at n p q h e code codes s small m codes refl s

      f : Ended c at n p q h e code codes s small m o (outdent k.space_or_tab_size codes)
      f = line_over c at n p q h e code codes s small m o (outdent k.space_or_tab_size codes) o.sees

      abbrev rest : List ℕ
      rest = after_line (outdent k.space_or_tab_size codes)

      rest_is : rest ≡ after_line codes
      rest_is = after_is c at n p q h e code codes s small m o f

      -- of a line of which nothing is left something is lost
      some_lost : outdent k.space_or_tab_size codes ≡ [] → 0 < lost k codes
      some_lost none = positive (lost k codes) refl
        where
          positive : (i : ℕ) → lost k codes ≡ i → 0 < i
          positive zero z = absurd (let g : next ∷ others ≡ [] = sym is ∙ (ap (λ (i : ℕ). drop i codes) (sym z) ∙ none) in cc)
          positive (suc i) z = omega arith

      apart_is : text.byte (text.start f.r) ≡ None → is_feed f.config.previous ≡ false
      apart_is none = f.apart none (λ empty. o.apart (some_lost empty))

      on_from : (l : List ℕ) → rest ≡ l → SeesColumns text f.r l → Finished f.config f.config steps.before_chunk f.r l
      on_from [] same (ended none) = from_end f.config f.config steps.before_chunk f.r (next_break c at n p q h e code codes s small m o f) none (apart_is none)
      on_from (code2 ∷ codes2) same (along {q = q2} e2 s2) =
          let eol = after_eol codes code2 codes2 (sym rest_is ∙ same) in
          let e3 : text.byte (text.start f.r) ≡ Some (as_byte 10 q2) = e2 ∙ ap (λ (b : ℕ). Some (as_byte b q2)) (seen_eol code2 eol) in
          let within = rest_within is_inner codes in
          let size = ap length (sym rest_is ∙ same) in
          more code2 codes2 (omega (arith, within, size, few)) (omega (arith, within, size, small)) f.config f.config steps.before_chunk f.r q2
          (next_break c at n p q h e code codes s small m o f) e3 s2

      content_on : Finished c at n p (code ∷ codes)
      content_on = extend c at n p q h e code codes s small m o f next others is open_yet
          (subst (λ (l : List ℕ). Finished f.config f.config steps.before_chunk f.r l) rest_is (on_from rest refl f.sees))

    missed_on : (l : List ℕ) → codes ≡ l → SeesColumns text q l → closes_fence k on (line_of codes) ≡ false → MissedIt → Finished c at n p (code ∷ codes)
    missed_on [] is (ended none) open_yet m = last_line c at n p q h e code codes s small m is none
    missed_on (next ∷ others) is seen open_yet m = content_on m next others is open_yet

    by_closing : (is : Bool) → closes_fence k on (line_of codes) ≡ is
        → Outcome x text once k whole fence some (started c at n p q h e) q (next_is c at n p q h e) h.size h.columns h.kept codes small is
        → Finished c at n p (code ∷ codes)
    by_closing true is o = closed c at n p q h e code codes s small is o
    by_closing false is m = missed_on codes refl s is m

    line_on : Finished c at n p (code ∷ codes)
    line_on = by_closing (closes_fence k on (line_of codes)) refl
        (closes_or_not x text once k whole fence some (started c at n p q h e) q (next_is c at n p q h e) h.size h.columns h.kept codes small s)

  lines_of : (bound : ℕ) → Lines bound
  lines_of zero code codes few small c at n p q h e s = absurd (omega (arith, few))
  lines_of (suc bound) code codes few small c at n p q h e s = line_on bound (lines_of bound) code codes few small c at n p q h e s

  -- from the end of a line that isn't empty
  pub over_lines : (codes : List ℕ) → length codes < 2 ^ 62 → (c at : Config Flows) (n : Name) (p : Point) → AtBreak c at n p → is_feed at.previous ≡ false
      → line_of codes ≡ [] → SeesColumns text p codes → Finished c at n p codes
  over_lines [] small c at n p h apart line_is (ended none) = from_end c at n p h none apart
  over_lines (code ∷ codes) small c at n p h apart line_is (along {q = q} e s) =
      let eol = eol_is (is_eol code) refl in
      lines_of (suc (length codes)) code codes (omega arith) (omega (arith, small)) c at n p q h (e ∙ ap (λ (b : ℕ). Some (as_byte b q)) (seen_eol code eol)) s
    where
      eol_is : (b : Bool) → is_eol code ≡ b → b ≡ true
      eol_is true z = refl
      eol_is false z = absurd (let g : code ∷ line_of codes ≡ [] = sym (line_more code codes z) ∙ line_is in cc)

-- ---- from any place

module _ {T : Type 0} (here : InLine T) (once : SkipsOnce here.text) (few : length here.codes < 2 ^ 62) (active : here.config.lazy ≡ false)
    (apart : is_feed here.config.previous ≡ false) (fence : is_fence_byte here.config.tokenize_state.marker ≡ true)
    (some : 0 < here.config.tokenize_state.size) (empty : line here ≡ []) (whole : here.config.tokenize_state.connect ≡ false) where
  abbrev c0 : Config Flows
  c0 = at_hand here

  at_p : AtHand here.text c0 here.place
  at_p = fed here.text (at_point here.place here.config) here.place refl

  looks_at : (l : List ℕ) → here.codes ≡ l → SeesColumns here.text here.place l → run (flows_bodies here.context steps.before_chunk) c0
      ≡ checks (states.Next steps.at_break) (states.Next steps.after) c0 (states.Retry steps.ending)
  looks_at [] is (ended none) = steps.chunk_none here.context c0 (end_at at_p none)
  looks_at (code ∷ codes) is (along {q = q} e s) =
      steps.chunk_line here.context c0 (byte_at at_p (e ∙ ap (λ (b : ℕ). Some (as_byte b q)) (seen_eol code (eol_is (is_eol code) refl))))
    where
      eol_is : (b : Bool) → is_eol code ≡ b → b ≡ true
      eol_is true z = refl
      eol_is false z = absurd (let g : code ∷ line_of codes ≡ [] = sym (ap line_of is ∙ line_more code codes z) ∙ empty in cc)

  lines_here : SeesColumns here.text here.place here.codes → LinesVerdict here
  lines_here s =
      let z = over_lines here.context here.text once here.config.tokenize_state whole fence some c0 (states.Retry steps.before_chunk) raw.before_chunk active
      here.codes few c0 c0 steps.before_chunk here.place (record {
        goes = stays here.context here.text c0 (states.Retry steps.before_chunk);
        state = raw.before_chunk;
        looks = looks_at here.codes refl s;
        same = refl;
        hand = at_p;
        size = here.config.tokenize_state.size_b;
        columns = here.config.tokenize_state.size_c;
        kept = refl;
        map = refl;
        resolvers = refl;
      }) apart empty s in (
        z.config,
        z.size,
        z.columns,
        z.inside,
        z.end,
        z.left,
        z.reads,
        record { events = z.events; at = z.hand; kept = z.kept; map = z.map; resolvers = z.resolvers },
        z.lines,
        z.free,
        z.ends,
        z.sees,
      )

pub raw_flow_lines_verdict : (T : Type 0) → RawFlowLinesVerdict T
raw_flow_lines_verdict T here s whole once few active apart fence some empty = lines_here here once few active apart fence some empty whole s
