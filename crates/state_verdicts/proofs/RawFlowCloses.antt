-- An attempt at the closing line of code or math reads one where the line closes the fence, and nothing else.
use Rattle.std.proofs.Common.{◌≡◌, ◌∙◌, ℕ, ◌-◌, ◌^◌, ◌<◌, min, Bool, true, false, not, ◌==◌, ◌&&◌, ◌||◌, leb, nat_lt, List, [], ◌∷◌}
use Rattle.std.proofs.Common.{◌++◌, drop, length, length-drop, None, inl, inr, refl, sym, ap, subst, arith, append_assoc}
use Rattle.state_verdicts.proofs.BlockPrelude.{after_line, AtHand, bare, cases_Bool, cases_lt, Config, Context, event, Event, EventName, feed, Flows, GoesOn}
use Rattle.state_verdicts.proofs.BlockPrelude.{handed, has, indent, InLine, is_feed, is_space_or_tab, is_white, KeptState, le-leb, line_of}
use Rattle.state_verdicts.proofs.BlockPrelude.{LineEnds, list_all, lt-leb, lt-ltb, part, Point, Sees, SkipsOnce, Text}
use Rattle.std.proofs.lemmas.List.Sums.{prefix_len-le-length}
use Rattle.definition_text.specs.Runs.{is_run, run as run_length}
use Rattle.engine_events.specs.declared.event.Kind.TheVariants.{Enter, Exit}
use Rattle.engine_events.specs.declared.event.Name.TheVariants as names
use Rattle.engine_states.specs.declared.state.Inline.TheVariants as state_inline
use Rattle.engine_states.specs.declared.state.State.TheVariants as states
use Rattle.markdown_options.specs.declared.configuration.Constructs.{Constructs}
use Rattle.state_flow.specs.Flows.{flows_bodies}
use Rattle.state_table.specs.BlockWords.{indent_max}
use Rattle.state_verdicts.specs.BlockVerdicts.{Reads}
use Rattle.state_verdicts.specs.Columns.{SeesColumns, along, ended}
use Rattle.state_verdicts.specs.RawFlow.{ClosingVerdict, after_fence, closes_fence, closing_events, closing_line, counting, is_fence_byte}
use Rattle.state_verdicts.specs.WhiteSpace.{white_events, white_if}
use Rattle.state_verdicts.proofs.BlockTurns.{and_on, byte_at, does, end_at, fed, feeds, still_at, tried}
use Rattle.state_verdicts.proofs.ClosingReads.{closing_fence_verdict, is_fence}
use Rattle.state_verdicts.proofs.ColumnReads.{TakenIf, attempted}
use Rattle.state_verdicts.proofs.ColumnSees.{columns_sees, columns_start, white_left}
use Rattle.state_verdicts.proofs.LineCodes.{after_bare, indent_line, line_more, line_rest, line_within, prefix_more, prefix_none}
use Rattle.state_verdicts.proofs.Markers.{white_apart}
use Rattle.state_verdicts.proofs.RawFlowStates as steps
use Rattle.state_verdicts.proofs.Seen.{seen_white, white_inner}
use Rattle.state_verdicts.proofs.WhiteReads.{flows_white, spaced}

module _ {T : Type 0} (x : Context T) (text : Text) (once : SkipsOnce text) (k : KeptState) (whole : k.connect ≡ false)
    (fence : is_fence_byte k.marker ≡ true) (some : 0 < k.size) (from : Config Flows) (q : Point) (there : from.point ≡ q) (size columns : ℕ)
    (kept : from.tokenize_state ≡ counting size columns k) (codes : List ℕ) (few : length codes < 2 ^ 62) where
  -- at the start of the line
  abbrev c : Config Flows
  c = feed text from

  at_q : AtHand text c q
  at_q = fed text from q there

  abbrev on : Constructs
  on = x.options.constructs

  -- how many columns the indent may have, and how many of it are gone over
  abbrev most : ℕ
  most = indent_max on.code_indented

  abbrev taken : ℕ
  taken = min most (indent codes)

  -- the closing line is behind
  pub record Closed : Type 0 where
    pub config : Config Flows
    pub size_now : ℕ
    pub columns_now : ℕ
    pub first : Point
    pub mid : Point
    pub end : Point
    pub reads : Reads x text c (states.Retry steps.close) config true
    pub events : config.events ≡ from.events ++ closing_line k codes (text.start q) (text.start first) (text.start mid) (text.start end)
    pub at : AtHand text config end
    pub apart : is_feed config.previous ≡ false
    pub kept_now : config.tokenize_state ≡ counting size_now columns_now k
    pub map : config.map ≡ from.map
    pub resolvers : config.resolvers ≡ from.resolvers
    pub sees_first : SeesColumns text first (bare codes)
    pub sees_mid : Sees text mid (after_fence k codes)
    pub ends : LineEnds text end
    pub sees : Sees text end (after_line codes)

  -- the line is none
  pub record Missed : Type 0 where
    pub config : Config Flows
    pub size_now : ℕ
    pub columns_now : ℕ
    pub reads : Reads x text c (states.Retry steps.close) config false
    pub kept_now : config.tokenize_state ≡ counting size_now columns_now k
    pub map : config.map ≡ from.map
    pub resolvers : config.resolvers ≡ from.resolvers

  abbrev pub Outcome : Bool → Type 0
  Outcome true = Closed
  Outcome false = Missed

  -- ---- over the indent

  -- the indent is behind
  record Indented : Type 0 where
    pub config : Config Flows
    pub columns_now : ℕ
    pub goes : GoesOn x text c (states.Retry steps.close) (handed text config config.point) (states.Retry steps.before_close)
    pub events : config.events ≡ from.events
        ++ (event Enter k.token_2 (text.start q) None ∷ white_if (nat_lt 0 taken) (text.start q) (text.start config.point))
    pub kept_now : config.tokenize_state ≡ counting size columns_now k
    pub map : config.map ≡ from.map
    pub resolvers : config.resolvers ≡ from.resolvers
    pub sees : SeesColumns text config.point (drop taken codes)

  -- the events before the indent
  abbrev entered : List Event
  entered = from.events ++ event Enter k.token_2 (text.start q) None ∷ []

  entered_is : from.events ++ event Enter from.tokenize_state.token_2 (text.start from.point) None ∷ [] ≡ entered
  entered_is =
      ap (λ (n : EventName). from.events ++ event Enter n (text.start from.point) None ∷ []) (ap (λ (s : KeptState). s.token_2) kept)
      ∙ ap (λ (r : Point). from.events ++ event Enter k.token_2 (text.start r) None ∷ []) there

  -- there is none
  at_once : SeesColumns text q codes → indent codes ≡ 0 → has is_space_or_tab c.current ≡ false → Indented
  at_once s none black =
      let count : taken ≡ 0 = omega (arith, none) in record {
        config = record from { events = from.events ++ event Enter from.tokenize_state.token_2 (text.start from.point) None ∷ [] };
        columns_now = columns;
        goes = does x text steps.close c (steps.closing c) (states.Retry steps.before_close) (steps.close_black x c black);
        events = entered_is ∙ ap (λ (i : ℕ). from.events
            ++ (event Enter k.token_2 (text.start q) None ∷ white_if (nat_lt 0 i) (text.start q) (text.start from.point))) (sym count);
        kept_now = kept;
        map = refl;
        resolvers = refl;
        sees = subst (λ (r : Point). SeesColumns text r (drop taken codes)) (sym there)
            (subst (λ (i : ℕ). SeesColumns text q (drop i codes)) (sym count) s);
      }

  three : (l : List Event) (a b e : Event) → ((l ++ a ∷ []) ++ b ∷ []) ++ e ∷ [] ≡ l ++ (a ∷ b ∷ e ∷ [])
  three l a b e = simp append_assoc refl

  -- what is kept where the indent begins
  abbrev k1 : KeptState
  k1 = from.tokenize_state

  abbrev es : List Event
  es = from.events ++ event Enter k1.token_2 c.point None ∷ []

  abbrev ready : Config Flows
  ready = steps.with_most most (steps.closing c)

  over_it : nat_lt 0 taken ≡ true → has is_space_or_tab c.current ≡ true
      → TakenIf (flows_bodies x) (flows_white x) text c k1 true es ready q most codes → Indented
  over_it indented white o =
      let there_now : text.start o.config.point ≡ text.start o.end = ap text.start o.at.point ∙ once o.end in record {
        config = o.config;
        columns_now = most - taken;
        goes = and_on x text (tried x text steps.close c ready o.config (states.Next steps.before_close) states.Nok (part state_inline.SpaceOrTabStart)
            (steps.close_white x c white) o.reads) (feeds x text steps.before_close o.config);
        events = o.here.events
            ∙ (ap (λ (l : List Event). (l ++ event Enter names.SpaceOrTab (text.start q) None ∷ []) ++ event Exit names.SpaceOrTab (text.start o.end) None ∷ [])
            entered_is
            ∙ (three from.events (event Enter k.token_2 (text.start q) None) (event Enter names.SpaceOrTab (text.start q) None)
            (event Exit names.SpaceOrTab (text.start o.end) None)
            ∙ (ap (λ (r : Point). from.events ++ (event Enter k.token_2 (text.start q) None ∷ white_if true (text.start q) r)) (sym there_now)
            ∙ ap (λ (b : Bool). from.events
            ++ (event Enter k.token_2 (text.start q) None ∷ white_if b (text.start q) (text.start o.config.point))) (sym indented))));
        kept_now = o.here.kept ∙ ap (spaced (most - taken)) kept;
        map = o.here.map;
        resolvers = o.here.resolvers;
        sees = subst (λ (r : Point). SeesColumns text r (drop taken codes)) (sym o.at.point) (columns_start once o.sees);
      }

  some_may : 0 < most
  some_may = some_by on.code_indented
    where
      some_by : (b : Bool) → 0 < indent_max b
      some_by true = omega arith
      some_by false = omega arith

  over_indent : (l : List ℕ) → codes ≡ l → SeesColumns text q l → Indented
  over_indent [] is (ended e) =
      at_once (subst (λ (l : List ℕ). SeesColumns text q l) (sym is) (ended e)) (ap indent is) (ap (has is_space_or_tab) (end_at at_q e))
  over_indent (code ∷ cs) is (along e s) = elim (cases_Bool (is_white code)) [
    | inl white ↦
        let all = ap indent is in
        let first = prefix_more is_white code cs white in
        let least = some_may in
        let indented : nat_lt 0 taken ≡ true = lt-ltb 0 taken (omega (arith, all, first, least)) in
        over_it indented (ap (has is_space_or_tab) (byte_at at_q e) ∙ (seen_white code ∙ white))
        (subst (λ (b : Bool). TakenIf (flows_bodies x) (flows_white x) text c k1 b es ready q most codes) indented
        (attempted (flows_bodies x) (flows_white x) text c k1 es most ready q (still_at refl refl refl at_q)
        (record { events = refl; kept = refl; map = refl; resolvers = refl }) (ap (λ (s : KeptState). s.connect) kept ∙ whole) codes
        (subst (λ (l : List ℕ). SeesColumns text q l) (sym is) (along e s))))
    | inr black ↦
        at_once (subst (λ (l : List ℕ). SeesColumns text q l) (sym is) (along e s)) (ap indent is ∙ prefix_none is_white code cs black)
        (ap (has is_space_or_tab) (byte_at at_q e) ∙ (seen_white code ∙ black))
  ]

  -- ---- what the definition says

  -- after the columns that were gone over, the line is a closing fence exactly if it closes the fence; then these were the whole indent
  record Agrees : Type 0 where
    pub same : is_run k.size k.marker (line_of (drop taken codes)) ≡ closes_fence k on (line_of codes)
    pub all : closes_fence k on (line_of codes) ≡ true → taken ≡ indent codes

  -- the whole indent was gone over
  agrees : leb (indent codes) 3 || not on.code_indented ≡ true → taken ≡ indent codes → Agrees
  agrees small all = record {
    same = ap (λ (i : ℕ). is_run k.size k.marker (line_of (drop i codes))) all ∙ (ap (is_run k.size k.marker) (line_rest is_white white_inner codes)
        ∙ sym (ap (λ (b : Bool). b && is_run k.size k.marker (bare (line_of codes)))
        (ap (λ (i : ℕ). leb i 3 || not on.code_indented) (indent_line codes) ∙ small)));
    all = λ e. all;
  }

  white_starts : (code : ℕ) (cs : List ℕ) → is_white code ≡ true → is_run k.size k.marker (line_of (code ∷ cs)) ≡ false
  white_starts code cs white =
      ap (is_run k.size k.marker) (line_more code cs (white_inner code white))
      ∙ (ap (λ (i : ℕ). leb k.size i && list_all is_white (drop i (code ∷ line_of cs)))
      (prefix_none (λ b. b == k.marker) code (line_of cs) (white_apart k.marker (is_fence k.marker fence).marker code white))
      ∙ ap (λ (b : Bool). b && list_all is_white (code ∷ line_of cs)) (lt-leb k.size 0 some))

  agrees_by : (code_indented : Bool) → on.code_indented ≡ code_indented → Agrees
  agrees_by false off =
      let within = line_within codes in
      let least = prefix_len-le-length is_white (line_of codes) in
      let same = indent_line codes in
      let limit : most ≡ 2 ^ 64 - 1 = ap indent_max off in
      agrees (or_true (leb (indent codes) 3) (not on.code_indented) (ap not off)) (omega (arith, within, least, same, limit, few))
    where
      or_true : (a b : Bool) → b ≡ true → (a || b) ≡ true
      or_true true b h = refl
      or_true false b h = h
  agrees_by true is_on =
      let limit : most ≡ 3 = ap indent_max is_on in
      elim (cases_lt 3 (indent codes)) [
        | inl far ↦
            let small : leb (indent (line_of codes)) 3 || not on.code_indented ≡ false =
            ap (λ (i : ℕ). leb i 3 || not on.code_indented) (indent_line codes)
            ∙ (ap (λ (b : Bool). b || not on.code_indented) (lt-leb (indent codes) 3 far) ∙ ap not is_on) in
            let no : closes_fence k on (line_of codes) ≡ false = ap (λ (b : Bool). b && is_run k.size k.marker (bare (line_of codes))) small in
            let three_taken : taken ≡ 3 = omega (arith, limit, far) in
            let w = white_left 3 codes far in record {
              same = ap (λ (i : ℕ). is_run k.size k.marker (line_of (drop i codes))) three_taken
                  ∙ (ap (λ (l : List ℕ). is_run k.size k.marker (line_of l)) w.is ∙ (white_starts w.code w.rest w.white ∙ sym no));
              all = λ e. absurd (let f : true ≡ false = sym e ∙ no in cc);
            }
        | inr near ↦ agrees (ap (λ (b : Bool). b || not on.code_indented) (le-leb (indent codes) 3 near)) (omega (arith, limit, near))
      ]

  -- ---- after the indent

  module _ (i : Indented) where
    abbrev here : InLine T
    here = record { context = x; text = text; config = i.config; place = i.config.point; codes = drop taken codes }

    verdict : ClosingVerdict here (is_run k.size k.marker (line_of (drop taken codes)))
    verdict =
        subst (λ (b : Bool). ClosingVerdict here b) (ap (λ (s : KeptState). is_run s.size s.marker (line_of (drop taken codes))) i.kept_now)
        (closing_fence_verdict T here (columns_sees i.sees) once
        (let within = line_within (drop taken codes) in let less = length-drop taken codes in omega (arith, within, less, few))
        (ap (λ (s : KeptState). s.connect) i.kept_now ∙ whole) (ap (λ (s : KeptState). is_fence_byte s.marker) i.kept_now ∙ fence)
        (subst (λ (s : KeptState). 0 < s.size) (sym i.kept_now) some))

    regroup : (l : List Event) (a : Event) (y z : List Event) → (l ++ (a ∷ y)) ++ z ≡ l ++ (a ∷ (y ++ z))
    regroup l a y z = simp append_assoc refl

    by_verdict : (is : Bool) → (is ≡ true → taken ≡ indent codes) → ClosingVerdict here is → Outcome is
    by_verdict true all (d, columns_now, mid, end, reads, leaves, apart, sees_mid, ends, sees) =
        let count = all refl in
        let rest : drop taken codes ≡ bare codes = ap (λ (j : ℕ). drop j codes) count in
        let after_is : drop (run_length i.config.tokenize_state.marker (line_of (drop taken codes))) (drop taken codes) ≡ after_fence k codes =
        ap (λ (s : KeptState). drop (run_length s.marker (line_of (drop taken codes))) (drop taken codes)) i.kept_now
        ∙ ap (λ (l : List ℕ). drop (run_length k.marker (line_of l)) l) rest in record {
          config = d;
          size_now = run_length i.config.tokenize_state.marker (line_of (drop taken codes));
          columns_now = columns_now;
          first = i.config.point;
          mid = mid;
          end = end;
          reads = i.goes.there d true reads;
          events = leaves.events
              ∙ (ap (λ (s : KeptState). i.config.events ++ closing_events s
              (drop (run_length i.config.tokenize_state.marker (line_of (drop taken codes))) (drop taken codes))
              (text.start i.config.point) (text.start mid) (text.start end)) i.kept_now
              ∙ (ap (λ (l : List ℕ). i.config.events ++ closing_events k l (text.start i.config.point) (text.start mid) (text.start end)) after_is
              ∙ (ap (λ (l : List Event). l ++ closing_events k (after_fence k codes) (text.start i.config.point) (text.start mid) (text.start end))
              (i.events ∙ ap (λ (j : ℕ). from.events
              ++ (event Enter k.token_2 (text.start q) None ∷ white_if (nat_lt 0 j) (text.start q) (text.start i.config.point))) count)
              ∙ regroup from.events (event Enter k.token_2 (text.start q) None) (white_events codes (text.start q) (text.start i.config.point))
              (closing_events k (after_fence k codes) (text.start i.config.point) (text.start mid) (text.start end)))));
          at = leaves.at;
          apart = apart;
          kept_now = leaves.kept
              ∙ ap (counting (run_length i.config.tokenize_state.marker (line_of (drop taken codes))) columns_now) i.kept_now;
          map = leaves.map ∙ i.map;
          resolvers = leaves.resolvers ∙ i.resolvers;
          sees_first = subst (λ (l : List ℕ). SeesColumns text i.config.point l) rest i.sees;
          sees_mid = subst (λ (l : List ℕ). Sees text mid l) after_is sees_mid;
          ends = ends;
          sees = subst (λ (l : List ℕ). Sees text end l) (ap after_line rest ∙ after_bare codes) sees;
        }
    by_verdict false all (d, reads, left) = record {
      config = d;
      size_now = left.size;
      columns_now = left.columns;
      reads = i.goes.there d false reads;
      kept_now = left.kept ∙ ap (counting left.size left.columns) i.kept_now;
      map = left.map ∙ i.map;
      resolvers = left.resolvers ∙ i.resolvers;
    }

  pub closes_or_not : SeesColumns text q codes → Outcome (closes_fence k on (line_of codes))
  closes_or_not s =
      let i = over_indent codes refl s in
      let a = agrees_by on.code_indented refl in
      by_verdict i (closes_fence k on (line_of codes)) a.all (subst (λ (b : Bool). ClosingVerdict (here i) b) a.same (verdict i))
