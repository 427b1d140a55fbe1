-- What follows an opening fence is read up to the end of the line, unless a backtick follows backticks.
use Rattle.std.proofs.Common.{◌≡◌, ◌∙◌, ℕ, zero, suc, ◌<◌, ◌≤◌, Bool, true, false, not, ◌==◌, ◌&&◌, ◌||◌, if◌then◌else◌, List, [], ◌∷◌, ◌++◌}
use Rattle.std.proofs.Common.{Some, None}
use Rattle.std.proofs.Common.{inl, inr, refl, sym, ap, subst, arith, append_assoc}
use Rattle.state_verdicts.proofs.BlockPrelude.{after_line, and_parts, as_byte, AtHand, bare, byte_of, cases_Bool, Config, Context, event, Event}
use Rattle.state_verdicts.proofs.BlockPrelude.{EventName, feed, Flows}
use Rattle.state_verdicts.proofs.BlockPrelude.{GoesOn, has, is_eol, is_feed, is_space_or_tab, is_white, KeptState, line_of, LineEnds, list_all, Name}
use Rattle.state_verdicts.proofs.BlockPrelude.{no_limit, nothing, or_cases, eqb-true, part, past_byte, plain, Point, retry, run, Sees, SkipsOnce, State, Text}
use Rattle.state_verdicts.proofs.BlockPrelude.{text_byte, tries}
use Rattle.engine_events.specs.declared.event.Kind.TheVariants.{Enter, Exit}
use Rattle.engine_events.specs.declared.event.Name.TheVariants as names
use Rattle.engine_states.specs.declared.state.Block.TheVariants as state_block
use Rattle.engine_states.specs.declared.state.Inline.TheVariants as state_inline
use Rattle.engine_states.specs.declared.state.State.TheVariants as states
use Rattle.state_flow.specs.Flows.{flows_bodies}
use Rattle.state_table.specs.BlockWords.{string_link}
use Rattle.state_flow_leaves.specs.RawFlow.{ends_meta, is_blank_ahead}
use Rattle.state_verdicts.proofs.FenceStates as steps
use Rattle.state_verdicts.proofs.LineCodes.{after_bare, after_more, after_none, line_more, line_none, rest_more, rest_none, weight, weight_bare}
use Rattle.state_verdicts.proofs.LineCodes.{weight_line_bare, weight_some, white_within}
use Rattle.state_verdicts.proofs.Markers.{Marker, swap}
use Rattle.state_verdicts.proofs.Seen.{white_inner}
use Rattle.state_verdicts.proofs.Shown.{Shown, shows}
use Rattle.state_verdicts.proofs.BlockTurns.{and_on, byte_at, does, does_next, end_at, fed, fed_again, feeds, stays, still_at, tried}
use Rattle.state_verdicts.proofs.Standing.{Here}
use Rattle.state_verdicts.proofs.WhiteReads.{attempted, flows_white, spaced}

-- codes that may follow a fence of this byte
abbrev pub may_follow : ℕ → List ℕ → Bool
may_follow m line = list_all (λ b. not (steps.is_bad m b)) line

-- a byte of a fence
pub record FenceByte (m : ℕ) : Type 0 where
  pub itself : (c : ℕ) → (text_byte c == m) ≡ (c == m)
  pub white_apart : (c : ℕ) → is_white c ≡ true → (c == m) ≡ false
  pub no_dollar : (m == 36) ≡ false
  pub no_feed : (m == 10) ≡ false

spaces_white : (b : ℕ) → is_space_or_tab b ≡ true → is_white b ≡ true
spaces_white b h = elim (or_cases (b == 9) (b == 32) h) [
  | inl e ↦ ap is_white (eqb-true b 9 e)
  | inr e ↦ ap is_white (eqb-true b 32 e)
]

pub marker_is : (m : ℕ) → FenceByte m → Marker m
marker_is m fence = record {
  itself = fence.itself;
  no_white = λ b h. fence.white_apart b (spaces_white b h);
  no_feed = swap 10 m ∙ fence.no_feed;
}

module _ (m : ℕ) (fence : FenceByte m) where
  bad_is : (c : ℕ) → steps.is_bad m (text_byte c) ≡ steps.is_bad m c
  bad_is c = ap (λ (b : Bool). b && (m == 96)) (fence.itself c)

  white_good : (c : ℕ) → is_white c ≡ true → steps.is_bad m c ≡ false
  white_good c h = ap (λ (b : Bool). b && (m == 96)) (fence.white_apart c h)

  follow_more : (c : ℕ) (line : List ℕ) (bad : Bool) → steps.is_bad m c ≡ bad → may_follow m (c ∷ line) ≡ (not bad && may_follow m line)
  follow_more c line bad h = ap (λ (b : Bool). not b && may_follow m line) h

  pub follow_bare : (cs : List ℕ) → may_follow m (line_of (bare cs)) ≡ may_follow m (line_of cs)
  follow_bare [] = refl
  follow_bare (c ∷ cs) = elim (cases_Bool (is_white c)) [
    | inl h ↦
        ap (λ (l : List ℕ). may_follow m (line_of l)) (rest_more is_white c cs h)
        ∙ (follow_bare cs ∙ sym (ap (may_follow m) (line_more c cs (white_inner c h)) ∙ follow_more c (line_of cs) false (white_good c h)))
    | inr h ↦ ap (λ (l : List ℕ). may_follow m (line_of l)) (rest_none is_white c cs h)
  ]

module _ {T : Type 0} (x : Context T) (text : Text) (once : SkipsOnce text) (c0 : Config Flows) (es : List Event) (k : KeptState) (whole : k.connect ≡ false)
    (m : ℕ) (fence : FenceByte m) (marker : k.marker ≡ m) where
  -- at a place after the fence, with these events first
  pub record Held (c : Config Flows) (p : Point) : Type 0 where
    pub columns : ℕ
    pub further : List Event
    pub at : AtHand text c p
    pub here : Here text c0 (es ++ further) (spaced columns k) c
    pub apart : is_feed c.previous ≡ false

  byte_is : {c : Config Flows} {p : Point} → Held c p → c.tokenize_state.marker ≡ m
  byte_is h = ap (λ (s : KeptState). s.marker) h.here.kept ∙ marker

  -- with more events
  adds : {c : Config Flows} {p : Point} (added : List Event) → Held c p
      → Held (record c { events = c.events ++ added }) p
  adds added h = record {
    columns = h.columns;
    further = h.further ++ added;
    at = still_at refl refl refl h.at;
    here = record {
      events = ap (λ (l : List Event). l ++ added) h.here.events ∙ append_assoc es h.further added;
      kept = h.here.kept;
      map = h.here.map;
      resolvers = h.here.resolvers;
    };
    apart = h.apart;
  }

  -- over a byte of the line
  passes : {c : Config Flows} {p q : Point} (b : ℕ) → Held c p → text.byte (text.start p) ≡ Some (as_byte b q) → (b == 10) ≡ false
      → Held (feed text (past_byte c)) q
  passes {c} {p} {q} b h e inner = record {
    columns = h.columns;
    further = h.further;
    at = fed text (past_byte c) q (h.at.next (as_byte b q) e);
    here = record { events = h.here.events; kept = h.here.kept; map = h.here.map; resolvers = h.here.resolvers };
    apart = ap is_feed (byte_at h.at e) ∙ inner;
  }

  -- the end of the line is reached, before info
  pub record Well (c : Config Flows) (s : State) (codes : List ℕ) : Type 0 where
    pub config : Config Flows
    pub end : Point
    pub goes : GoesOn x text c s config (retry state_block.RawFlowInfoBefore)
    pub held : Held config end
    pub ends : LineEnds text end
    pub sees : Sees text end (after_line codes)

  abbrev pub Outcome : Bool → Config Flows → State → List ℕ → Type 0
  Outcome true c s codes = Well c s codes
  Outcome false c s codes = (d : Config Flows) × GoesOn x text c s d states.Nok

  pub from_there : (is : Bool) (c d : Config Flows) (s t : State) (codes all_codes : List ℕ) → GoesOn x text c s d t → after_line codes ≡ after_line all_codes
      → Outcome is d t codes → Outcome is c s all_codes
  from_there true c d s t codes all_codes g same o = record {
    config = o.config;
    end = o.end;
    goes = and_on x text g o.goes;
    held = o.held;
    ends = o.ends;
    sees = subst (λ (ds : List ℕ). Sees text o.end ds) same o.sees;
  }
  from_there false c d s t codes all_codes g same (e, o) = (e, and_on x text g o)

  -- ---- at the end of the line

  at_end : (c : Config Flows) (p : Point) → Held c p → text.byte (text.start p) ≡ None
      → Outcome (may_follow m (line_of [])) c (retry state_block.RawFlowInfoBefore) []
  at_end c p h e = record {
    config = c;
    end = p;
    goes = stays x text c (retry state_block.RawFlowInfoBefore);
    held = h;
    ends = ap (λ v. has (λ b. not (b == 10)) (byte_of v)) e;
    sees = nothing e;
  }

  at_eol : (c : Config Flows) (p q : Point) (code : ℕ) (cs : List ℕ) → Held c p → text.byte (text.start p) ≡ Some (as_byte 10 q) → Sees text p (code ∷ cs)
      → is_eol code ≡ true → Outcome (may_follow m (line_of (code ∷ cs))) c (retry state_block.RawFlowInfoBefore) (code ∷ cs)
  at_eol c p q code cs h e s eol =
      subst (λ (is : Bool). Outcome is c (retry state_block.RawFlowInfoBefore) (code ∷ cs)) (sym (ap (may_follow m) (line_none code cs eol))) (record {
        config = c;
        end = p;
        goes = stays x text c (retry state_block.RawFlowInfoBefore);
        held = h;
        ends = ap (λ v. has (λ b. not (b == 10)) (byte_of v)) e;
        sees = subst (λ (ds : List ℕ). Sees text p ds) (sym (after_none code cs eol)) s;
      })

  -- ---- over a byte

  -- what a state comes to by what it does at a byte, and by what comes of it after that
  by_bad : (bad : Bool) (s t : Name) (c d : Config Flows) (code : ℕ) (cs : List ℕ) → is_eol code ≡ false → steps.is_bad m code ≡ bad
      → run (flows_bodies x s) c ≡ (if bad then plain c states.Nok else plain d (states.Next t))
      → Outcome (may_follow m (line_of cs)) (feed text d) (states.Retry t) cs
      → Outcome (may_follow m (line_of (code ∷ cs))) c (states.Retry s) (code ∷ cs)
  by_bad true s t c d code cs inner h e o =
      subst (λ (is : Bool). Outcome is c (states.Retry s) (code ∷ cs))
      (sym (ap (may_follow m) (line_more code cs inner) ∙ follow_more m fence code (line_of cs) true h)) (c, does x text s c c states.Nok e)
  by_bad false s t c d code cs inner h e o =
      subst (λ (is : Bool). Outcome is c (states.Retry s) (code ∷ cs))
      (sym (ap (may_follow m) (line_more code cs inner) ∙ follow_more m fence code (line_of cs) false h))
      (from_there (may_follow m (line_of cs)) c (feed text d) (states.Retry s) (states.Retry t) cs (code ∷ cs) (does_next x text s t c d e)
      (sym (after_more code cs inner)) o)

  -- ---- over white space

  -- what comes of an attempt at white space
  pub by_white : (s t : Name) (c d : Config Flows) (p : Point) (code : ℕ) (cs : List ℕ) → Held d p → Sees text p (code ∷ cs) → is_white code ≡ true
      → weight (line_of (code ∷ cs)) ≤ no_limit
      → run (flows_bodies x s) c ≡ tries (states.Next t) states.Nok (steps.readied d) (part state_inline.SpaceOrTabStart)
      → ((e : Config Flows) (q : Point) → Held e q → Sees text q (bare (code ∷ cs))
      → Outcome (may_follow m (line_of (bare (code ∷ cs)))) e (states.Retry t) (bare (code ∷ cs)))
      → Outcome (may_follow m (line_of (code ∷ cs))) c (states.Retry s) (code ∷ cs)
  by_white s t c d p code cs h sees is room e more =
      let ready : Here text c0 (es ++ h.further) (spaced no_limit k) (steps.readied d) = record {
        events = h.here.events;
        kept = ap (λ (s : KeptState). spaced no_limit s) h.here.kept;
        map = h.here.map;
        resolvers = h.here.resolvers;
      } in
      let indented = white_within (code ∷ cs) in
      let a = attempted (flows_bodies x) (flows_white x) text c0 k (es ++ h.further) no_limit (steps.readied d) p (still_at refl refl refl h.at) ready whole
      code cs sees is
      (omega (arith, indented, room)) in
      let held : Held (feed text a.config) a.end = record {
        columns = a.columns;
        further = (h.further ++ event Enter names.SpaceOrTab (text.start p) None ∷ []) ++ event Exit names.SpaceOrTab (text.start a.end) None ∷ [];
        at = fed_again text a.config a.end once a.there.at;
        here = record {
          events = a.there.here.events ∙ joined h.further (event Enter names.SpaceOrTab (text.start p) None)
              (event Exit names.SpaceOrTab (text.start a.end) None);
          kept = a.there.here.kept;
          map = a.there.here.map;
          resolvers = a.there.here.resolvers;
        };
        apart = a.there.apart;
      } in
      subst (λ (f : Bool). Outcome f c (states.Retry s) (code ∷ cs)) (follow_bare m fence (code ∷ cs))
      (from_there (may_follow m (line_of (bare (code ∷ cs)))) c (feed text a.config) (states.Retry s) (states.Retry t) (bare (code ∷ cs)) (code ∷ cs)
      (and_on x text (tried x text s c (steps.readied d) a.config (states.Next t) states.Nok (part state_inline.SpaceOrTabStart) e a.reads)
      (feeds x text t a.config))
      (after_bare (code ∷ cs)) (more (feed text a.config) a.end held a.sees))
    where
      joined : (l : List Event) (a b : Event) → ((es ++ l) ++ a ∷ []) ++ b ∷ [] ≡ es ++ ((l ++ a ∷ []) ++ b ∷ [])
      joined l a b = simp append_assoc refl

  -- ---- the whole line

  -- what a state comes to before codes of less weight than this
  abbrev Reading : Name → ℕ → Type 0
  Reading s bound = (codes : List ℕ) → weight codes < bound → (c : Config Flows) (p : Point) → Held c p → Sees text p codes → weight (line_of codes) ≤ no_limit
      → Outcome (may_follow m (line_of codes)) c (states.Retry s) codes

  record All (bound : ℕ) : Type 0 where
    pub info_before : Reading steps.info_before bound
    pub info : Reading steps.info bound
    pub meta_before : Reading steps.meta_before bound
    pub meta : Reading steps.meta bound

  begun_info : (c : Config Flows) (p : Point) → Held c p → Held (steps.info_begun c) p
  begun_info c p h = adds (event Enter names.Data c.point (string_link c) ∷ []) (adds (event Enter c.tokenize_state.token_4 c.point None ∷ []) h)

  begun_meta : (c : Config Flows) (p : Point) → Held c p → Held (steps.meta_begun c) p
  begun_meta c p h = adds (event Enter names.Data c.point (string_link c) ∷ []) (adds (event Enter c.tokenize_state.token_5 c.point None ∷ []) h)

  abbrev exit_at : EventName → Config Flows → List Event
  exit_at name c = event Exit name (if is_feed c.previous then c.line_start else c.point) None ∷ []

  ended_info : (c : Config Flows) (p : Point) → Held c p → Held (steps.info_ended c) p
  ended_info c p h = adds (exit_at c.tokenize_state.token_4 c) (adds (exit_at names.Data c) h)

  ended_meta : (c : Config Flows) (p : Point) → Held c p → Held (steps.meta_ended c) p
  ended_meta c p h = adds (exit_at c.tokenize_state.token_5 c) (adds (exit_at names.Data c) h)

  ten_is : {p : Point} (code : ℕ) (cs : List ℕ) (sh : Shown text p code cs) → is_eol code ≡ true → text.byte (text.start p) ≡ Some (as_byte 10 sh.next)
  ten_is code cs sh eol = sh.first ∙ ap (λ (b : ℕ). Some (as_byte b sh.next)) (eqb-true sh.byte 10 (sh.feeds ∙ eol))

  bad_at : {c : Config Flows} {p : Point} (code : ℕ) (cs : List ℕ) (sh : Shown text p code cs) → Held c p
      → steps.is_bad c.tokenize_state.marker sh.byte ≡ steps.is_bad m code
  bad_at code cs sh h = ap (λ (i : ℕ). steps.is_bad i sh.byte) (byte_is h) ∙ ap (λ (b : Bool). b && (m == 96)) (sh.sort (λ b. b == m) fence.itself)

  marked_at : {c : Config Flows} {p : Point} (code : ℕ) (cs : List ℕ) (sh : Shown text p code cs) → Held c p
      → ((sh.byte == c.tokenize_state.marker) && ((c.tokenize_state.marker == 96) || (c.tokenize_state.marker == 36))) ≡ steps.is_bad m code
  marked_at code cs sh h =
      ap (λ (i : ℕ). (sh.byte == i) && ((i == 96) || (i == 36))) (byte_is h)
      ∙ (ap (λ (b : Bool). b && ((m == 96) || (m == 36))) (sh.sort (λ b. b == m) fence.itself)
      ∙ (ap (λ (b : Bool). (code == m) && ((m == 96) || b)) fence.no_dollar ∙ ap (λ (b : Bool). (code == m) && b) (or_false (m == 96))))
    where
      or_false : (i : Bool) → (i || false) ≡ i
      or_false true = refl
      or_false false = refl

  -- from what comes after a code to what comes of it
  from_after : {p : Point} (code : ℕ) (cs : List ℕ) (sh : Shown text p code cs) (d : Config Flows) (t : State)
      → Outcome (may_follow m (line_of sh.after)) d t sh.after → Outcome (may_follow m (line_of cs)) d t cs
  from_after code cs sh d t o =
      subst (λ (f : Bool). Outcome f d t cs) (sh.all (λ b. not (steps.is_bad m b)) (ap not (white_good m fence 256 refl)))
      (from_there (may_follow m (line_of sh.after)) d d t t sh.after cs (stays x text d t) sh.same o)

  -- the end of the line is reached in another state
  to_end : (s : Name) (c d : Config Flows) (codes : List ℕ) → run (flows_bodies x s) c ≡ plain d (retry state_block.RawFlowInfoBefore)
      → Outcome (may_follow m (line_of codes)) d (retry state_block.RawFlowInfoBefore) codes → Outcome (may_follow m (line_of codes)) c (states.Retry s) codes
  to_end s c d codes e o =
      from_there (may_follow m (line_of codes)) c d (states.Retry s) (retry state_block.RawFlowInfoBefore) codes codes
      (does x text s c d (retry state_block.RawFlowInfoBefore) e) refl o

  module _ (bound : ℕ) (all : All bound) where
    bare_less : (code : ℕ) (cs : List ℕ) → is_white code ≡ true → weight (code ∷ cs) < suc bound → weight (bare (code ∷ cs)) < bound
    bare_less code cs is few =
        let e = ap weight (rest_more is_white code cs is) in
        let f = weight_bare cs in
        let s = weight_some code cs in omega (arith, e, f, s, few)

    bare_room : (codes : List ℕ) → weight (line_of codes) ≤ no_limit → weight (line_of (bare codes)) ≤ no_limit
    bare_room codes room = let f = weight_line_bare codes in omega (arith, f, room)

    at_info_before : Reading steps.info_before (suc bound)
    at_info_before [] few c p h (nothing e) room = at_end c p h e
    at_info_before (code ∷ cs) few c p h s room =
        let sh = shows code cs s in elim (cases_Bool (is_eol code)) [
          | inl eol ↦ at_eol c p sh.next code cs h (ten_is code cs sh eol) s eol
          | inr inner ↦
              by_bad (steps.is_bad m code) steps.info_before steps.info c (past_byte (steps.info_begun c)) code cs inner refl
              (steps.info_before_goes x sh.byte c (steps.is_bad m code) (byte_at h.at sh.first) (sh.feeds ∙ inner) (bad_at code cs sh h))
              (from_after code cs sh (feed text (past_byte (steps.info_begun c))) (states.Retry steps.info)
              (all.info sh.after (let l = sh.less in omega (arith, l, few)) (feed text (past_byte (steps.info_begun c))) sh.next
              (passes sh.byte (begun_info c p h) sh.first (sh.feeds ∙ inner)) sh.sees (let r = sh.room inner in omega (arith, r, room))))
        ]

    at_info : Reading steps.info (suc bound)
    at_info [] few c p h (nothing e) room =
        to_end steps.info c (steps.info_ended c) [] (steps.info_none x c (end_at h.at e)) (at_end (steps.info_ended c) p (ended_info c p h) e)
    at_info (code ∷ cs) few c p h s room =
        let sh = shows code cs s in elim (cases_Bool (is_eol code)) [
          | inl eol ↦
              to_end steps.info c (steps.info_ended c) (code ∷ cs) (steps.info_line x c (byte_at h.at (ten_is code cs sh eol)))
              (at_eol (steps.info_ended c) p sh.next code cs (ended_info c p h) (ten_is code cs sh eol) s eol)
          | inr inner ↦ elim (cases_Bool (is_white code)) [
            | inl is ↦
                by_white steps.info steps.meta_before c (steps.info_ended c) p code cs (ended_info c p h) s is room
                (steps.info_white x sh.byte c (byte_at h.at sh.first) (sh.feeds ∙ inner) (sh.white ∙ is))
                (λ e q j t. all.meta_before (bare (code ∷ cs)) (bare_less code cs is few) e q j t (bare_room (code ∷ cs) room))
            | inr black ↦
                by_bad (steps.is_bad m code) steps.info steps.info c (past_byte c) code cs inner refl
                (steps.info_goes x sh.byte c (steps.is_bad m code) (byte_at h.at sh.first) (sh.feeds ∙ inner) (sh.white ∙ black) (bad_at code cs sh h))
                (from_after code cs sh (feed text (past_byte c)) (states.Retry steps.info)
                (all.info sh.after (let l = sh.less in omega (arith, l, few)) (feed text (past_byte c)) sh.next
                (passes sh.byte h sh.first (sh.feeds ∙ inner)) sh.sees (let r = sh.room inner in omega (arith, r, room))))
          ]
        ]

    at_meta_before : Reading steps.meta_before (suc bound)
    at_meta_before [] few c p h (nothing e) room = to_end steps.meta_before c c [] (steps.meta_before_none x c (end_at h.at e)) (at_end c p h e)
    at_meta_before (code ∷ cs) few c p h s room =
        let sh = shows code cs s in elim (cases_Bool (is_eol code)) [
          | inl eol ↦
              to_end steps.meta_before c c (code ∷ cs) (steps.meta_before_line x c (byte_at h.at (ten_is code cs sh eol)))
              (at_eol c p sh.next code cs h (ten_is code cs sh eol) s eol)
          | inr inner ↦
              by_bad (steps.is_bad m code) steps.meta_before steps.meta c (past_byte (steps.meta_begun c)) code cs inner refl
              (steps.meta_before_goes x sh.byte c (steps.is_bad m code) (byte_at h.at sh.first) (sh.feeds ∙ inner) (marked_at code cs sh h))
              (from_after code cs sh (feed text (past_byte (steps.meta_begun c))) (states.Retry steps.meta)
              (all.meta sh.after (let l = sh.less in omega (arith, l, few)) (feed text (past_byte (steps.meta_begun c))) sh.next
              (passes sh.byte (begun_meta c p h) sh.first (sh.feeds ∙ inner)) sh.sees (let r = sh.room inner in omega (arith, r, room))))
        ]

    -- in what follows the info, at a byte
    meta_at : (code : ℕ) (cs : List ℕ) → weight (code ∷ cs) < suc bound → (c : Config Flows) (p : Point) → Held c p → Sees text p (code ∷ cs)
        → weight (line_of (code ∷ cs)) ≤ no_limit → is_eol code ≡ false → Shown text p code cs → (ends : Bool) → ends_meta x.bytes c ≡ ends
        → Outcome (may_follow m (line_of (code ∷ cs))) c (states.Retry steps.meta) (code ∷ cs)
    meta_at code cs few c p h s room inner sh true ends =
        let here = byte_at h.at sh.first in
        let seen : is_space_or_tab sh.byte ≡ true = sym (ap (has is_space_or_tab) here) ∙ (and_parts (has is_space_or_tab c.current)
        (not (has is_space_or_tab c.previous)) (and_parts (has is_space_or_tab c.current && not (has is_space_or_tab c.previous))
        (is_blank_ahead x.bytes c) ends).0).0 in
        let is : is_white code ≡ true = sym sh.white ∙ seen in
        by_white steps.meta steps.info_before c (steps.meta_ended c) p code cs (ended_meta c p h) s is room
        (steps.meta_white x sh.byte c here (sh.feeds ∙ inner) seen ends)
        (λ e q j t. all.info_before (bare (code ∷ cs)) (bare_less code cs is few) e q j t (bare_room (code ∷ cs) room))
    meta_at code cs few c p h s room inner sh false ends =
        by_bad (steps.is_bad m code) steps.meta steps.meta c (past_byte c) code cs inner refl
        (steps.meta_goes x sh.byte c (steps.is_bad m code) (byte_at h.at sh.first) (sh.feeds ∙ inner) ends (marked_at code cs sh h))
        (from_after code cs sh (feed text (past_byte c)) (states.Retry steps.meta)
        (all.meta sh.after (let l = sh.less in omega (arith, l, few)) (feed text (past_byte c)) sh.next
        (passes sh.byte h sh.first (sh.feeds ∙ inner)) sh.sees (let r = sh.room inner in omega (arith, r, room))))

    at_meta : Reading steps.meta (suc bound)
    at_meta [] few c p h (nothing e) room =
        to_end steps.meta c (steps.meta_ended c) [] (steps.meta_none x c (end_at h.at e)) (at_end (steps.meta_ended c) p (ended_meta c p h) e)
    at_meta (code ∷ cs) few c p h s room =
        let sh = shows code cs s in elim (cases_Bool (is_eol code)) [
          | inl eol ↦
              to_end steps.meta c (steps.meta_ended c) (code ∷ cs) (steps.meta_line x c (byte_at h.at (ten_is code cs sh eol)))
              (at_eol (steps.meta_ended c) p sh.next code cs (ended_meta c p h) (ten_is code cs sh eol) s eol)
          | inr inner ↦ meta_at code cs few c p h s room inner sh (ends_meta x.bytes c) refl
        ]

  all_of : (bound : ℕ) → All bound
  all_of zero = record {
    info_before = λ codes few c p h s room. absurd (omega (arith, few));
    info = λ codes few c p h s room. absurd (omega (arith, few));
    meta_before = λ codes few c p h s room. absurd (omega (arith, few));
    meta = λ codes few c p h s room. absurd (omega (arith, few));
  }
  all_of (suc bound) = record {
    info_before = at_info_before bound (all_of bound);
    info = at_info bound (all_of bound);
    meta_before = at_meta_before bound (all_of bound);
    meta = at_meta bound (all_of bound);
  }

  -- before what follows the info
  pub reads_meta : (codes : List ℕ) (c : Config Flows) (p : Point) → Held c p → Sees text p codes → weight (line_of codes) ≤ no_limit
      → Outcome (may_follow m (line_of codes)) c (states.Retry steps.meta_before) codes
  reads_meta codes c p h s room = (all_of (suc (weight codes))).meta_before codes (omega arith) c p h s room

  -- before the info
  pub reads : (codes : List ℕ) (c : Config Flows) (p : Point) → Held c p → Sees text p codes → weight (line_of codes) ≤ no_limit
      → Outcome (may_follow m (line_of codes)) c (states.Retry steps.info_before) codes
  reads codes c p h s room = (all_of (suc (weight codes))).info_before codes (omega arith) c p h s room
