-- What follows the info of a fence is read as one string, without the white space at its end.
use Rattle.std.proofs.Common.{◌≡◌, ◌∙◌, ℕ, zero, suc, ◌+◌, ◌<◌, ◌≤◌, Bool, true, false, not, ◌==◌, ◌&&◌, ◌||◌, nat_lt, List, [], ◌∷◌, ◌++◌, drop}
use Rattle.std.proofs.Common.{Some, None, inl, inr, refl, sym, ap, subst, arith, append_assoc, append-nil}
use Rattle.state_verdicts.proofs.BlockPrelude.{after_line, and_parts, as_byte, AtHand, bare, byte, byte_of, cases_Bool, Config, Context, event, Event}
use Rattle.state_verdicts.proofs.BlockPrelude.{EventName, feed, Flows, GoesOn, has, indent, is_eol, is_feed, is_space_or_tab, is_white, KeptState, line_of}
use Rattle.state_verdicts.proofs.BlockPrelude.{LineEnds, list_all, lt-ltb, Name, no_limit, nothing, part, past_byte, Point, prefix_len, retry, run, Sees}
use Rattle.state_verdicts.proofs.BlockPrelude.{SkipsOnce, State, tab, Text, tries, eqb-true, plain}
use Rattle.engine_events.specs.declared.event.Content.TheVariants as contents
use Rattle.engine_events.specs.declared.event.Kind.TheVariants.{Enter, Exit}
use Rattle.engine_events.specs.declared.event.Name.TheVariants as names
use Rattle.engine_states.specs.declared.state.Block.TheVariants as state_block
use Rattle.engine_states.specs.declared.state.Inline.TheVariants as state_inline
use Rattle.engine_states.specs.declared.state.State.TheVariants as states
use Rattle.state_flow.specs.Flows.{flows_bodies}
use Rattle.state_flow_leaves.specs.RawFlow.{ends_meta, is_blank_ahead}
use Rattle.state_table.specs.BlockWords.{chunk_of}
use Rattle.state_verdicts.specs.CodeFenced.{FurtherAt, MetaAt, Words, further, is_word, more, none, one, string, string_events}
use Rattle.state_verdicts.specs.Stretch.{Stretch, ended, longer}
use Rattle.state_verdicts.specs.TextBlank.{ShowsBlank}
use Rattle.state_verdicts.specs.WhiteSpace.{white_if}
use Rattle.state_verdicts.proofs.BlockTurns.{and_on, byte_at, does, does_next, end_at, fed, fed_again, feeds, still_at, tried}
use Rattle.state_verdicts.proofs.FenceRest.{Rest, Stood}
use Rattle.state_verdicts.proofs.FenceStates as steps
use Rattle.state_verdicts.proofs.LineCodes.{after_bare, after_more, after_none, bare_apart, blank_bare, line_more}
use Rattle.state_verdicts.proofs.LineCodes.{line_none, none_white, prefix_more, prefix_none}
use Rattle.state_verdicts.proofs.LineCodes.{rest_more, rest_none, weight, weight_line_bare, white_within}
use Rattle.state_verdicts.proofs.Markers.{Marker, flop, white_apart}
use Rattle.state_verdicts.proofs.Seen.{seen_feed, seen_white, white_inner}
use Rattle.state_verdicts.proofs.Shown.{Shown, shows}
use Rattle.state_verdicts.proofs.Standing.{Here, exits, fed_here, past_here}
use Rattle.state_verdicts.proofs.Stretches.{part_seen, sight}
use Rattle.state_verdicts.proofs.WhiteReads.{Attempted, Whites, attempted, flows_white, spaced}
use Rattle.state_verdicts.proofs.WhiteReads as white

-- ---- white space and the end of the line

abbrev is_blank_line : List ℕ → Bool
is_blank_line codes = list_all is_white (line_of codes)

-- white space up to a place where there is none is a stretch of it
stretched : {text : Text} {p q : Point} → Whites text p q → has is_space_or_tab (byte_of (text.byte (text.start q))) ≡ false
    → (n : ℕ) × Stretch text is_space_or_tab n p q
stretched white.none stop = (0, ended stop)
stretched (white.one e h w) stop = let r = stretched w stop in (r.0 + 1, longer e h r.1)

-- where no white space is seen there is none
no_white : {text : Text} {p : Point} (codes : List ℕ) → Sees text p codes → indent codes ≡ 0
    → has is_space_or_tab (byte_of (text.byte (text.start p))) ≡ false
no_white [] (nothing e) h = ap (λ v. has is_space_or_tab (byte_of v)) e
no_white (code ∷ cs) (byte apart e s) h = ap (λ v. has is_space_or_tab (byte_of v)) e ∙ (seen_white code ∙ none_white code cs h)
no_white (code ∷ cs) (tab most e f s) h = absurd (let g : true ≡ false = none_white 9 cs h in cc)

-- after the white space the line ends in the text exactly if it is blank
ends_by : {text : Text} {p : Point} (codes : List ℕ) → Sees text p codes → indent codes ≡ 0
    → not (has (λ b. not (b == 10)) (byte_of (text.byte (text.start p)))) ≡ is_blank_line codes
ends_by [] (nothing e) h = ap (λ v. not (has (λ b. not (b == 10)) (byte_of v))) e
ends_by (code ∷ cs) (byte apart e s) h = elim (cases_Bool (is_eol code)) [
  | inl eol ↦ ap (λ v. not (has (λ b. not (b == 10)) (byte_of v))) e ∙ (ap (λ (b : Bool). not (not b)) (seen_feed code ∙ eol)
      ∙ sym (ap (list_all is_white) (line_none code cs eol)))
  | inr inner ↦ ap (λ v. not (has (λ b. not (b == 10)) (byte_of v))) e ∙ (ap (λ (b : Bool). not (not b)) (seen_feed code ∙ inner)
      ∙ sym (ap (list_all is_white) (line_more code cs inner) ∙ ap (λ (b : Bool). b && list_all is_white (line_of cs)) (none_white code cs h)))
]
ends_by (code ∷ cs) (tab most e f s) h = absurd (let g : true ≡ false = none_white 9 cs h in cc)

-- so it ends there
line_ends : {text : Text} {p : Point} (codes : List ℕ) → Sees text p codes → indent codes ≡ 0 → is_blank_line codes ≡ true → LineEnds text p
line_ends {text} {p} codes s h blank = flop (has (λ b. not (b == 10)) (byte_of (text.byte (text.start p)))) (ends_by codes s h ∙ blank)

-- nothing is left of it then
nothing_left : (codes : List ℕ) → indent codes ≡ 0 → is_blank_line codes ≡ true → codes ≡ after_line codes
nothing_left [] h blank = refl
nothing_left (code ∷ cs) h blank = elim (cases_Bool (is_eol code)) [
  | inl eol ↦ sym (after_none code cs eol)
  | inr inner ↦
      let filled : is_blank_line (code ∷ cs) ≡ false =
      ap (list_all is_white) (line_more code cs inner) ∙ ap (λ (b : Bool). b && list_all is_white (line_of cs)) (none_white code cs h) in
      absurd (let f : true ≡ false = sym blank ∙ filled in cc)
]

-- of white space, as it is seen
sight_indent : (text : Text) (codes : List ℕ) → prefix_len (sight text is_space_or_tab) codes ≡ indent codes
sight_indent text [] = refl
sight_indent text (c ∷ cs) = elim (cases_Bool (is_white c)) [
  | inl h ↦
      let a = prefix_more (sight text is_space_or_tab) c cs (seen_white c ∙ h) in
      let b = prefix_more is_white c cs h in
      let r = sight_indent text cs in omega (arith, a, b, r)
  | inr h ↦ prefix_none (sight text is_space_or_tab) c cs (seen_white c ∙ h) ∙ sym (prefix_none is_white c cs h)
]

blank_white : (c : ℕ) (cs : List ℕ) → is_white c ≡ true → is_blank_line (c ∷ cs) ≡ is_blank_line cs
blank_white c cs h = ap (list_all is_white) (line_more c cs (white_inner c h)) ∙ ap (λ (b : Bool). b && list_all is_white (line_of cs)) h

blank_black : (c : ℕ) (cs : List ℕ) → is_eol c ≡ false → is_white c ≡ false → is_blank_line (c ∷ cs) ≡ false
blank_black c cs inner h = ap (list_all is_white) (line_more c cs inner) ∙ ap (λ (b : Bool). b && list_all is_white (line_of cs)) h

-- ---- reading

-- a byte that may not follow a fence of this byte
abbrev pub is_barred : ℕ → ℕ → Bool
is_barred m b = (b == m) && ((m == 96) || (m == 36))

-- codes that may follow it
abbrev pub may_be_meta : ℕ → List ℕ → Bool
may_be_meta m line = list_all (λ b. not (is_barred m b)) line

module _ {T : Type 0} (x : Context T) (text : Text) (once : SkipsOnce text) (blank_shown : ShowsBlank x.bytes text) (c0 : Config Flows) (k : KeptState)
    (whole : k.connect ≡ false) (m : ℕ) (marker : Marker m) (marks : k.marker ≡ m) (column_apart : (256 == m) ≡ false) where
  abbrev name : EventName
  name = k.token_5

  abbrev Standing : List Event → Config Flows → Point → Type 0
  Standing es c p = Stood text c0 k es c p

  -- whether nothing but white space is left of the line, as the state tells it
  blank_is : {c : Config Flows} {p : Point} (code : ℕ) (cs : List ℕ) → AtHand text c p → Sees text p (code ∷ cs) → is_white code ≡ true
      → is_blank_ahead x.bytes c ≡ is_blank_line (code ∷ cs)
  blank_is {c} {p} code cs at s is =
      let sh = shows code cs s in
      let part_is = part_seen text is_space_or_tab refl refl sh.after sh.sees in
      let sees : Sees text part_is.end (bare sh.after) = subst (λ (i : ℕ). Sees text part_is.end (drop i sh.after)) (sight_indent text sh.after) part_is.sees in
      ap (λ (q : Point). is_blank_ahead x.bytes (record c { point = q })) at.point
      ∙ (blank_shown part_is.count sh.byte p sh.next part_is.end sh.first (sh.white ∙ is) part_is.stretch
      ∙ (ends_by (bare sh.after) sees (bare_apart sh.after) ∙ (blank_bare sh.after ∙ (sh.all is_white refl ∙ sym (blank_white code cs is)))))

  -- the end of the line is reached, and the string ended before it
  record Read (es : List Event) (c : Config Flows) (s : State) (from : Point) (codes : List ℕ) : Type 0 where
    pub config : Config Flows
    pub columns : ℕ
    pub mid : Point
    pub end : Point
    pub count : ℕ
    pub goes : GoesOn x text c s config (retry state_block.RawFlowInfoBefore)
    pub words : Words text from mid
    pub stretch : Stretch text is_space_or_tab count mid end
    pub at : AtHand text config end
    pub here : Here text c0 (es ++ (event Exit names.Data (text.start mid) None ∷ event Exit name (text.start mid) None
        ∷ white_if (nat_lt 0 count) (text.start mid) (text.start end))) (spaced columns k) config
    pub apart : is_feed config.previous ≡ false
    pub ends : LineEnds text end
    pub sees : Sees text end (after_line codes)

  two : (l : List Event) (a b : Event) → (l ++ a ∷ []) ++ b ∷ [] ≡ l ++ (a ∷ b ∷ [])
  two l a b = simp append_assoc refl

  four : (l : List Event) (a b e f : Event) → ((l ++ (a ∷ b ∷ [])) ++ e ∷ []) ++ f ∷ [] ≡ l ++ (a ∷ b ∷ e ∷ f ∷ [])
  four l a b e f = simp append_assoc refl

  -- the string ends here
  left_off : {es : List Event} {c : Config Flows} {p : Point} → Standing es c p
      → Standing (es ++ (event Exit names.Data (text.start p) None ∷ event Exit name (text.start p) None ∷ [])) (steps.meta_ended c) p
  left_off {es} {c} {p} h =
      let f = exits text c0 names.Data h.here h.apart h.at.point in
      let g = exits text c0 c.tokenize_state.token_5 f h.apart h.at.point in record {
        columns = h.columns;
        at = still_at refl refl refl h.at;
        here = record {
          events = g.events ∙ (ap (λ (s : KeptState). (es ++ event Exit names.Data (text.start p) None ∷ []) ++ event Exit s.token_5 (text.start p) None ∷ [])
              h.here.kept
              ∙ two es (event Exit names.Data (text.start p) None) (event Exit name (text.start p) None));
          kept = g.kept;
          map = g.map;
          resolvers = g.resolvers;
        };
        apart = h.apart;
      }

  -- at the end of the line
  at_once : {es : List Event} {c : Config Flows} {from p : Point} (codes : List ℕ) → Standing es c p → Words text from p → LineEnds text p
      → has is_space_or_tab (byte_of (text.byte (text.start p))) ≡ false → Sees text p (after_line codes)
      → run (flows_bodies x steps.meta) c ≡ plain (steps.meta_ended c) (retry state_block.RawFlowInfoBefore)
      → Read es c (states.Retry steps.meta) from codes
  at_once {es} {c} {from} {p} codes h words at_end stop sees does_it = let l = left_off h in record {
    config = steps.meta_ended c;
    columns = l.columns;
    mid = p;
    end = p;
    count = 0;
    goes = does x text steps.meta c (steps.meta_ended c) (retry state_block.RawFlowInfoBefore) does_it;
    words = words;
    stretch = ended stop;
    at = l.at;
    here = l.here;
    apart = l.apart;
    ends = at_end;
    sees = sees;
  }

  -- at the white space before the end of the line
  at_white : {es : List Event} {c : Config Flows} {from p : Point} (b code : ℕ) (cs : List ℕ) → Standing es c p → Words text from p → c.current ≡ Some b
      → (b == 10) ≡ false → is_space_or_tab b ≡ true → is_white code ≡ true → ends_meta x.bytes c ≡ true → Sees text p (code ∷ cs)
      → is_blank_line (code ∷ cs) ≡ true → weight (line_of (code ∷ cs)) ≤ no_limit → Read es c (states.Retry steps.meta) from (code ∷ cs)
  at_white {es} {c} {from} {p} b code cs h words here_is line seen is ends sees blank room =
      let l = left_off h in
      let told = es ++ (event Exit names.Data (text.start p) None ∷ event Exit name (text.start p) None ∷ []) in
      let most = white_within (code ∷ cs) in
      let a = attempted (flows_bodies x) (flows_white x) text c0 k told no_limit (steps.readied (steps.meta_ended c)) p (still_at refl refl refl l.at)
      (record { events = l.here.events; kept = ap (spaced no_limit) l.here.kept; map = l.here.map; resolvers = l.here.resolvers }) whole code cs sees is
      (omega (arith, most, room)) in
      let stop = no_white (bare (code ∷ cs)) a.sees (bare_apart (code ∷ cs)) in
      let st = stretched a.stretch stop in record {
        config = feed text a.config;
        columns = a.columns;
        mid = p;
        end = a.end;
        count = st.0 + 1;
        goes = and_on x text (tried x text steps.meta c (steps.readied (steps.meta_ended c)) a.config (states.Next steps.info_before) states.Nok
            (part state_inline.SpaceOrTabStart) (steps.meta_white x b c here_is line seen ends) a.reads) (feeds x text steps.info_before a.config);
        words = words;
        stretch = longer a.first a.white st.1;
        at = fed_again text a.config a.end once a.there.at;
        here = record {
          events = a.there.here.events
              ∙ (four es (event Exit names.Data (text.start p) None) (event Exit name (text.start p) None) (event Enter names.SpaceOrTab (text.start p) None)
              (event Exit names.SpaceOrTab (text.start a.end) None)
              ∙ ap (λ (i : Bool). es ++ (event Exit names.Data (text.start p) None ∷ event Exit name (text.start p) None
              ∷ white_if i (text.start p) (text.start a.end))) (sym (lt-ltb 0 (st.0 + 1) (omega arith))));
          kept = a.there.here.kept;
          map = a.there.here.map;
          resolvers = a.there.here.resolvers;
        };
        apart = a.there.apart;
        ends = line_ends (bare (code ∷ cs)) a.sees (bare_apart (code ∷ cs)) (blank_bare (code ∷ cs) ∙ blank);
        sees = subst (λ (ds : List ℕ). Sees text a.end ds) (nothing_left (bare (code ∷ cs)) (bare_apart (code ∷ cs)) (blank_bare (code ∷ cs) ∙ blank)
            ∙ after_bare (code ∷ cs)) a.sees;
      }

  -- over a byte
  passes : {es : List Event} {c : Config Flows} {p q : Point} (b : ℕ) → Standing es c p → text.byte (text.start p) ≡ Some (as_byte b q) → (b == 10) ≡ false
      → Standing es (feed text (past_byte c)) q
  passes {c = c} {q = q} b h e line = record {
    columns = h.columns;
    at = fed text (past_byte c) q (h.at.next (as_byte b q) e);
    here = fed_here text c0 (past_here text c0 h.here);
    apart = ap is_feed (byte_at h.at e) ∙ line;
  }

  on_from : {es : List Event} {c d : Config Flows} {s t : State} {from : Point} (codes all_codes : List ℕ) → GoesOn x text c s d t
      → after_line codes ≡ after_line all_codes → Read es d t from codes → Read es c s from all_codes
  on_from codes all_codes g same o = record {
    config = o.config;
    columns = o.columns;
    mid = o.mid;
    end = o.end;
    count = o.count;
    goes = and_on x text g o.goes;
    words = o.words;
    stretch = o.stretch;
    at = o.at;
    here = o.here;
    apart = o.apart;
    ends = o.ends;
    sees = subst (λ (ds : List ℕ). Sees text o.end ds) same o.sees;
  }

  -- a code that may follow
  follows : (code : ℕ) (cs : List ℕ) → is_eol code ≡ false → may_be_meta m (line_of (code ∷ cs)) ≡ true
      → (is_barred m code ≡ false) × (may_be_meta m (line_of cs) ≡ true)
  follows code cs inner h =
      let both = and_parts (not (is_barred m code)) (may_be_meta m (line_of cs)) (sym (ap (may_be_meta m) (line_more code cs inner)) ∙ h) in
      (flop (is_barred m code) both.0, both.1)

  -- white space may follow
  white_may : (code : ℕ) → is_white code ≡ true → is_barred m code ≡ false
  white_may code is = ap (λ (b : Bool). b && ((m == 96) || (m == 36))) (white_apart m marker code is)

  barred_is : {es : List Event} {c : Config Flows} {p : Point} (code : ℕ) (cs : List ℕ) (sh : Shown text p code cs) → Standing es c p
      → ((sh.byte == c.tokenize_state.marker) && ((c.tokenize_state.marker == 96) || (c.tokenize_state.marker == 36))) ≡ is_barred m code
  barred_is code cs sh h =
      ap (λ (i : ℕ). (sh.byte == i) && ((i == 96) || (i == 36))) (ap (λ (s : KeptState). s.marker) h.here.kept ∙ marks)
      ∙ ap (λ (b : Bool). b && ((m == 96) || (m == 36))) (sh.sort (λ b. b == m) marker.itself)

  barred_at : {es : List Event} {c : Config Flows} {p : Point} (code : ℕ) (cs : List ℕ) (sh : Shown text p code cs) → Standing es c p
      → is_barred m code ≡ false
      → ((sh.byte == c.tokenize_state.marker) && ((c.tokenize_state.marker == 96) || (c.tokenize_state.marker == 36))) ≡ false
  barred_at code cs sh h good = barred_is code cs sh h ∙ good

  follow_after : {p : Point} (code : ℕ) (cs : List ℕ) (sh : Shown text p code cs) → may_be_meta m (line_of cs) ≡ true → may_be_meta m (line_of sh.after) ≡ true
  follow_after code cs sh h =
      sh.all (λ b. not (is_barred m b)) (ap (λ (b : Bool). not (b && ((m == 96) || (m == 36)))) column_apart) ∙ h

  -- Within the string, from a place on. Where the byte before is no white space the string may end; where it is, more than white space follows.
  abbrev Reading : ℕ → Type 0
  Reading bound = (codes : List ℕ) → weight codes < bound → (es : List Event) (c : Config Flows) (from p : Point) → Standing es c p → Sees text p codes
      → may_be_meta m (line_of codes) ≡ true → weight (line_of codes) ≤ no_limit → ((r : Point) → Words text p r → Words text from r) → (spaces : Bool)
      → has is_space_or_tab c.previous ≡ spaces → (spaces ≡ false → Words text from p) → (spaces ≡ true → is_blank_line codes ≡ false)
      → Read es c (states.Retry steps.meta) from codes

  module _ (bound : ℕ) (reads : Reading bound) (code : ℕ) (cs : List ℕ) (few : weight (code ∷ cs) < suc bound) (es : List Event) (c : Config Flows)
      (from p : Point) (h : Standing es c p) (s : Sees text p (code ∷ cs)) (follow : may_be_meta m (line_of (code ∷ cs)) ≡ true)
      (room : weight (line_of (code ∷ cs)) ≤ no_limit) (lead : (r : Point) → Words text p r → Words text from r) (inner : is_eol code ≡ false) where
    sh : Shown text p code cs
    sh = shows code cs s

    line : (sh.byte == 10) ≡ false
    line = sh.feeds ∙ inner

    both : (is_barred m code ≡ false) × (may_be_meta m (line_of cs) ≡ true)
    both = follows code cs inner follow

    word_is : is_white code ≡ false → is_word sh.byte ≡ true
    word_is black = ap not (ap (λ (b : Bool). b || (sh.byte == 10)) (sh.white ∙ black) ∙ line)

    -- over this byte
    over_it : ends_meta x.bytes c ≡ false → (is_white code ≡ true → is_blank_line cs ≡ false) → Read es c (states.Retry steps.meta) from (code ∷ cs)
    over_it goes_on filled =
        on_from sh.after (code ∷ cs) (does_next x text steps.meta steps.meta c (past_byte c)
        (steps.meta_goes x sh.byte c false (byte_at h.at sh.first) line goes_on (barred_at code cs sh h both.0))) (sh.same ∙ sym (after_more code cs inner))
        (reads sh.after (let l = sh.less in omega (arith, l, few)) es (feed text (past_byte c)) from sh.next (passes sh.byte h sh.first line) sh.sees
        (follow_after code cs sh both.1) (let r = sh.room inner in omega (arith, r, room)) (λ r w. lead r (more sh.first line w)) (is_white code)
        (ap (has is_space_or_tab) (byte_at h.at sh.first) ∙ sh.white) (λ black. lead sh.next (one sh.first (word_is black)))
        (λ is. sh.all is_white refl ∙ filled is))

    -- the test of the end
    test_is : (w q : Bool) → has is_space_or_tab c.current ≡ w → has is_space_or_tab c.previous ≡ q
        → ends_meta x.bytes c ≡ (w && not q && is_blank_ahead x.bytes c)
    test_is w q e f =
        ap (λ (b : Bool). b && not (has is_space_or_tab c.previous) && is_blank_ahead x.bytes c) e
        ∙ ap (λ (b : Bool). w && not b && is_blank_ahead x.bytes c) f

    current_is : has is_space_or_tab c.current ≡ is_white code
    current_is = ap (has is_space_or_tab) (byte_at h.at sh.first) ∙ sh.white

    by_blank : (blank : Bool) → is_blank_line (code ∷ cs) ≡ blank → is_white code ≡ true → has is_space_or_tab c.previous ≡ false → Words text from p
        → Read es c (states.Retry steps.meta) from (code ∷ cs)
    by_blank true is_blank is before words =
        at_white sh.byte code cs h words (byte_at h.at sh.first) line (sh.white ∙ is) is
        (test_is true false (current_is ∙ is) before ∙ (blank_is code cs h.at s is ∙ is_blank)) s is_blank room
    by_blank false is_blank is before words =
        over_it (test_is true false (current_is ∙ is) before ∙ (blank_is code cs h.at s is ∙ is_blank)) (λ w. sym (blank_white code cs is) ∙ is_blank)

    at_byte : (spaces : Bool) → has is_space_or_tab c.previous ≡ spaces → (spaces ≡ false → Words text from p)
        → (spaces ≡ true → is_blank_line (code ∷ cs) ≡ false) → Read es c (states.Retry steps.meta) from (code ∷ cs)
    at_byte spaces before words filled = elim (cases_Bool (is_white code)) [
      | inl is ↦ by_spaces spaces before words filled is
      | inr black ↦ over_it (test_is false spaces (current_is ∙ black) before) (λ is. absurd (let f : true ≡ false = sym is ∙ black in cc))
    ]
      where
        by_spaces : (spaces : Bool) → has is_space_or_tab c.previous ≡ spaces → (spaces ≡ false → Words text from p)
            → (spaces ≡ true → is_blank_line (code ∷ cs) ≡ false) → is_white code ≡ true → Read es c (states.Retry steps.meta) from (code ∷ cs)
        by_spaces true before words filled is =
            over_it (test_is true true (current_is ∙ is) before) (λ w. sym (blank_white code cs is) ∙ filled refl)
        by_spaces false before words filled is = by_blank (is_blank_line (code ∷ cs)) refl is before (words refl)

  reading : (bound : ℕ) → Reading bound
  reading zero codes few es c from p h s follow room lead spaces before words filled = absurd (omega (arith, few))
  reading (suc bound) [] few es c from p h (nothing e) follow room lead true before words filled = absurd (let f : true ≡ false = filled refl in cc)
  reading (suc bound) [] few es c from p h (nothing e) follow room lead false before words filled =
      at_once [] h (words refl) (ap (λ v. has (λ b. not (b == 10)) (byte_of v)) e) (ap (λ v. has is_space_or_tab (byte_of v)) e) (nothing e)
      (steps.meta_none x c (end_at h.at e))
  reading (suc bound) (code ∷ cs) few es c from p h s follow room lead spaces before words filled = elim (cases_Bool (is_eol code)) [
    | inl eol ↦ at_eol spaces eol words filled
    | inr inner ↦ at_byte bound (reading bound) code cs few es c from p h s follow room lead inner spaces before words filled
  ]
    where
      at_eol : (spaces : Bool) → is_eol code ≡ true → (spaces ≡ false → Words text from p) → (spaces ≡ true → is_blank_line (code ∷ cs) ≡ false)
          → Read es c (states.Retry steps.meta) from (code ∷ cs)
      at_eol true eol words filled = absurd (let f : true ≡ false = sym (ap (list_all is_white) (line_none code cs eol)) ∙ filled refl in cc)
      at_eol false eol words filled =
          let sh = shows code cs s in
          let ten : text.byte (text.start p) ≡ Some (as_byte 10 sh.next) =
          sh.first ∙ ap (λ (b : ℕ). Some (as_byte b sh.next)) (eqb-true sh.byte 10 (sh.feeds ∙ eol)) in
          at_once (code ∷ cs) h (words refl) (ap (λ v. has (λ b. not (b == 10)) (byte_of v)) ten) (ap (λ v. has is_space_or_tab (byte_of v)) ten)
          (subst (λ (ds : List ℕ). Sees text p ds) (sym (after_none code cs eol)) s) (steps.meta_line x c (byte_at h.at ten))

  -- ---- before what follows the info

  -- the end of the line is reached from a place that is no white space
  pub record ReadMeta (es : List Event) (c : Config Flows) (p : Point) (codes : List ℕ) : Type 0 where
    pub config : Config Flows
    pub columns : ℕ
    pub end : Point
    pub added : List Event
    pub goes : GoesOn x text c (states.Retry steps.meta_before) config (retry state_block.RawFlowInfoBefore)
    pub said : MetaAt text name p added end
    pub at : AtHand text config end
    pub here : Here text c0 (es ++ added) (spaced columns k) config
    pub apart : is_feed config.previous ≡ false
    pub ends : LineEnds text end
    pub sees : Sees text end (after_line codes)

  no_meta : (es : List Event) (c : Config Flows) (p : Point) (codes : List ℕ) → Standing es c p → LineEnds text p → Sees text p (after_line codes)
      → run (flows_bodies x steps.meta_before) c ≡ plain c (retry state_block.RawFlowInfoBefore)
      → ReadMeta es c p codes
  no_meta es c p codes h at_end s does_it = record {
    config = c;
    columns = h.columns;
    end = p;
    added = [];
    goes = does x text steps.meta_before c c (retry state_block.RawFlowInfoBefore) does_it;
    said = none at_end;
    at = h.at;
    here = record { events = h.here.events ∙ sym (append-nil es); kept = h.here.kept; map = h.here.map; resolvers = h.here.resolvers };
    apart = h.apart;
    ends = at_end;
    sees = s;
  }

  regroup : (l : List Event) (a b e f : Event) (y : List Event) → ((l ++ a ∷ []) ++ b ∷ []) ++ (e ∷ f ∷ y) ≡ l ++ ((a ∷ b ∷ e ∷ f ∷ []) ++ y)
  regroup l a b e f y = simp append_assoc refl

  pub reads_string : (codes : List ℕ) (p : Point) → Sees text p codes → indent codes ≡ 0 → may_be_meta m (line_of codes) ≡ true
      → weight (line_of codes) ≤ no_limit → (es : List Event) (c : Config Flows) → Standing es c p → ReadMeta es c p codes
  reads_string [] p (nothing e) bare_is follow room es c h =
      no_meta es c p [] h (ap (λ v. has (λ b. not (b == 10)) (byte_of v)) e) (nothing e) (steps.meta_before_none x c (end_at h.at e))
  reads_string (code ∷ cs) p s bare_is follow room es c h = elim (cases_Bool (is_eol code)) [
    | inl eol ↦
        let sh = shows code cs s in
        let ten : text.byte (text.start p) ≡ Some (as_byte 10 sh.next) =
        sh.first ∙ ap (λ (b : ℕ). Some (as_byte b sh.next)) (eqb-true sh.byte 10 (sh.feeds ∙ eol)) in
        no_meta es c p (code ∷ cs) h (ap (λ v. has (λ b. not (b == 10)) (byte_of v)) ten)
        (subst (λ (ds : List ℕ). Sees text p ds) (sym (after_none code cs eol)) s) (steps.meta_before_line x c (byte_at h.at ten))
    | inr inner ↦
        let sh = shows code cs s in
        let black = none_white code cs bare_is in
        let line : (sh.byte == 10) ≡ false = sh.feeds ∙ inner in
        let both = follows code cs inner follow in
        let begun = (es ++ event Enter name (text.start p) None ∷ []) ++ event Enter names.Data (text.start p) (Some (chunk_of contents.String)) ∷ [] in
        let first : Config Flows = feed text (past_byte (steps.meta_begun c)) in
        let word : is_word sh.byte ≡ true = ap not (ap (λ (b : Bool). b || (sh.byte == 10)) (sh.white ∙ black) ∙ line) in
        let stands : Standing begun first sh.next = record {
          columns = h.columns;
          at = fed text (past_byte (steps.meta_begun c)) sh.next (h.at.next (as_byte sh.byte sh.next) sh.first);
          here = record {
            events =
                ap (λ (t : KeptState). (c.events ++ event Enter t.token_5 c.point None ∷ [])
                ++ event Enter names.Data c.point (Some (chunk_of contents.String)) ∷ []) h.here.kept
                ∙ (ap (λ (r : Point). (c.events ++ event Enter name r None ∷ []) ++ event Enter names.Data r (Some (chunk_of contents.String)) ∷ []) h.at.point
                ∙ ap (λ (l : List Event). (l ++ event Enter name (text.start p) None ∷ [])
                ++ event Enter names.Data (text.start p) (Some (chunk_of contents.String)) ∷ []) h.here.events);
            kept = h.here.kept;
            map = h.here.map;
            resolvers = h.here.resolvers;
          };
          apart = ap is_feed (byte_at h.at sh.first) ∙ line;
        } in
        let o = reading (suc (weight sh.after)) sh.after (omega arith) begun first p sh.next stands sh.sees (follow_after code cs sh both.1)
        (let r = sh.room inner in omega (arith, r, room)) (λ r w. more sh.first line w) false
        (ap (has is_space_or_tab) (byte_at h.at sh.first) ∙ (sh.white ∙ black)) (λ z. one sh.first word)
        (λ z. absurd (let f : false ≡ true = z in cc)) in record {
          config = o.config;
          columns = o.columns;
          end = o.end;
          added = string_events name (text.start p) (text.start o.mid) ++ white_if (nat_lt 0 o.count) (text.start o.mid) (text.start o.end);
          goes = and_on x text (does_next x text steps.meta_before steps.meta c (past_byte (steps.meta_begun c))
              (steps.meta_before_goes x sh.byte c false (byte_at h.at sh.first) line (barred_at code cs sh h both.0))) o.goes;
          said = string o.words o.stretch o.ends;
          at = o.at;
          here = record {
            events = o.here.events ∙ regroup es (event Enter name (text.start p) None)
                (event Enter names.Data (text.start p) (Some (chunk_of contents.String))) (event Exit names.Data (text.start o.mid) None)
                (event Exit name (text.start o.mid) None) (white_if (nat_lt 0 o.count) (text.start o.mid) (text.start o.end));
            kept = o.here.kept;
            map = o.here.map;
            resolvers = o.here.resolvers;
          };
          apart = o.apart;
          ends = o.ends;
          sees = subst (λ (ds : List ℕ). Sees text o.end ds) (sh.same ∙ sym (after_more code cs inner)) o.sees;
        }
  ]

  -- ---- before the white space

  -- the line without its white space may follow exactly if it may
  follow_bare : (cs : List ℕ) → may_be_meta m (line_of (bare cs)) ≡ may_be_meta m (line_of cs)
  follow_bare [] = refl
  follow_bare (c ∷ cs) = elim (cases_Bool (is_white c)) [
    | inl is ↦
        ap (λ (l : List ℕ). may_be_meta m (line_of l)) (rest_more is_white c cs is)
        ∙ (follow_bare cs ∙ sym (ap (may_be_meta m) (line_more c cs (white_inner c is))
        ∙ ap (λ (b : Bool). not b && may_be_meta m (line_of cs)) (white_may c is)))
    | inr black ↦ ap (λ (l : List ℕ). may_be_meta m (line_of l)) (rest_none is_white c cs black)
  ]

  -- at once at what follows
  pub at_string : (es : List Event) (c : Config Flows) (p : Point) (codes : List ℕ) → indent codes ≡ 0 → Sees text p codes → ReadMeta es c p codes
      → Rest x text c0 k (FurtherAt text name) es c (states.Retry steps.meta_before) p codes
  at_string es c p codes bare_is sees o = record {
    config = o.config;
    columns = o.columns;
    end = o.end;
    further = o.added;
    goes = o.goes;
    says = further (ended (no_white codes sees bare_is)) o.said;
    at = o.at;
    here = o.here;
    apart = o.apart;
    ends = o.ends;
    sees = o.sees;
  }

  -- over white space first
  pub over_white : (es : List Event) (s : Name) (c d : Config Flows) (p : Point) (code : ℕ) (cs : List ℕ) → Standing es d p → Sees text p (code ∷ cs)
      → is_white code ≡ true → may_be_meta m (line_of (code ∷ cs)) ≡ true → weight (line_of (code ∷ cs)) ≤ no_limit
      → run (flows_bodies x s) c
      ≡ tries (states.Next steps.meta_before) states.Nok (steps.readied d) (part state_inline.SpaceOrTabStart)
      → Rest x text c0 k (FurtherAt text name) es c (states.Retry s) p (code ∷ cs)
  over_white es s c d p code cs h sees is follow room does_it =
      let most = white_within (code ∷ cs) in
      let a = attempted (flows_bodies x) (flows_white x) text c0 k es no_limit (steps.readied d) p (still_at refl refl refl h.at)
      (record { events = h.here.events; kept = ap (spaced no_limit) h.here.kept; map = h.here.map; resolvers = h.here.resolvers }) whole code cs sees is
      (omega (arith, most, room)) in
      let told = (es ++ event Enter names.SpaceOrTab (text.start p) None ∷ []) ++ event Exit names.SpaceOrTab (text.start a.end) None ∷ [] in
      let st = stretched a.stretch (no_white (bare (code ∷ cs)) a.sees (bare_apart (code ∷ cs))) in
      let less = weight_line_bare (code ∷ cs) in
      let o = reads_string (bare (code ∷ cs)) a.end a.sees (bare_apart (code ∷ cs)) (follow_bare (code ∷ cs) ∙ follow) (omega (arith, less, room)) told
      (feed text a.config) (record {
        columns = a.columns;
        at = fed_again text a.config a.end once a.there.at;
        here = fed_here text c0 a.there.here;
        apart = a.there.apart;
      }) in record {
        config = o.config;
        columns = o.columns;
        end = o.end;
        further = white_if (nat_lt 0 (st.0 + 1)) (text.start p) (text.start a.end) ++ o.added;
        goes = and_on x text (and_on x text (tried x text s c (steps.readied d) a.config (states.Next steps.meta_before) states.Nok
            (part state_inline.SpaceOrTabStart) does_it a.reads) (feeds x text steps.meta_before a.config)) o.goes;
        says = further (longer a.first a.white st.1) o.said;
        at = o.at;
        here = record {
          events = o.here.events ∙ (three es (event Enter names.SpaceOrTab (text.start p) None) (event Exit names.SpaceOrTab (text.start a.end) None) o.added
              ∙ ap (λ (i : Bool). es ++ (white_if i (text.start p) (text.start a.end) ++ o.added)) (sym (lt-ltb 0 (st.0 + 1) (omega arith))));
          kept = o.here.kept;
          map = o.here.map;
          resolvers = o.here.resolvers;
        };
        apart = o.apart;
        ends = o.ends;
        sees = subst (λ (ds : List ℕ). Sees text o.end ds) (after_bare (code ∷ cs)) o.sees;
      }
    where
      three : (l : List Event) (a b : Event) (y : List Event) → ((l ++ a ∷ []) ++ b ∷ []) ++ y ≡ l ++ (a ∷ b ∷ y)
      three l a b y = simp append_assoc refl

  -- ---- what may not follow

  -- a blank line may follow
  blank_follows : (codes : List ℕ) → is_blank_line codes ≡ true → may_be_meta m (line_of codes) ≡ true
  blank_follows [] h = refl
  blank_follows (c ∷ cs) h = elim (cases_Bool (is_eol c)) [
    | inl eol ↦ ap (may_be_meta m) (line_none c cs eol)
    | inr inner ↦
        let both = and_parts (is_white c) (is_blank_line cs) (sym (ap (list_all is_white) (line_more c cs inner)) ∙ h) in
        ap (may_be_meta m) (line_more c cs inner) ∙ (ap (λ (b : Bool). not b && may_be_meta m (line_of cs)) (white_may c both.0) ∙ blank_follows cs both.1)
  ]

  -- an attempt fails
  abbrev pub Refused : Config Flows → State → Type 0
  Refused c s = (d : Config Flows) × GoesOn x text c s d states.Nok

  -- the first code of a line that may not follow is in the line
  inner_is : (code : ℕ) (cs : List ℕ) → may_be_meta m (line_of (code ∷ cs)) ≡ false → is_eol code ≡ false
  inner_is code cs h = inner_by (is_eol code) refl
    where
      inner_by : (b : Bool) → is_eol code ≡ b → b ≡ false
      inner_by true eol = absurd (let f : true ≡ false = sym (ap (may_be_meta m) (line_none code cs eol)) ∙ h in cc)
      inner_by false inner = refl

  -- the codes after one that may follow
  bad_after : (code : ℕ) (cs : List ℕ) → is_eol code ≡ false → is_barred m code ≡ false → may_be_meta m (line_of (code ∷ cs)) ≡ false
      → may_be_meta m (line_of cs) ≡ false
  bad_after code cs inner good h =
      sym (ap (may_be_meta m) (line_more code cs inner) ∙ ap (λ (b : Bool). not b && may_be_meta m (line_of cs)) good) ∙ h

  shown_after : {p : Point} (code : ℕ) (cs : List ℕ) (sh : Shown text p code cs) → may_be_meta m (line_of sh.after) ≡ may_be_meta m (line_of cs)
  shown_after code cs sh =
      sh.all (λ b. not (is_barred m b)) (ap (λ (b : Bool). not (b && ((m == 96) || (m == 36)))) column_apart)

  refuses : (bound : ℕ) (codes : List ℕ) → weight codes < bound → (es : List Event) (c : Config Flows) (p : Point) → Standing es c p → Sees text p codes
      → may_be_meta m (line_of codes) ≡ false → Refused c (states.Retry steps.meta)
  refuses zero codes few es c p h s bad = absurd (omega (arith, few))
  refuses (suc bound) [] few es c p h s bad = absurd (let f : true ≡ false = bad in cc)
  refuses (suc bound) (code ∷ cs) few es c p h s bad =
      let sh = shows code cs s in
      let inner = inner_is code cs bad in
      let line : (sh.byte == 10) ≡ false = sh.feeds ∙ inner in
      elim (cases_Bool (is_barred m code)) [
        | inl barred ↦ (
          c,
          does x text steps.meta c c states.Nok (steps.meta_goes x sh.byte c true (byte_at h.at sh.first) line (no_end sh barred)
              (barred_is code cs sh h ∙ barred)),
        )
        | inr good ↦ by_end (ends_meta x.bytes c) refl sh inner line good
            (refuses bound sh.after (let l = sh.less in omega (arith, l, few)) es (feed text (past_byte c)) sh.next (passes sh.byte h sh.first line) sh.sees
            (shown_after code cs sh ∙ bad_after code cs inner good bad))
      ]
    where
      no_end : (sh : Shown text p code cs) → is_barred m code ≡ true → ends_meta x.bytes c ≡ false
      no_end sh barred = elim (cases_Bool (is_white code)) [
        | inl is ↦ absurd (let f : true ≡ false = sym barred ∙ white_may code is in cc)
        | inr black ↦ ap (λ (b : Bool). b && not (has is_space_or_tab c.previous) && is_blank_ahead x.bytes c)
            (ap (has is_space_or_tab) (byte_at h.at sh.first) ∙ (sh.white ∙ black))
      ]

      by_end : (ends : Bool) → ends_meta x.bytes c ≡ ends → (sh : Shown text p code cs) → is_eol code ≡ false → (sh.byte == 10) ≡ false
          → is_barred m code ≡ false → Refused (feed text (past_byte c)) (states.Retry steps.meta) → Refused c (states.Retry steps.meta)
      by_end true ends sh inner line good o =
          let both = and_parts (has is_space_or_tab c.current && not (has is_space_or_tab c.previous)) (is_blank_ahead x.bytes c) ends in
          let seen = (and_parts (has is_space_or_tab c.current) (not (has is_space_or_tab c.previous)) both.0).0 in
          let is : is_white code ≡ true = sym (ap (has is_space_or_tab) (byte_at h.at sh.first) ∙ sh.white) ∙ seen in
          let blank : is_blank_line (code ∷ cs) ≡ true = sym (blank_is code cs h.at s is) ∙ both.1 in
          absurd (let f : true ≡ false = sym (blank_follows (code ∷ cs) blank) ∙ bad in cc)
      by_end false ends sh inner line good o = (
        o.0,
        and_on x text (does_next x text steps.meta steps.meta c (past_byte c)
            (steps.meta_goes x sh.byte c false (byte_at h.at sh.first) line ends (barred_at code cs sh h good))) o.1,
      )

  -- at once at what follows
  pub refuses_string : (codes : List ℕ) (p : Point) → Sees text p codes → may_be_meta m (line_of codes) ≡ false → (es : List Event) (c : Config Flows)
      → Standing es c p → Refused c (states.Retry steps.meta_before)
  refuses_string [] p s bad es c h = absurd (let f : true ≡ false = bad in cc)
  refuses_string (code ∷ cs) p s bad es c h =
      let sh = shows code cs s in
      let inner = inner_is code cs bad in
      let line : (sh.byte == 10) ≡ false = sh.feeds ∙ inner in
      elim (cases_Bool (is_barred m code)) [
        | inl barred ↦ (
          c,
          does x text steps.meta_before c c states.Nok (steps.meta_before_goes x sh.byte c true (byte_at h.at sh.first) line
              (barred_is code cs sh h ∙ barred)),
        )
        | inr good ↦
            let begun : Standing (steps.meta_begun c).events (feed text (past_byte (steps.meta_begun c))) sh.next = record {
              columns = h.columns;
              at = fed text (past_byte (steps.meta_begun c)) sh.next (h.at.next (as_byte sh.byte sh.next) sh.first);
              here = record { events = refl; kept = h.here.kept; map = h.here.map; resolvers = h.here.resolvers };
              apart = ap is_feed (byte_at h.at sh.first) ∙ line;
            } in
            let o = refuses (suc (weight sh.after)) sh.after (omega arith) (steps.meta_begun c).events
            (feed text (past_byte (steps.meta_begun c))) sh.next begun
            sh.sees (shown_after code cs sh ∙ bad_after code cs inner good bad) in (
              o.0,
              and_on x text (does_next x text steps.meta_before steps.meta c (past_byte (steps.meta_begun c))
                  (steps.meta_before_goes x sh.byte c false (byte_at h.at sh.first) line (barred_at code cs sh h good))) o.1,
            )
      ]

  -- over white space first
  pub refuses_white : (es : List Event) (s : Name) (c d : Config Flows) (p : Point) (code : ℕ) (cs : List ℕ) → Standing es d p → Sees text p (code ∷ cs)
      → is_white code ≡ true → may_be_meta m (line_of (code ∷ cs)) ≡ false → weight (line_of (code ∷ cs)) ≤ no_limit
      → run (flows_bodies x s) c
      ≡ tries (states.Next steps.meta_before) states.Nok (steps.readied d) (part state_inline.SpaceOrTabStart)
      → Refused c (states.Retry s)
  refuses_white es s c d p code cs h sees is bad room does_it =
      let most = white_within (code ∷ cs) in
      let a = attempted (flows_bodies x) (flows_white x) text c0 k es no_limit (steps.readied d) p (still_at refl refl refl h.at)
      (record { events = h.here.events; kept = ap (spaced no_limit) h.here.kept; map = h.here.map; resolvers = h.here.resolvers }) whole code cs sees is
      (omega (arith, most, room)) in
      let told = (es ++ event Enter names.SpaceOrTab (text.start p) None ∷ []) ++ event Exit names.SpaceOrTab (text.start a.end) None ∷ [] in
      let o = refuses_string (bare (code ∷ cs)) a.end a.sees (follow_bare (code ∷ cs) ∙ bad) told (feed text a.config) (record {
        columns = a.columns;
        at = fed_again text a.config a.end once a.there.at;
        here = fed_here text c0 a.there.here;
        apart = a.there.apart;
      }) in (
        o.0,
        and_on x text (and_on x text (tried x text s c (steps.readied d) a.config (states.Next steps.meta_before) states.Nok
            (part state_inline.SpaceOrTabStart) does_it a.reads) (feeds x text steps.meta_before a.config)) o.1,
      )
