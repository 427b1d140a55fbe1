-- The info after an opening fence is read as one word.
use Rattle.std.proofs.Common.{◌≡◌, ◌∙◌, ℕ, ◌+◌, ◌≤◌, Bool, true, false, not, ◌==◌, ◌&&◌, ◌||◌, List, [], ◌∷◌, ◌++◌, Some, None, inl, inr, refl, sym, ap, subst}
use Rattle.std.proofs.Common.{arith, append_assoc, append-nil}
use Rattle.state_verdicts.proofs.BlockPrelude.{after_line, and_parts, as_byte, AtHand, byte, byte_of, cases_Bool, Config, Context, event}
use Rattle.state_verdicts.proofs.BlockPrelude.{Event, EventName}
use Rattle.state_verdicts.proofs.BlockPrelude.{feed, Flows, GoesOn, has, indent, is_eol, is_feed, is_space_or_tab, is_white, KeptState, line_of, LineEnds}
use Rattle.state_verdicts.proofs.BlockPrelude.{no_limit}
use Rattle.state_verdicts.proofs.BlockPrelude.{nothing, past_byte, Point, retry, Sees, SkipsOnce, tab, Text, text_byte}
use Rattle.engine_events.specs.declared.event.Content.TheVariants as contents
use Rattle.engine_events.specs.declared.event.Kind.TheVariants.{Enter, Exit}
use Rattle.engine_events.specs.declared.event.Name.TheVariants as names
use Rattle.engine_states.specs.declared.state.Block.TheVariants as state_block
use Rattle.engine_states.specs.declared.state.State.TheVariants as states
use Rattle.state_table.specs.BlockWords.{chunk_of}
use Rattle.state_verdicts.specs.CodeFenced.{InfoAt, info_events, is_word, none, word}
use Rattle.state_verdicts.specs.Stretch.{Stretch, ended, longer}
use Rattle.state_verdicts.proofs.BlockTurns.{and_on, byte_at, does, does_next, end_at, fed, stays, still_at}
use Rattle.state_verdicts.proofs.FenceLines.{FenceByte, may_follow}
use Rattle.state_verdicts.proofs.FenceRest.{ReadsRest, Stood}
use Rattle.state_verdicts.proofs.FenceStates as steps
use Rattle.state_verdicts.proofs.LineCodes.{after_more, after_none, line_more, none_white, weight, weight_some}
use Rattle.state_verdicts.proofs.Markers.{flop}
use Rattle.state_verdicts.proofs.Seen.{seen_eol, seen_feed, seen_white}
use Rattle.state_verdicts.proofs.Standing.{Here, exits, fed_here, past_here}
use Rattle.state_verdicts.proofs.WhiteReads.{spaced}

-- a code as a byte of a word
word_is : (c : ℕ) → is_word (text_byte c) ≡ not (is_white c || is_eol c)
word_is c = ap not (ap (λ (b : Bool). b || (text_byte c == 10)) (seen_white c) ∙ ap (λ (b : Bool). is_white c || b) (seen_feed c))

ends_word : (c : ℕ) → is_white c ≡ true → is_word (text_byte c) ≡ false
ends_word c h = word_is c ∙ ap (λ (b : Bool). not (b || is_eol c)) h

line_ends_word : (c : ℕ) → is_eol c ≡ true → is_word (text_byte c) ≡ false
line_ends_word c h = word_is c ∙ ap not (ap (λ (b : Bool). is_white c || b) h ∙ or_true (is_white c))
  where
    or_true : (b : Bool) → (b || true) ≡ true
    or_true true = refl
    or_true false = refl

goes_on_word : (c : ℕ) → is_white c ≡ false → is_eol c ≡ false → is_word (text_byte c) ≡ true
goes_on_word c h k = word_is c ∙ (ap (λ (b : Bool). not (b || is_eol c)) h ∙ ap not k)

-- where a stretch ends
stops : {text : Text} {is : ℕ → Bool} {n : ℕ} {q r : Point} → Stretch text is n q r → has is (byte_of (text.byte (text.start r))) ≡ false
stops (ended h) = h
stops (longer e k rest) = stops rest

module _ {T : Type 0} (x : Context T) (text : Text) (once : SkipsOnce text) (c0 : Config Flows) (k : KeptState) (whole : k.connect ≡ false)
    (m : ℕ) (fence : FenceByte m) (marker : k.marker ≡ m) (info_name : k.token_4 ≡ names.CodeFencedFenceInfo) (Says : Point → List Event → Point → Type 0)
    (says_none : (p : Point) → LineEnds text p → Says p [] p) (reads_rest : ReadsRest x text c0 k Says m) where
  -- at a place after the fence, with these events so far
  abbrev Standing : List Event → Config Flows → Point → Type 0
  Standing es c p = Stood text c0 k es c p

  -- the word is behind
  record Word (es : List Event) (c : Config Flows) (q : Point) (codes : List ℕ) : Type 0 where
    pub config : Config Flows
    pub end : Point
    pub count : ℕ
    pub rest : List ℕ
    pub goes : GoesOn x text c (states.Retry steps.info) config (states.Retry steps.info)
    pub stretch : Stretch text is_word count q end
    pub standing : Standing es config end
    pub sees : Sees text end rest
    pub follow : may_follow m (line_of rest) ≡ true
    pub same : after_line rest ≡ after_line codes
    pub room : weight (line_of rest) ≤ weight (line_of codes)

  ends_here : (es : List Event) (c : Config Flows) (q : Point) (codes : List ℕ) → Standing es c q → Sees text q codes → may_follow m (line_of codes) ≡ true
      → has is_word (byte_of (text.byte (text.start q))) ≡ false → Word es c q codes
  ends_here es c q codes h s follow stop = record {
    config = c;
    end = q;
    count = 0;
    rest = codes;
    goes = stays x text c (states.Retry steps.info);
    stretch = ended stop;
    standing = h;
    sees = s;
    follow = follow;
    same = refl;
    room = omega arith;
  }

  -- the line goes on with a code that may follow
  follows : (code : ℕ) (cs : List ℕ) → is_eol code ≡ false → may_follow m (line_of (code ∷ cs)) ≡ true
      → (steps.is_bad m code ≡ false) × (may_follow m (line_of cs) ≡ true)
  follows code cs inner h =
      let both = and_parts (not (steps.is_bad m code)) (may_follow m (line_of cs)) (sym (ap (may_follow m) (line_more code cs inner)) ∙ h) in
      (flop (steps.is_bad m code) both.0, both.1)

  bad_at : {es : List Event} {c : Config Flows} {p : Point} (code : ℕ) → Standing es c p → steps.is_bad m code ≡ false
      → steps.is_bad c.tokenize_state.marker (text_byte code) ≡ false
  bad_at code h good =
      ap (λ (i : ℕ). steps.is_bad i (text_byte code)) (ap (λ (s : KeptState). s.marker) h.here.kept ∙ marker)
      ∙ (ap (λ (b : Bool). b && (m == 96)) (fence.itself code) ∙ good)

  in_word : (codes : List ℕ) {q : Point} → Sees text q codes → may_follow m (line_of codes) ≡ true → (es : List Event) (c : Config Flows) → Standing es c q
      → Word es c q codes
  in_word [] {q} (nothing e) follow es c h = ends_here es c q [] h (nothing e) follow (ap (λ v. has is_word (byte_of v)) e)
  in_word (code ∷ cs) {q} (byte {q = r} apart e s) follow es c h = elim (cases_Bool (is_eol code)) [
    | inl eol ↦ ends_here es c q (code ∷ cs) h (byte apart e s) follow (ap (λ v. has is_word (byte_of v)) e ∙ line_ends_word code eol)
    | inr inner ↦ elim (cases_Bool (is_white code)) [
      | inl is ↦ ends_here es c q (code ∷ cs) h (byte apart e s) follow (ap (λ v. has is_word (byte_of v)) e ∙ ends_word code is)
      | inr black ↦
          let both = follows code cs inner follow in
          let feeds : (text_byte code == 10) ≡ false = seen_feed code ∙ inner in
          let some = weight_some code (line_of cs) in
          let l = ap weight (line_more code cs inner) in
          let o = in_word cs s both.1 es (feed text (past_byte c)) (record {
            columns = h.columns;
            at = fed text (past_byte c) r (h.at.next (as_byte (text_byte code) r) e);
            here = fed_here text c0 (past_here text c0 h.here);
            apart = ap is_feed (byte_at h.at e) ∙ feeds;
          }) in
          let least = o.room in record {
            config = o.config;
            end = o.end;
            count = o.count + 1;
            rest = o.rest;
            goes = and_on x text (does_next x text steps.info steps.info c (past_byte c) (steps.info_goes x (text_byte code) c false (byte_at h.at e) feeds
                (seen_white code ∙ black) (bad_at code h both.0))) o.goes;
            stretch = longer e (goes_on_word code black inner) o.stretch;
            standing = o.standing;
            sees = o.sees;
            follow = o.follow;
            same = o.same ∙ sym (after_more code cs inner);
            room = omega (arith, least, some, l);
          }
    ]
  ]
  in_word (code ∷ cs) {q} (tab most e f s) follow es c h = ends_here es c q (9 ∷ cs) h (tab most e f s) follow (ap (λ v. has is_word (byte_of v)) e)

  -- the end of the line is reached, with the info and more
  pub record Named (es : List Event) (c : Config Flows) (p : Point) (codes : List ℕ) : Type 0 where
    pub config : Config Flows
    pub columns : ℕ
    pub rest : Point
    pub end : Point
    pub named : List Event
    pub further : List Event
    pub goes : GoesOn x text c (retry state_block.RawFlowInfoBefore) config (retry state_block.RawFlowInfoBefore)
    pub info : InfoAt text p named rest
    pub says : Says rest further end
    pub at : AtHand text config end
    pub here : Here text c0 (es ++ (named ++ further)) (spaced columns k) config
    pub apart : is_feed config.previous ≡ false
    pub ends : LineEnds text end
    pub sees : Sees text end (after_line codes)

  -- at once at the end of the line
  at_once : (es : List Event) (c : Config Flows) (p : Point) (codes : List ℕ) → Standing es c p → LineEnds text p → Sees text p (after_line codes)
      → Named es c p codes
  at_once es c p codes h ends s = record {
    config = c;
    columns = h.columns;
    rest = p;
    end = p;
    named = [];
    further = [];
    goes = stays x text c (retry state_block.RawFlowInfoBefore);
    info = none ends;
    says = says_none p ends;
    at = h.at;
    here = record { events = h.here.events ∙ sym (append-nil es); kept = h.here.kept; map = h.here.map; resolvers = h.here.resolvers };
    apart = h.apart;
    ends = ends;
    sees = s;
  }

  two : (l : List Event) (a b : Event) → (l ++ a ∷ []) ++ b ∷ [] ≡ l ++ (a ∷ b ∷ [])
  two l a b = simp append_assoc refl

  four : (l : List Event) (a b e f : Event) → (((l ++ a ∷ []) ++ b ∷ []) ++ e ∷ []) ++ f ∷ [] ≡ l ++ (a ∷ b ∷ e ∷ f ∷ [])
  four l a b e f = simp append_assoc refl

  line_ends : {p q : Point} (code : ℕ) → text.byte (text.start p) ≡ Some (as_byte (text_byte code) q) → is_eol code ≡ true → LineEnds text p
  line_ends {q = q} code e eol = ap (λ v. has (λ b. not (b == 10)) (byte_of v)) (e ∙ ap (λ (b : ℕ). Some (as_byte b q)) (seen_eol code eol))

  module _ (es : List Event) (c : Config Flows) (p : Point) (h : Standing es c p) (code : ℕ) (cs : List ℕ) (q : Point)
      (e : text.byte (text.start p) ≡ Some (as_byte (text_byte code) q)) (s : Sees text q cs) (inner : is_eol code ≡ false) (black : is_white code ≡ false)
      (follow : may_follow m (line_of (code ∷ cs)) ≡ true) (room : weight (line_of (code ∷ cs)) ≤ no_limit) where
    both : (steps.is_bad m code ≡ false) × (may_follow m (line_of cs) ≡ true)
    both = follows code cs inner follow

    feeds : (text_byte code == 10) ≡ false
    feeds = seen_feed code ∙ inner

    abbrev first : Config Flows
    first = feed text (past_byte (steps.info_begun c))

    abbrev begun : List Event
    begun = (es ++ event Enter names.CodeFencedFenceInfo (text.start p) None ∷ []) ++ event Enter names.Data (text.start p) (Some (chunk_of contents.String))
        ∷ []

    named_first : c.tokenize_state.token_4 ≡ names.CodeFencedFenceInfo
    named_first = ap (λ (t : KeptState). t.token_4) h.here.kept ∙ info_name

    first_is : Standing begun first q
    first_is = record {
      columns = h.columns;
      at = fed text (past_byte (steps.info_begun c)) q (h.at.next (as_byte (text_byte code) q) e);
      here = record {
        events =
            ap (λ (n : EventName). (c.events ++ event Enter n c.point None ∷ []) ++ event Enter names.Data c.point (Some (chunk_of contents.String)) ∷ [])
            named_first
            ∙ (ap (λ (r : Point). (c.events ++ event Enter names.CodeFencedFenceInfo r None ∷ [])
            ++ event Enter names.Data r (Some (chunk_of contents.String)) ∷ []) h.at.point
            ∙ ap (λ (l : List Event). (l ++ event Enter names.CodeFencedFenceInfo (text.start p) None ∷ [])
            ++ event Enter names.Data (text.start p) (Some (chunk_of contents.String)) ∷ []) h.here.events);
        kept = h.here.kept;
        map = h.here.map;
        resolvers = h.here.resolvers;
      };
      apart = ap is_feed (byte_at h.at e) ∙ feeds;
    }

    goes_first : GoesOn x text c (retry state_block.RawFlowInfoBefore) first (states.Retry steps.info)
    goes_first = does_next x text steps.info_before steps.info c (past_byte (steps.info_begun c))
        (steps.info_before_goes x (text_byte code) c false (byte_at h.at e) feeds (bad_at code h both.0))

    w : Word begun first q cs
    w = in_word cs s both.1 begun first first_is

    abbrev last : Config Flows
    last = w.config

    -- the events up to the end of the info
    abbrev told : List Event
    told = es ++ info_events (text.start p) (text.start w.end)

    ended_is : Standing told (steps.info_ended last) w.end
    ended_is =
        let f = exits text c0 names.Data w.standing.here w.standing.apart w.standing.at.point in
        let g = exits text c0 last.tokenize_state.token_4 f w.standing.apart w.standing.at.point in record {
          columns = w.standing.columns;
          at = still_at refl refl refl w.standing.at;
          here = record {
            events = g.events ∙ (ap (λ (n : EventName). (begun ++ event Exit names.Data (text.start w.end) None ∷ []) ++ event Exit n (text.start w.end) None
                ∷ [])
                (ap (λ (t : KeptState). t.token_4) w.standing.here.kept ∙ info_name)
                ∙ four es (event Enter names.CodeFencedFenceInfo (text.start p) None) (event Enter names.Data (text.start p) (Some (chunk_of contents.String)))
                (event Exit names.Data (text.start w.end) None) (event Exit names.CodeFencedFenceInfo (text.start w.end) None));
            kept = g.kept;
            map = g.map;
            resolvers = g.resolvers;
          };
          apart = w.standing.apart;
        }

    info_is : InfoAt text p (info_events (text.start p) (text.start w.end)) w.end
    info_is = word e (goes_on_word code black inner) w.stretch

    same_line : after_line w.rest ≡ after_line (code ∷ cs)
    same_line = w.same ∙ sym (after_more code cs inner)

    least : weight (line_of w.rest) ≤ no_limit
    least = let r = w.room in let some = weight_some code (line_of cs) in let l = ap weight (line_more code cs inner) in omega (arith, r, some, l, room)

    -- the line ends after the info
    at_end : LineEnds text w.end → Sees text w.end (after_line (code ∷ cs))
        → GoesOn x text last (states.Retry steps.info) (steps.info_ended last) (retry state_block.RawFlowInfoBefore) → Named es c p (code ∷ cs)
    at_end ends sees g = record {
      config = steps.info_ended last;
      columns = ended_is.columns;
      rest = w.end;
      end = w.end;
      named = info_events (text.start p) (text.start w.end);
      further = [];
      goes = and_on x text goes_first (and_on x text w.goes g);
      info = info_is;
      says = says_none w.end ends;
      at = ended_is.at;
      here = ended_is.here;
      apart = ended_is.apart;
      ends = ends;
      sees = sees;
    }

    -- more follows it
    at_white : (other : ℕ) (others : List ℕ) → w.rest ≡ other ∷ others → (b : ℕ) → last.current ≡ Some b → (b == 10) ≡ false → is_space_or_tab b ≡ true
        → is_white other ≡ true → Named es c p (code ∷ cs)
    at_white other others now b here_is line white is =
        let o = reads_rest told steps.info last (steps.info_ended last) w.end other others ended_is (subst (λ (l : List ℕ). Sees text w.end l) now w.sees) is
        (ap (λ (l : List ℕ). may_follow m (line_of l)) (sym now) ∙ w.follow) (subst (λ (l : List ℕ). weight (line_of l) ≤ no_limit) now least)
        (steps.info_white x b last here_is line white) in record {
          config = o.config;
          columns = o.columns;
          rest = w.end;
          end = o.end;
          named = info_events (text.start p) (text.start w.end);
          further = o.further;
          goes = and_on x text goes_first (and_on x text w.goes o.goes);
          info = info_is;
          says = o.says;
          at = o.at;
          here = record {
            events = o.here.events ∙ append_assoc es (info_events (text.start p) (text.start w.end)) o.further;
            kept = o.here.kept;
            map = o.here.map;
            resolvers = o.here.resolvers;
          };
          apart = o.apart;
          ends = o.ends;
          sees = subst (λ (l : List ℕ). Sees text o.end l) (ap after_line (sym now) ∙ same_line) o.sees;
        }

    by_rest : (rest : List ℕ) → w.rest ≡ rest → Sees text w.end rest → Named es c p (code ∷ cs)
    by_rest [] now (nothing f) = at_end (ap (λ v. has (λ b. not (b == 10)) (byte_of v)) f)
        (subst (λ (l : List ℕ). Sees text w.end l) (ap after_line (sym now) ∙ same_line) (nothing f))
        (does x text steps.info last (steps.info_ended last) (retry state_block.RawFlowInfoBefore) (steps.info_none x last (end_at w.standing.at f)))
    by_rest (other ∷ others) now (byte {q = r} apart f t) = elim (cases_Bool (is_eol other)) [
      | inl eol ↦ at_end (line_ends other f eol)
          (subst (λ (l : List ℕ). Sees text w.end l) (sym (after_none other others eol) ∙ (ap after_line (sym now) ∙ same_line)) (byte apart f t))
          (does x text steps.info last (steps.info_ended last) (retry state_block.RawFlowInfoBefore) (steps.info_line x last
          (byte_at w.standing.at (f ∙ ap (λ (b : ℕ). Some (as_byte b r)) (seen_eol other eol)))))
      | inr line ↦ elim (cases_Bool (is_white other)) [
        | inl is ↦ at_white other others now (text_byte other) (byte_at w.standing.at f) (seen_feed other ∙ line) (seen_white other ∙ is) is
        | inr dark ↦ absurd (let g : true ≡ false = sym (ap (λ v. has is_word (byte_of v)) f ∙ goes_on_word other dark line) ∙ stops w.stretch in cc)
      ]
    ]
    by_rest (other ∷ others) now (tab most f g t) = at_white 9 others now 9 (byte_at w.standing.at f) refl refl refl

    pub named_here : Named es c p (code ∷ cs)
    named_here = by_rest w.rest refl w.sees

  -- after the spaces and tabs that follow a fence
  pub named_on : (codes : List ℕ) (p : Point) → Sees text p codes → indent codes ≡ 0 → may_follow m (line_of codes) ≡ true
      → weight (line_of codes) ≤ no_limit → (es : List Event) (c : Config Flows) → Standing es c p → Named es c p codes
  named_on [] p (nothing e) none_there follow room es c h = at_once es c p [] h (ap (λ v. has (λ b. not (b == 10)) (byte_of v)) e) (nothing e)
  named_on (code ∷ cs) p (byte {q = q} apart e s) none_there follow room es c h = elim (cases_Bool (is_eol code)) [
    | inl eol ↦ at_once es c p (code ∷ cs) h (line_ends code e eol) (subst (λ (l : List ℕ). Sees text p l) (sym (after_none code cs eol)) (byte apart e s))
    | inr inner ↦ named_here es c p h code cs q e s inner (none_white code cs none_there) follow room
  ]
  named_on (code ∷ cs) p (tab most e f s) none_there follow room es c h = absurd (let g : true ≡ false = none_white 9 cs none_there in cc)
