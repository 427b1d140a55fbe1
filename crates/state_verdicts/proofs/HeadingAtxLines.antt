-- An attempt at an ATX heading reads the parts of the line up to its end where the line is a heading, and fails elsewhere.
use Rattle.std.proofs.Common.{◌≡◌, ◌∙◌, ℕ, zero, suc, ◌+◌, ◌^◌, ◌<◌, ◌≤◌, Bool, true, false, not, ◌==◌, if◌then◌else◌, List, [], ◌∷◌, ◌++◌}
use Rattle.std.proofs.Common.{drop, length}
use Rattle.std.proofs.Common.{Option, Some, None, inl, inr, refl, sym, ap, subst, arith, append_assoc}
use Rattle.state_verdicts.proofs.BlockPrelude.{after_line, as_byte, AtHand, bare, byte, byte_of, cases_Bool, Config, Context, eqb-true, event, Event, EventName}
use Rattle.state_verdicts.proofs.BlockPrelude.{feed, Flows, GoesOn, has, indent, InLine, is_eol, is_feed, is_space_or_tab, is_white, KeptState, line_of}
use Rattle.state_verdicts.proofs.BlockPrelude.{LineEnds}
use Rattle.state_verdicts.proofs.BlockPrelude.{Name, no_limit, nothing, part, past_byte, plain, Point, prefix_len, run, Sees, SkipsOnce, tab}
use Rattle.state_verdicts.proofs.BlockPrelude.{Text}
use Rattle.state_verdicts.proofs.BlockPrelude.{text_byte, tries, with_enter, with_exit}
use Rattle.definition_block.specs.HeadingAtx.{Atx, atx_of}
use Rattle.definition_text.specs.Runs.{run as run_length}
use Rattle.engine_events.specs.declared.event.Content.TheVariants as contents
use Rattle.engine_events.specs.declared.event.Kind.TheVariants.{Enter, Exit}
use Rattle.engine_events.specs.declared.event.Link.{Link}
use Rattle.engine_events.specs.declared.event.Name.TheVariants as names
use Rattle.engine_states.specs.declared.resolve.Name.{Name as Resolver}
use Rattle.engine_states.specs.declared.resolve.Name.TheVariants as resolvers
use Rattle.engine_states.specs.declared.state.Block.TheVariants as state_block
use Rattle.engine_states.specs.declared.state.Inline.TheVariants as state_inline
use Rattle.engine_states.specs.declared.state.Name.TheVariants.{Block}
use Rattle.engine_states.specs.declared.state.State.TheVariants as states
use Rattle.markdown_engine.specs.Machine.{to_run_last}
use Rattle.markdown_engine.specs.Resolvers.{with_last}
use Rattle.state_table.specs.BlockWords.{chunk_of, is_white as is_white_byte}
use Rattle.state_flow.specs.Flows.{flows_bodies}
use Rattle.state_verdicts.specs.BlockVerdicts.{at_hand, line}
use Rattle.state_verdicts.specs.HeadingAtx.{HeadingAtxLineVerdict, HeadingPart, HeadingParts, HeadingVerdict, OpeningVerdict, Signs, White, Words, further}
use Rattle.state_verdicts.specs.HeadingAtx.{goes_on_with, opening_events, over, part_events, part_of}
use Rattle.state_verdicts.specs.Stretch.{Stretch, ended, longer}
use Rattle.state_verdicts.proofs.BlockTurns.{and_on, byte_at, does, does_next, end_at, ends_well, fed, fed_again, feeds, still_at, tried}
use Rattle.state_verdicts.proofs.HeadingAtxContent.{heading_is}
use Rattle.state_verdicts.proofs.HeadingAtxReads.{heading_atx_verdict}
use Rattle.state_verdicts.proofs.LineCodes.{after_bare, after_more, after_none, after_rest, bare_apart, line_more, none_white}
use Rattle.state_verdicts.proofs.LineCodes.{prefix_line, rest_more, rest_within, weight, weight_four}
use Rattle.state_verdicts.proofs.LineCodes.{weight_line_bare, weight_rest, weight_some, white_within}
use Rattle.state_verdicts.proofs.Markers.{flip, flop}
use Rattle.state_verdicts.proofs.Seen.{seen_eol, seen_feed, seen_white}
use Rattle.state_verdicts.proofs.Standing.{Here, exits, fed_here}
use Rattle.state_verdicts.proofs.StretchReads.{apart_feed, over_stretch}
use Rattle.state_verdicts.proofs.Stretches.{some_seen}
use Rattle.state_verdicts.proofs.WhiteReads.{Whites, attempted, flows_white, none, one, spaced}

abbrev at_break : Name
at_break = Block state_block.HeadingAtxAtBreak

abbrev in_signs : Name
in_signs = Block state_block.HeadingAtxSequenceFurther

abbrev in_words : Name
in_words = Block state_block.HeadingAtxData

-- at the end of the line
abbrev finished : Config Flows → Config Flows
finished c = record (to_run_last resolvers.HeadingAtx (with_exit names.HeadingAtx c)) { interrupt = false }

abbrev text_chunk : Option Link
text_chunk = Some (chunk_of contents.Text)

two : (l : List Event) (a b : Event) (y : List Event) → ((l ++ a ∷ []) ++ b ∷ []) ++ y ≡ l ++ (a ∷ b ∷ y)
two l a b y = simp append_assoc refl

-- ---- what the states do

module _ {T : Type 0} (x : Context T) where
  break_none : (c : Config Flows) → c.current ≡ None → run (flows_bodies x at_break) c ≡ plain (finished c) states.Ok
  unfolding flows_bodies
  break_none c h = rw h refl

  break_line : (c : Config Flows) → c.current ≡ Some 10 → run (flows_bodies x at_break) c ≡ plain (finished c) states.Ok
  unfolding flows_bodies
  break_line c h = rw h refl

  break_white : (b : ℕ) (c : Config Flows) → c.current ≡ Some b → (b == 10) ≡ false → is_space_or_tab b ≡ true → run (flows_bodies x at_break) c
      ≡ tries (states.Next at_break) states.Nok (record c { tokenize_state = spaced no_limit c.tokenize_state }) (part state_inline.SpaceOrTabStart)
  unfolding flows_bodies
  break_white b c h k l = rw (h, k, l) refl

  break_signs : (b : ℕ) (c : Config Flows) → c.current ≡ Some b → (b == 10) ≡ false → is_space_or_tab b ≡ false → (b == 35) ≡ true
      → run (flows_bodies x at_break) c ≡ plain (past_byte (with_enter names.HeadingAtxSequence None c)) (states.Next in_signs)
  unfolding flows_bodies
  break_signs b c h k l m = rw (h, k, l, m) refl

  break_words : (b : ℕ) (c : Config Flows) → c.current ≡ Some b → (b == 10) ≡ false → is_space_or_tab b ≡ false → (b == 35) ≡ false
      → run (flows_bodies x at_break) c ≡ plain (past_byte (with_enter names.Data text_chunk c)) (states.Next in_words)
  unfolding flows_bodies
  break_words b c h k l m = rw (h, k, l, m) refl

  signs_more : (b : ℕ) (c : Config Flows) → c.current ≡ Some b → (b == 35) ≡ true → run (flows_bodies x in_signs) c ≡ plain (past_byte c) (states.Next in_signs)
  unfolding flows_bodies
  signs_more b c h k = rw (h, k) refl

  signs_end : (c : Config Flows) → has (λ b. b == 35) c.current ≡ false
      → run (flows_bodies x in_signs) c ≡ plain (with_exit names.HeadingAtxSequence c) (states.Retry at_break)
  unfolding flows_bodies
  signs_end c h = rw h refl

  words_more : (b : ℕ) (c : Config Flows) → c.current ≡ Some b → not (is_white_byte b) ≡ true
      → run (flows_bodies x in_words) c ≡ plain (past_byte c) (states.Next in_words)
  unfolding flows_bodies
  words_more b c h k = let f = flop (is_white_byte b) k in rw (h, f) refl

  words_end : (v : Option ℕ) (c : Config Flows) → c.current ≡ v → has (λ b. not (is_white_byte b)) v ≡ false
      → run (flows_bodies x in_words) c ≡ plain (with_exit names.Data c) (states.Retry at_break)
  unfolding flows_bodies
  words_end None c h k = rw h refl
  words_end (Some b) c h k = let f = flip (is_white_byte b) k in rw (h, f) refl

-- ---- the stretches

-- where no spaces and tabs follow
not_white : (text : Text) (codes : List ℕ) (p : Point) → Sees text p codes → indent codes ≡ 0 → has is_space_or_tab (byte_of (text.byte (text.start p))) ≡ false
not_white text [] p (nothing e) h = ap (λ v. has is_space_or_tab (byte_of v)) e
not_white text (c ∷ cs) p (byte apart e s) h = ap (λ v. has is_space_or_tab (byte_of v)) e ∙ (seen_white c ∙ none_white c cs h)
not_white text (c ∷ cs) p (tab most e f s) h = absurd (let g : true ≡ false = none_white 9 cs h in cc)

record Long (text : Text) (q end : Point) : Type 0 where
  pub count : ℕ
  pub stretch : Stretch text is_space_or_tab count q end

-- spaces and tabs up to where none follow are a stretch
of_whites : {text : Text} {q end : Point} → Whites text q end → has is_space_or_tab (byte_of (text.byte (text.start end))) ≡ false → Long text q end
of_whites none stop = record { count = 0; stretch = ended stop }
of_whites (one e is rest) stop = let f = of_whites rest stop in record { count = f.count + 1; stretch = longer e is f.stretch }

-- where a stretch ends
stops : {text : Text} {is : ℕ → Bool} {n : ℕ} {q r : Point} → Stretch text is n q r → has is (byte_of (text.byte (text.start r))) ≡ false
stops (ended h) = h
stops (longer e k rest) = stops rest

-- a part by the kind of its first byte
further_as : {text : Text} {b n : ℕ} {p q r end : Point} {events : List Event} (kind : HeadingPart) → part_of b ≡ kind
    → text.byte (text.start p) ≡ Some (as_byte b q) → (b == 10) ≡ false → Stretch text (goes_on_with kind) n q r → HeadingParts text r events end
    → HeadingParts text p (part_events kind (text.start p) (text.start r) ++ events) end
further_as {text} {b} {n} {p} {q} {r} {end} {events} kind is e inner stretch parts =
    subst (λ (k : HeadingPart). HeadingParts text p (part_events k (text.start p) (text.start r) ++ events) end) is
    (further e inner (subst (λ (k : HeadingPart). Stretch text (goes_on_with k) n q r) (sym is) stretch) parts)

-- ---- reading

module _ {T : Type 0} (now : InLine T) (once : SkipsOnce now.text) (whole : now.config.tokenize_state.connect ≡ false) (rank : ℕ) where
  abbrev c0 : Config Flows
  c0 = at_hand now

  abbrev x : Context T
  x = now.context

  abbrev text : Text
  text = now.text

  -- what is kept, but for the columns that may follow
  abbrev k : KeptState
  k = record now.config.tokenize_state { size = rank }

  -- at a place after the opening sequence, with these events so far
  record Held (es : List Event) (c : Config Flows) (p : Point) : Type 0 where
    pub columns : ℕ
    pub at : AtHand text c p
    pub here : Here text c0 es (spaced columns k) c
    pub apart : is_feed c.previous ≡ false

  -- the rest of the line was read
  record Finished (c : Config Flows) (es : List Event) (p : Point) (codes : List ℕ) : Type 0 where
    pub config : Config Flows
    pub columns : ℕ
    pub inside : List Event
    pub end : Point
    pub goes : GoesOn x text c (states.Retry at_break) config states.Ok
    pub parts : HeadingParts text p inside end
    pub at : AtHand text config end
    pub events : config.events ≡ es ++ (inside ++ event Exit names.HeadingAtx (text.start end) None ∷ [])
    pub kept : config.tokenize_state ≡ spaced columns k
    pub map : config.map ≡ c0.map
    pub resolvers : config.resolvers ≡ with_last resolvers.HeadingAtx c0.resolvers
    pub free : config.interrupt ≡ false
    pub sees : Sees text end (after_line codes)

  ends : (es : List Event) (c : Config Flows) (p : Point) (codes : List ℕ) → Held es c p → LineEnds text p → Sees text p (after_line codes)
      → run (flows_bodies x at_break) c ≡ plain (finished c) states.Ok → Finished c es p codes
  ends es c p codes h stop s e = let f = exits text c0 names.HeadingAtx h.here h.apart h.at.point in record {
    config = finished c;
    columns = h.columns;
    inside = [];
    end = p;
    goes = does x text at_break c (finished c) states.Ok e;
    parts = over stop;
    at = still_at refl refl refl h.at;
    events = f.events;
    kept = f.kept;
    map = f.map;
    resolvers = ap (λ (l : List Resolver). with_last resolvers.HeadingAtx l) f.resolvers;
    free = refl;
    sees = s;
  }

  -- a part was read, and then the rest of the line
  after_part : (kind : HeadingPart) (name : EventName) (link : Option Link) (es : List Event) (c d : Config Flows) (p q r : Point) (b n : ℕ)
      (codes rest : List ℕ)
      → ((from to : Point) → part_events kind from to ≡ event Enter name from link ∷ event Exit name to None ∷ []) → part_of b ≡ kind
      → text.byte (text.start p) ≡ Some (as_byte b q) → (b == 10) ≡ false → Stretch text (goes_on_with kind) n q r
      → GoesOn x text c (states.Retry at_break) d (states.Retry at_break) → after_line rest ≡ after_line codes
      → Finished d ((es ++ event Enter name (text.start p) link ∷ []) ++ event Exit name (text.start r) None ∷ []) r rest → Finished c es p codes
  after_part kind name link es c d p q r b n codes rest are is e inner stretch g same o = record {
    config = o.config;
    columns = o.columns;
    inside = part_events kind (text.start p) (text.start r) ++ o.inside;
    end = o.end;
    goes = and_on x text g o.goes;
    parts = further_as kind is e inner stretch o.parts;
    at = o.at;
    events = o.events
        ∙ (two es (event Enter name (text.start p) link) (event Exit name (text.start r) None)
        (o.inside ++ event Exit names.HeadingAtx (text.start o.end) None ∷ [])
        ∙ ap (λ (l : List Event). es ++ ((l ++ o.inside) ++ event Exit names.HeadingAtx (text.start o.end) None ∷ []))
        (sym (are (text.start p) (text.start r))));
    kept = o.kept;
    map = o.map;
    resolvers = o.resolvers;
    free = o.free;
    sees = subst (λ (l : List ℕ). Sees text o.end l) same o.sees;
  }

  -- what reading comes to before fewer codes than these
  abbrev Lines : ℕ → Type 0
  Lines bound = (codes : List ℕ) → length codes < bound → (p : Point) → Sees text p codes → (es : List Event) (c : Config Flows) → Held es c p
      → weight (line_of codes) ≤ no_limit → Finished c es p codes

  module _ (bound : ℕ) (further_lines : Lines bound) where
    -- over a part of one sort, which has neither tabs nor line endings
    over_part : (kind : HeadingPart) (name : EventName) (link : Option Link) (inside : Name) → goes_on_with kind 10 ≡ false → goes_on_with kind 9 ≡ false
        → ((from to : Point) → part_events kind from to ≡ event Enter name from link ∷ event Exit name to None ∷ [])
        → ((b : ℕ) (c : Config Flows) → c.current ≡ Some b → goes_on_with kind b ≡ true
        → run (flows_bodies x inside) c ≡ plain (past_byte c) (states.Next inside))
        → ((c : Config Flows) → has (goes_on_with kind) c.current ≡ false
        → run (flows_bodies x inside) c ≡ plain (with_exit name c) (states.Retry at_break))
        → (code : ℕ) (cs : List ℕ) → length cs < bound → (p q : Point) (b : ℕ) → text.byte (text.start p) ≡ Some (as_byte b q) → Sees text q cs
        → part_of b ≡ kind → (b == 10) ≡ false → is_eol code ≡ false → (es : List Event) (c : Config Flows) → Held es c p
        → run (flows_bodies x at_break) c ≡ plain (past_byte (with_enter name link c)) (states.Next inside)
        → weight (line_of (code ∷ cs)) ≤ no_limit → Finished c es p (code ∷ cs)
    over_part kind name link inside no_feed no_tab are more stop code cs few p q b e s is inner eol es c h begins room =
        let f = some_seen text (goes_on_with kind) no_tab cs s in
        let first : Config Flows = feed text (past_byte (with_enter name link c)) in
        let entered : Here text c0 (es ++ event Enter name (text.start p) link ∷ []) (spaced h.columns k) first = record {
          events = ap (λ (q : Point). c.events ++ event Enter name q link ∷ []) h.at.point
              ∙ ap (λ (l : List Event). l ++ event Enter name (text.start p) link ∷ []) h.here.events;
          kept = h.here.kept;
          map = h.here.map;
          resolvers = h.here.resolvers;
        } in
        let o = over_stretch (flows_bodies x) text inside (goes_on_with kind) no_feed more c0 (es ++ event Enter name (text.start p) link ∷ [])
        (spaced h.columns k) f.stretch first (fed text (past_byte (with_enter name link c)) q (h.at.next (as_byte b q) e)) entered
        (ap is_feed (byte_at h.at e) ∙ inner) in
        let sort : (c : ℕ) → goes_on_with kind (text_byte c) ≡ true → is_eol c ≡ false = λ c t. sym (seen_feed c) ∙ apart_feed (goes_on_with kind) no_feed
        (text_byte c) t in
        let size = rest_within (λ c. goes_on_with kind (text_byte c)) cs in
        let least = weight_rest (λ c. goes_on_with kind (text_byte c)) sort cs in
        let l = ap weight (line_more code cs eol) in
        let some = weight_some code (line_of cs) in
        after_part kind name link es c (with_exit name o.config) p q f.end b f.count (code ∷ cs)
        (drop (prefix_len (λ c. goes_on_with kind (text_byte c)) cs) cs)
        are is e inner f.stretch
        (and_on x text (does_next x text at_break inside c (past_byte (with_enter name link c)) begins) (and_on x text o.goes
        (does x text inside o.config (with_exit name o.config) (states.Retry at_break)
        (stop o.config (ap (has (goes_on_with kind)) o.at.current ∙ stops f.stretch)))))
        (after_rest (λ c. goes_on_with kind (text_byte c)) sort cs ∙ sym (after_more code cs eol))
        (further_lines (drop (prefix_len (λ c. goes_on_with kind (text_byte c)) cs) cs) (omega (arith, few, size)) f.end f.sees
        ((es ++ event Enter name (text.start p) link ∷ []) ++ event Exit name (text.start f.end) None ∷ []) (with_exit name o.config)
        (record {
          columns = h.columns;
          at = still_at refl refl refl o.at;
          here = exits text c0 name o.here o.apart o.at.point;
          apart = o.apart;
        }) (omega (arith, least, l, some, room)))

    -- over spaces and tabs
    over_spaces : (code : ℕ) (cs : List ℕ) → length cs < bound → (p : Point) → Sees text p (code ∷ cs) → is_white code ≡ true → (b : ℕ) (q : Point)
        → text.byte (text.start p) ≡ Some (as_byte b q) → (b == 10) ≡ false → is_space_or_tab b ≡ true → (es : List Event) (c : Config Flows) → Held es c p
        → weight (line_of (code ∷ cs)) ≤ no_limit → Finished c es p (code ∷ cs)
    over_spaces code cs few p s is b q e inner white es c h room =
        let most = white_within (code ∷ cs) in
        let ready : Config Flows = record c { tokenize_state = spaced no_limit c.tokenize_state } in
        let a = attempted (flows_bodies x) (flows_white x) text c0 k es no_limit ready p (still_at refl refl refl h.at)
        (record { events = h.here.events; kept = ap (spaced no_limit) h.here.kept; map = h.here.map; resolvers = h.here.resolvers }) whole code cs s is
        (omega (arith, most, room)) in
        let run_on = of_whites a.stretch (not_white text (bare (code ∷ cs)) a.end a.sees (bare_apart (code ∷ cs))) in
        let size = rest_within is_white cs in
        let shorter = ap length (rest_more is_white code cs is) in
        let least = weight_line_bare (code ∷ cs) in
        after_part White names.SpaceOrTab None es c (feed text a.config) p a.next a.end a.code run_on.count (code ∷ cs) (bare (code ∷ cs)) (λ from to. refl)
        (ap (λ (w : Bool). if w then White else (if a.code == 35 then Signs else Words)) a.white) a.first
        (apart_feed is_space_or_tab refl a.code a.white) run_on.stretch
        (and_on x text (tried x text at_break c ready a.config (states.Next at_break) states.Nok (part state_inline.SpaceOrTabStart)
        (break_white x b c (byte_at h.at e) inner white) a.reads) (feeds x text at_break a.config))
        (after_bare (code ∷ cs))
        (further_lines (bare (code ∷ cs)) (omega (arith, few, size, shorter)) a.end a.sees
        ((es ++ event Enter names.SpaceOrTab (text.start p) None ∷ []) ++ event Exit names.SpaceOrTab (text.start a.end) None ∷ []) (feed text a.config)
        (record {
          columns = a.columns;
          at = fed_again text a.config a.end once a.there.at;
          here = fed_here text c0 a.there.here;
          apart = a.there.apart;
        }) (omega (arith, least, room)))

    line_on : Lines (suc bound)
    line_on [] few p (nothing e) es c h room =
        ends es c p [] h (ap (λ v. has (λ b. not (b == 10)) (byte_of v)) e) (nothing e) (break_none x c (end_at h.at e))
    line_on (code ∷ cs) few p (byte {q = q} apart e s) es c h room = elim (cases_Bool (is_eol code)) [
      | inl eol ↦
          let feed_is : text.byte (text.start p) ≡ Some (as_byte 10 q) = e ∙ ap (λ (b : ℕ). Some (as_byte b q)) (seen_eol code eol) in
          ends es c p (code ∷ cs) h (ap (λ v. has (λ b. not (b == 10)) (byte_of v)) feed_is)
          (subst (λ (l : List ℕ). Sees text p l) (sym (after_none code cs eol)) (byte apart e s)) (break_line x c (byte_at h.at feed_is))
      | inr eol ↦
          let inner : (text_byte code == 10) ≡ false = seen_feed code ∙ eol in elim (cases_Bool (is_white code)) [
            | inl is ↦ over_spaces code cs (omega (arith, few)) p (byte apart e s) is (text_byte code) q e inner (seen_white code ∙ is) es c h room
            | inr black ↦
                let dark : is_space_or_tab (text_byte code) ≡ false = seen_white code ∙ black in elim (cases_Bool (text_byte code == 35)) [
                  | inl sign ↦ over_part Signs names.HeadingAtxSequence None in_signs refl refl (λ from to. refl) (signs_more x) (signs_end x) code cs
                      (omega (arith, few)) p q (text_byte code) e s
                      (ap (λ (w : Bool). if w then White else (if text_byte code == 35 then Signs else Words)) dark
                      ∙ ap (λ (w : Bool). if w then Signs else Words) sign)
                      inner eol es c h (break_signs x (text_byte code) c (byte_at h.at e) inner dark sign) room
                  | inr word ↦ over_part Words names.Data text_chunk in_words refl refl (λ from to. refl) (words_more x) (λ d t. words_end x d.current d refl t)
                      code cs (omega (arith, few)) p q (text_byte code) e s
                      (ap (λ (w : Bool). if w then White else (if text_byte code == 35 then Signs else Words)) dark
                      ∙ ap (λ (w : Bool). if w then Signs else Words) word)
                      inner eol es c h (break_words x (text_byte code) c (byte_at h.at e) inner dark word) room
                ]
          ]
    ]
    line_on (code ∷ cs) few p (tab {q = q} most e f s) es c h room =
        over_spaces 9 cs (omega (arith, few)) p (tab most e f s) refl 9 q e refl refl es c h room

  reads : (bound : ℕ) → Lines bound
  reads zero = λ codes few p s es c h room. absurd (omega (arith, few))
  reads (suc bound) = line_on bound (reads bound)

-- ---- after the opening sequence

sign_inner : (c : ℕ) → (c == 35) ≡ true → is_eol c ≡ false
sign_inner c h = ap is_eol (eqb-true c 35 h)

-- the rank of a heading is how many there are
rank_of : (on : Bool) (l : List ℕ) (heading : Atx) → (if on then atx_of l else None) ≡ Some heading → run_length 35 l ≡ heading.rank
rank_of true l heading e = sym (heading_is l heading e).0
rank_of false l heading e = absurd (let f : None ≡ Some heading = e in cc)

of_opening : {T : Type 0} (here : InLine T) → SkipsOnce here.text → length (line_of here.codes) < 2 ^ 62 → here.config.tokenize_state.connect ≡ false
    → (o : Option Atx) → (if here.context.options.constructs.heading_atx then atx_of (line here) else None) ≡ o → OpeningVerdict here o → HeadingVerdict here o
of_opening here once few whole None e (d, r) = (d, r)
of_opening here once few whole (Some heading) e (d, mid, goes, leaves, apart, sees) =
    let rank = rank_of here.context.options.constructs.heading_atx (line here) heading e in
    let size : heading.rank ≡ run_length 35 here.codes = sym rank ∙ prefix_line (λ c. c == 35) sign_inner here.codes in
    let rest : drop heading.rank here.codes ≡ drop (run_length 35 here.codes) here.codes = ap (λ (i : ℕ). drop i here.codes) size in
    let least = weight_rest (λ c. c == 35) sign_inner here.codes in
    let same = ap (λ (l : List ℕ). weight (line_of l)) rest in
    let most = weight_four (line_of here.codes) in
    let o = reads here once whole heading.rank (suc (length (drop heading.rank here.codes))) (drop heading.rank here.codes) (omega arith) mid sees
    ((at_hand here).events ++ opening_events (here.text.start here.place) (here.text.start mid)) d (record {
      columns = here.config.tokenize_state.size_c;
      at = leaves.at;
      here = record { events = leaves.events; kept = leaves.kept; map = leaves.map; resolvers = leaves.resolvers };
      apart = apart;
    }) (omega (arith, least, same, most, few)) in (
      o.config,
      o.columns,
      mid,
      o.inside,
      o.end,
      ends_well here.context here.text (at_hand here) o.config (states.Retry (Block state_block.HeadingAtxStart)) (and_on here.context here.text goes o.goes),
      record {
        events = o.events ∙ append_assoc (at_hand here).events (opening_events (here.text.start here.place) (here.text.start mid))
            (o.inside ++ event Exit names.HeadingAtx (here.text.start o.end) None ∷ []);
        at = o.at;
        kept = o.kept;
        map = o.map;
        resolvers = o.resolvers;
      },
      sees,
      o.parts,
      o.free,
      subst (λ (l : List ℕ). Sees here.text o.end l) (ap after_line rest ∙ after_rest (λ c. c == 35) sign_inner here.codes) o.sees,
    )

pub heading_atx_line_verdict : (T : Type 0) → HeadingAtxLineVerdict T
heading_atx_line_verdict T here s once few whole =
    of_opening here once few whole (if here.context.options.constructs.heading_atx then atx_of (line here) else None) refl (heading_atx_verdict T here s)
