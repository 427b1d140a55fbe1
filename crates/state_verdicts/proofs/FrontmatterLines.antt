-- The lines of frontmatter, one after another, up to its closing fence.
use Rattle.std.proofs.Common.{◌≡◌, ◌∙◌, ℕ, zero, suc, ◌^◌, ◌<◌, Bool, true, false, not, ◌==◌, if◌then◌else◌, List, [], ◌∷◌, ◌++◌, drop, length}
use Rattle.std.proofs.Common.{Option, Some, None, inl, inr, refl, sym, ap, subst, arith, append_assoc, append-nil}
use Rattle.state_verdicts.proofs.BlockPrelude.{after_line, as_byte, AtHand, byte, byte_of, cases_Bool, Config, Context, eqb-true, event, Event, feed, has}
use Rattle.state_verdicts.proofs.BlockPrelude.{is_eol, is_feed, is_inner, KeptState, line_of, LineEnds, Name, nothing, past_byte, plain, Point, prefix_len, run, Sees}
use Rattle.state_verdicts.proofs.BlockPrelude.{SkipsOnce, tab, Text, text_byte, tries, with_enter, with_exit}
use Rattle.definition_block.specs.Frontmatter.{after_metadata_fence, is_metadata_fence}
use Rattle.definition_text.specs.Lines.{TextLine}
use Rattle.engine_events.specs.declared.event.Kind.TheVariants.{Enter, Exit}
use Rattle.engine_events.specs.declared.event.Name.TheVariants as names
use Rattle.engine_programs.specs.Bodies.{Body}
use Rattle.engine_states.specs.declared.state.Block.TheVariants as state_block
use Rattle.engine_states.specs.declared.state.Name.TheVariants.{Block}
use Rattle.engine_states.specs.declared.state.State.TheVariants as states
use Rattle.markdown_engine.specs.Reading.{hand_on}
use Rattle.state_document.specs.Blocks.{blocks_bodies}
use Rattle.state_document.specs.Readers.{Calls}
use Rattle.state_verdicts.specs.DocumentVerdicts.{InDocument}
use Rattle.state_verdicts.specs.Frontmatter.{ClosingVerdict, ContentAt, MetadataLines, blank, chunk, chunk_events, closes, closing_events}
use Rattle.state_verdicts.specs.Frontmatter.{further, is_inner_byte, is_metadata_byte}
use Rattle.state_verdicts.specs.Lines.{code_lines}
use Rattle.state_verdicts.specs.Machines.{GoesOnBy}
use Rattle.state_verdicts.specs.Stretch.{Stretch, ended, longer}
use Rattle.state_verdicts.specs.WhiteSpace.{ending_events}
use Rattle.state_verdicts.proofs.FrontmatterCloses.{frontmatter_closing_verdict}
use Rattle.state_verdicts.proofs.LineCodes.{after_more, after_none, first_line_is, line_within, rest_more, rest_none, rest_within}
use Rattle.state_verdicts.proofs.MachineTurns.{and_on, byte_at, does, does_next, end_at, fed, fed_again, feeds, missed, stays, still_at, tried}
use Rattle.state_verdicts.proofs.Markers.{flip, flop}
use Rattle.state_verdicts.proofs.Seen.{seen_feed}
use Rattle.state_verdicts.proofs.Standing.{ended_events, exits, past_ending, two}
use Rattle.state_verdicts.proofs.StretchReads.{over_stretch}
use Rattle.state_verdicts.proofs.Stretches.{part_seen}

abbrev pub content_end : Name
content_end = Block state_block.FrontmatterContentEnd

abbrev content_start : Name
content_start = Block state_block.FrontmatterContentStart

abbrev content_inside : Name
content_inside = Block state_block.FrontmatterContentInside

abbrev close_start : Name
close_start = Block state_block.FrontmatterCloseStart

abbrev pub after : Name
after = Block state_block.FrontmatterAfter

-- ---- lines of codes

-- what is after the next fence, by the first line
abbrev fence_else : ℕ → List ℕ → Bool → Option (List TextLine)
fence_else m codes is =
    if is then Some (code_lines (drop 1 (after_line codes))) else after_metadata_fence m (code_lines (drop 1 (after_line codes)))

after_is : (m : ℕ) (codes : List ℕ) → after_metadata_fence m (code_lines codes) ≡ fence_else m codes (is_metadata_fence m (line_of codes))
after_is m [] = refl
after_is m (code ∷ cs) = ap (after_metadata_fence m) (first_line_is code cs).is

-- up to the end of the line
drop_same : (cs : List ℕ) → drop (prefix_len (λ c. is_inner_byte (text_byte c)) cs) cs ≡ after_line cs
drop_same [] = refl
drop_same (c ∷ cs) = elim (cases_Bool (is_eol c)) [
  | inl h ↦ rest_none (λ c. is_inner_byte (text_byte c)) c cs (ap not (seen_feed c ∙ h)) ∙ sym (after_none c cs h)
  | inr h ↦ rest_more (λ c. is_inner_byte (text_byte c)) c cs (ap not (seen_feed c ∙ h)) ∙ (drop_same cs ∙ sym (after_more c cs h))
]

stops : (text : Text) (is : ℕ → Bool) {n : ℕ} {q r : Point} → Stretch text is n q r → has is (byte_of (text.byte (text.start r))) ≡ false
stops text is (ended stop) = stop
stops text is (longer e h rest) = stops text is rest

-- ---- what the states do

module _ {T V : Type 0} (calls : Calls T V) (x : Context T) where
  end_does : (c : Config V) → c.current ≡ Some 10 → run (blocks_bodies calls x content_end) c
      ≡ tries (states.Next after) (states.Next content_start) (past_ending c) (states.Next close_start)
  unfolding blocks_bodies
  end_does c h = rw h refl

  start_none : (c : Config V) → c.current ≡ None → run (blocks_bodies calls x content_start) c ≡ plain c states.Nok
  unfolding blocks_bodies
  start_none c h = rw h refl

  start_line : (c : Config V) → c.current ≡ Some 10 → run (blocks_bodies calls x content_start) c ≡ plain c (states.Retry content_end)
  unfolding blocks_bodies
  start_line c h = rw h refl

  start_goes : (b : ℕ) (c : Config V) → c.current ≡ Some b → (b == 10) ≡ false
      → run (blocks_bodies calls x content_start) c ≡ plain (past_byte (with_enter names.FrontmatterChunk None c)) (states.Next content_inside)
  unfolding blocks_bodies
  start_goes b c h k = rw (h, k) refl

  inside_none : (c : Config V) → c.current ≡ None → run (blocks_bodies calls x content_inside) c ≡ plain c states.Nok
  unfolding blocks_bodies
  inside_none c h = rw h refl

  inside_line : (c : Config V) → c.current ≡ Some 10
      → run (blocks_bodies calls x content_inside) c ≡ plain (with_exit names.FrontmatterChunk c) (states.Retry content_end)
  unfolding blocks_bodies
  inside_line c h = rw h refl

  inside_goes : (b : ℕ) (c : Config V) → c.current ≡ Some b → is_inner_byte b ≡ true
      → run (blocks_bodies calls x content_inside) c ≡ plain (past_byte c) (states.Next content_inside)
  unfolding blocks_bodies
  inside_goes b c h k = let f = flop (b == 10) k in rw (h, f) refl

-- ---- reading

module _ {T V : Type 0} (calls : Calls T V) (x : Context T) (text : Text) (once : SkipsOnce text) (byte_is : ℕ) (fence : is_metadata_byte byte_is ≡ true)
    (k0 : KeptState) (marker : k0.marker ≡ byte_is) (whole : k0.connect ≡ false) (c0 : Config V) where
  abbrev bodies : Name → Body V
  bodies = blocks_bodies calls x

  abbrev pub counting : ℕ → ℕ → KeptState
  counting size columns = record k0 { size = size; size_c = columns }

  -- at a place, with this kept
  pub record Held (c : Config V) (p : Point) : Type 0 where
    pub size : ℕ
    pub columns : ℕ
    pub at : AtHand text c p
    pub kept : c.tokenize_state ≡ counting size columns
    pub map : c.map ≡ c0.map
    pub resolvers : c.resolvers ≡ c0.resolvers

  -- the closing fence is behind
  pub record Closed (c : Config V) (p : Point) (codes : List ℕ) (others : List TextLine) : Type 0 where
    pub config : Config V
    pub columns : ℕ
    pub inside : List Event
    pub end : Point
    pub left : List ℕ
    pub goes : GoesOnBy bodies text c (states.Retry content_end) config (states.Retry after)
    pub events : config.events ≡ c.events ++ inside
    pub at : AtHand text config end
    pub apart : is_feed config.previous ≡ false
    pub kept : config.tokenize_state ≡ counting 3 columns
    pub map : config.map ≡ c0.map
    pub resolvers : config.resolvers ≡ c0.resolvers
    pub lines : MetadataLines text byte_is codes p inside end left
    pub ends : LineEnds text end
    pub sees : Sees text end left
    pub is : code_lines (drop 1 left) ≡ others

  abbrev pub Outcome : Option (List TextLine) → Config V → Point → List ℕ → Type 0
  Outcome None c p codes = (d : Config V) × GoesOnBy bodies text c (states.Retry content_end) d states.Nok
  Outcome (Some others) c p codes = Closed c p codes others

  -- a line was read from its start to its end
  record AtBreak (c : Config V) (q r : Point) : Type 0 where
    pub config : Config V
    pub name : Name
    pub goes : GoesOnBy bodies text c (states.Retry content_start) config (states.Retry name)
    pub at : AtHand text config r
    pub fails : config.current ≡ None → run (bodies name) config ≡ plain config states.Nok
    pub next : Config V
    pub ends : config.current ≡ Some 10 → run (bodies name) config ≡ plain next (states.Retry content_end)
    pub held : List Event
    pub content : ContentAt text q held r
    pub events : next.events ≡ c.events ++ held
    pub at_next : AtHand text next r
    pub kept : next.tokenize_state ≡ c.tokenize_state
    pub map : next.map ≡ c.map
    pub resolvers : next.resolvers ≡ c.resolvers

  over_line : {n : ℕ} {q r : Point} → Stretch text is_inner_byte n q r → (c : Config V) → AtHand text c q → AtBreak c q r
  over_line (ended stop) c at = record {
    config = c;
    name = content_start;
    goes = stays bodies text c (states.Retry content_start);
    at = at;
    fails = start_none calls x c;
    next = c;
    ends = start_line calls x c;
    held = [];
    content = blank stop;
    events = sym (append-nil c.events);
    at_next = at;
    kept = refl;
    map = refl;
    resolvers = refl;
  }
  over_line {q = q} {r = r} (longer {b = b} {q = q1} e h st) c at =
      let begun : Config V = past_byte (with_enter names.FrontmatterChunk None c) in
      let o = over_stretch bodies text content_inside is_inner_byte refl (inside_goes calls x) c
      (c.events ++ event Enter names.FrontmatterChunk (text.start q) None ∷ []) c.tokenize_state st (feed text begun)
      (fed text begun q1 (at.next (as_byte b q1) e))
      (record {
        events = ap (λ (z : Point). c.events ++ event Enter names.FrontmatterChunk z None ∷ []) at.point;
        kept = refl;
        map = refl;
        resolvers = refl;
      }) (ap is_feed (byte_at at e) ∙ flop (b == 10) h) in
      let f = exits text c names.FrontmatterChunk o.here o.apart o.at.point in record {
        config = o.config;
        name = content_inside;
        goes = and_on bodies text (does_next bodies text content_start content_inside c begun (start_goes calls x b c (byte_at at e) (flop (b == 10) h))) o.goes;
        at = o.at;
        fails = inside_none calls x o.config;
        next = with_exit names.FrontmatterChunk o.config;
        ends = inside_line calls x o.config;
        held = chunk_events (text.start q) (text.start r);
        content = chunk e h st;
        events = f.events
            ∙ two c.events (event Enter names.FrontmatterChunk (text.start q) None) (event Exit names.FrontmatterChunk (text.start r) None);
        at_next = still_at refl refl refl o.at;
        kept = f.kept;
        map = f.map;
        resolvers = f.resolvers;
      }

  -- what comes of fewer codes than these after a line ending
  abbrev Lines : ℕ → Type 0
  Lines bound = (code : ℕ) (codes : List ℕ) → length codes < bound → length codes < 2 ^ 62 → (c : Config V) (p q : Point) → Held c p
      → text.byte (text.start p) ≡ Some (as_byte 10 q) → Sees text q codes → Outcome (after_metadata_fence byte_is (code_lines codes)) c p (code ∷ codes)

  module _ (bound : ℕ) (more : Lines bound) (code : ℕ) (codes : List ℕ) (few : length codes < suc bound) (small : length codes < 2 ^ 62) (c : Config V)
      (p q : Point) (h : Held c p) (e : text.byte (text.start p) ≡ Some (as_byte 10 q)) (s : Sees text q codes) where
    abbrev at_line : Config V
    at_line = past_ending c

    feed_is : c.current ≡ Some 10
    feed_is = byte_at h.at e

    next_is : c.next ≡ q
    next_is = h.at.next (as_byte 10 q) e

    events_is : at_line.events ≡ c.events ++ ending_events (text.start p) q
    events_is = ended_events c (text.start p) q feed_is h.at.point next_is

    abbrev here : InDocument T V
    here = record { calls = calls; context = x; text = text; config = at_line; place = at_line.point; codes = codes }

    tries_it : run (bodies content_end) c ≡ tries (states.Next after) (states.Next content_start) at_line (states.Next close_start)
    tries_it = end_does calls x c feed_is

    marker_is : at_line.tokenize_state.marker ≡ byte_is
    marker_is = ap (λ (k : KeptState). k.marker) h.kept ∙ marker

    closing : ClosingVerdict here (is_metadata_fence at_line.tokenize_state.marker (line_of codes))
    closing = frontmatter_closing_verdict T V here (subst (λ (r : Point). Sees text r codes) (sym next_is) s) once
        (let l = line_within codes in omega (arith, l, small)) (ap (λ (k : KeptState). k.connect) h.kept ∙ whole) (ap is_metadata_byte marker_is ∙ fence)

    -- the line is the closing fence
    closed : is_metadata_fence byte_is (line_of codes) ≡ true → ClosingVerdict here true → Closed c p (code ∷ codes) (code_lines (drop 1 (after_line codes)))
    closed is (d, columns, mid, end, reads, leaves, apart, sees_mid, ends, sees_end) = record {
      config = feed text d;
      columns = columns;
      inside = ending_events (text.start p) q ++ closing_events (drop 3 codes) (text.start q) (text.start mid) (text.start end);
      end = end;
      left = after_line codes;
      goes = and_on bodies text (tried bodies text content_end c at_line d (states.Next after) (states.Next content_start) (states.Next close_start) tries_it
          ((feeds bodies text close_start at_line).there d true reads)) (feeds bodies text after d);
      events = leaves.events
          ∙ (ap (λ (l : List Event). l ++ closing_events (drop 3 codes) (text.start at_line.point) (text.start mid) (text.start end)) events_is
          ∙ (append_assoc c.events (ending_events (text.start p) q) (closing_events (drop 3 codes) (text.start at_line.point) (text.start mid) (text.start end))
          ∙ ap (λ (r : Point). c.events
          ++ (ending_events (text.start p) q ++ closing_events (drop 3 codes) (text.start r) (text.start mid) (text.start end))) next_is));
      at = fed_again text d end once leaves.at;
      apart = apart;
      kept = leaves.kept ∙ ap (λ (k : KeptState). record k { size = 3; size_c = columns }) h.kept;
      map = leaves.map ∙ h.map;
      resolvers = leaves.resolvers ∙ h.resolvers;
      lines = closes e s is sees_mid ends;
      ends = ends;
      sees = sees_end;
      is = refl;
    }

    module _ (not_fence : is_metadata_fence byte_is (line_of codes) ≡ false) (v : ClosingVerdict here false) where
      abbrev failed : Config V
      failed = v.0

      abbrev again : Config V
      again = feed text (hand_on at_line failed)

      goes_again : GoesOnBy bodies text c (states.Retry content_end) again (states.Retry content_start)
      goes_again = and_on bodies text (missed bodies text content_end c at_line failed (states.Next after) (states.Next content_start)
          (states.Next close_start) tries_it ((feeds bodies text close_start at_line).there failed false v.1))
          (feeds bodies text content_start (hand_on at_line failed))

      at_again : AtHand text again q
      at_again = fed text (hand_on at_line failed) q next_is

      module _ {n : ℕ} {r : Point} (stretch : Stretch text is_inner_byte n q r) where
        b : AtBreak again q r
        b = over_line stretch again at_again

        -- the next line ending is reached
        goes_next : b.config.current ≡ Some 10 → GoesOnBy bodies text c (states.Retry content_end) b.next (states.Retry content_end)
        goes_next now = and_on bodies text goes_again (and_on bodies text b.goes (does bodies text b.name b.config b.next (states.Retry content_end) (b.ends now)))

        held_next : Held b.next r
        held_next = record {
          size = v.2.size;
          columns = v.2.columns;
          at = b.at_next;
          kept = b.kept ∙ (v.2.kept ∙ ap (λ (k : KeptState). record k { size = v.2.size; size_c = v.2.columns }) h.kept);
          map = b.map ∙ (v.2.map ∙ h.map);
          resolvers = b.resolvers ∙ (v.2.resolvers ∙ h.resolvers);
        }

        extend : (o : Option (List TextLine)) (l : List ℕ) → after_line codes ≡ l → Sees text r l → b.config.current ≡ Some 10 → Outcome o b.next r l
            → Outcome o c p (code ∷ codes)
        extend None l is seen now (d, g) = (d, and_on bodies text (goes_next now) g)
        extend (Some others) l is seen now z = record {
          config = z.config;
          columns = z.columns;
          inside = ending_events (text.start p) q ++ (b.held ++ z.inside);
          end = z.end;
          left = z.left;
          goes = and_on bodies text (goes_next now) z.goes;
          events = z.events
              ∙ (ap (λ (l : List Event). l ++ z.inside) (b.events ∙ ap (λ (l : List Event). l ++ b.held) events_is)
              ∙ regroup c.events (ending_events (text.start p) q) b.held z.inside);
          at = z.at;
          apart = z.apart;
          kept = z.kept;
          map = z.map;
          resolvers = z.resolvers;
          lines = further e s not_fence b.content (subst (λ (l : List ℕ). Sees text r l) (sym is) seen)
              (subst (λ (l : List ℕ). MetadataLines text byte_is l r z.inside z.end z.left) (sym is) z.lines);
          ends = z.ends;
          sees = z.sees;
          is = z.is;
        }
          where
            regroup : (l a b y : List Event) → ((l ++ a) ++ b) ++ y ≡ l ++ (a ++ (b ++ y))
            regroup l a b y = simp append_assoc refl

        by_rest : (l : List ℕ) → after_line codes ≡ l → Sees text r l → Outcome (after_metadata_fence byte_is (code_lines (drop 1 l))) c p (code ∷ codes)
        by_rest [] is (nothing none) = (
          b.config,
          and_on bodies text goes_again (and_on bodies text b.goes (does bodies text b.name b.config b.config states.Nok (b.fails (end_at b.at none)))),
        )
        by_rest (code2 ∷ codes2) is (byte {q = q2} apart e2 s2) =
            let is_feed_byte = flip (text_byte code2 == 10) (sym (ap (λ z. has is_inner_byte (byte_of z)) e2) ∙ stops text is_inner_byte stretch) in
            let e3 : text.byte (text.start r) ≡ Some (as_byte 10 q2) = e2 ∙ ap (λ (i : ℕ). Some (as_byte i q2)) (eqb-true (text_byte code2) 10 is_feed_byte) in
            let within = rest_within is_inner codes in
            let size = ap length is in
            extend (after_metadata_fence byte_is (code_lines codes2)) (code2 ∷ codes2) is (byte apart e2 s2) (byte_at b.at e3)
            (more code2 codes2 (omega (arith, within, size, few)) (omega (arith, within, size, small)) b.next r q2 held_next e3 s2)
        by_rest (code2 ∷ codes2) is (tab most e2 f s2) =
            absurd (let g : true ≡ false = sym (ap (λ z. has is_inner_byte (byte_of z)) e2) ∙ stops text is_inner_byte stretch in cc)

      goes_on_lines : Outcome (after_metadata_fence byte_is (code_lines (drop 1 (after_line codes)))) c p (code ∷ codes)
      goes_on_lines =
          let g = part_seen text is_inner_byte refl refl codes s in
          by_rest g.stretch (after_line codes) refl (subst (λ (l : List ℕ). Sees text g.end l) (drop_same codes) g.sees)

    by_closing : (is : Bool) → is_metadata_fence byte_is (line_of codes) ≡ is → ClosingVerdict here is
        → Outcome (fence_else byte_is codes is) c p (code ∷ codes)
    by_closing true is v = closed is v
    by_closing false is v = goes_on_lines is v

    line_on : Outcome (after_metadata_fence byte_is (code_lines codes)) c p (code ∷ codes)
    line_on =
        subst (λ (o : Option (List TextLine)). Outcome o c p (code ∷ codes)) (sym (after_is byte_is codes))
        (by_closing (is_metadata_fence byte_is (line_of codes)) refl
        (subst (λ (i : ℕ). ClosingVerdict here (is_metadata_fence i (line_of codes))) marker_is closing))

  lines_of : (bound : ℕ) → Lines bound
  lines_of zero code codes few small c p q h e s = absurd (omega (arith, few))
  lines_of (suc bound) code codes few small c p q h e s = line_on bound (lines_of bound) code codes few small c p q h e s

  -- from the line ending that codes begin with
  pub over_lines : (code : ℕ) (codes : List ℕ) → length codes < 2 ^ 62 → (c : Config V) (p q : Point) → Held c p
      → text.byte (text.start p) ≡ Some (as_byte 10 q) → Sees text q codes → Outcome (after_metadata_fence byte_is (code_lines codes)) c p (code ∷ codes)
  over_lines code codes small = lines_of (suc (length codes)) code codes (omega arith) small
