-- Further lines of indented code: an attempt at them goes over blank lines up to one that is indented, and fails where the code ends.
use Rattle.std.proofs.Common.{◌≡◌, ◌∙◌, ℕ, zero, suc, ◌+◌, ◌-◌, ◌<◌, ◌≤◌, min, Bool, true, false, ◌==◌, ◌&&◌, leb, nat_lt, ◌⊎◌}
use Rattle.std.proofs.Common.{List, [], ◌∷◌, ◌++◌, drop, length, Option, Some, None, inl, inr, refl, sym, ap, subst, arith, append_assoc, append-nil, length-append}
use Rattle.std.proofs.lemmas.Bool.{eq-eqb, ne_eqb}
use Rattle.std.proofs.lemmas.List.{length-drop}
use Rattle.state_verdicts.proofs.BlockPrelude.{after_line, as_byte, AtHand, bare, byte_of, cases_Bool, cases_lt, Config, Context, event, Event, feed, Flows}
use Rattle.state_verdicts.proofs.BlockPrelude.{has, indent, is_eol, is_feed, is_inner, is_space_or_tab, is_white, KeptState, le-leb, line_of, LineEnds}
use Rattle.state_verdicts.proofs.BlockPrelude.{list_all, lt-leb, lt-ltb, Name, part, Point, SkipsOnce, Text, text_byte, with_exit}
use Rattle.definition_block.specs.CodeIndented.{starts_code_indented}
use Rattle.definition_block.specs.Tree.{BlockLine, Indented, beside_line, rest_line}
use Rattle.definition_text.specs.Columns.{Rest, is_blank}
use Rattle.definition_text.specs.Indents.{outdent}
use Rattle.definition_text.specs.Lines.{TextLine, text_line}
use Rattle.engine_events.specs.declared.event.Kind.TheVariants.{Enter, Exit}
use Rattle.engine_events.specs.declared.event.Name.TheVariants as names
use Rattle.engine_programs.specs.Bodies.{Body}
use Rattle.engine_states.specs.declared.state.Inline.TheVariants as state_inline
use Rattle.engine_states.specs.declared.state.State.TheVariants as states
use Rattle.markdown_options.specs.declared.beside.Kind.TheVariants.{Whitespace}
use Rattle.markdown_options.specs.declared.configuration.Constructs.{Constructs}
use Rattle.markdown_options.specs.declared.line_ending.LineEnding.{LineEnding}
use Rattle.state_flow.specs.Flows.{flows_bodies}
use Rattle.state_verdicts.specs.CodeIndented.{CodeLines, chunk_if, further, line_events, over, own_code, with_lines}
use Rattle.state_verdicts.specs.Columns.{SeesColumns, along, ended}
use Rattle.state_verdicts.specs.Lines.{code_lines, is_filled}
use Rattle.state_verdicts.specs.Machines.{GoesOnBy}
use Rattle.state_verdicts.specs.WhiteSpace.{ending_events, white_events, white_if}
use Rattle.state_verdicts.proofs.CodeIndentedStates as does_it
use Rattle.state_verdicts.proofs.CodeIndentedStates.{further_after, further_begin, further_start, in_line}
use Rattle.state_verdicts.proofs.ColumnLoops.{OverColumns, over_columns}
use Rattle.state_verdicts.proofs.ColumnReads.{Taken, TakenIf, attempted}
use Rattle.state_verdicts.proofs.LineCodes.{after_bare, after_more, after_none, bare_apart, blank_bare, first_line_is, indent_line, line_more, line_none, none_white}
use Rattle.state_verdicts.proofs.LineCodes.{prefix_more, prefix_none, rest_within}
use Rattle.state_verdicts.proofs.MachineTurns.{and_on, byte_at, does, does_next, end_at, fed, fed_again, feeds, still_at, tried}
use Rattle.state_verdicts.proofs.Seen.{eol_white, seen_eol, seen_feed, seen_white, white_inner}
use Rattle.state_verdicts.proofs.Standing.{Here, ending_here, enters, exits, fed_here, past_ending, past_here}
use Rattle.state_verdicts.proofs.WhiteReads.{flows_white, spaced}

-- ---- white space at the front of a line

-- what is left of a line without some of its white space
pub record Outdented (n : ℕ) (codes : List ℕ) : Type 0 where
  pub after : after_line (drop n codes) ≡ after_line codes
  pub blank : is_blank (line_of (drop n codes)) ≡ is_blank (line_of codes)

blank_white : (c : ℕ) (cs : List ℕ) → is_white c ≡ true → is_blank (line_of (c ∷ cs)) ≡ is_blank (line_of cs)
blank_white c cs h = ap (list_all is_white) (line_more c cs (white_inner c h)) ∙ ap (λ (b : Bool). b && list_all is_white (line_of cs)) h

blank_black : (c : ℕ) (cs : List ℕ) → is_eol c ≡ false → is_white c ≡ false → is_blank (line_of (c ∷ cs)) ≡ false
blank_black c cs inner h = ap (list_all is_white) (line_more c cs inner) ∙ ap (λ (b : Bool). b && list_all is_white (line_of cs)) h

pub outdented : (n : ℕ) (codes : List ℕ) → n ≤ indent codes → Outdented n codes
outdented zero codes h = record { after = refl; blank = refl }
outdented (suc n) [] h = absurd (omega (arith, h))
outdented (suc n) (c ∷ cs) h = elim (cases_Bool (is_white c)) [
  | inl is ↦ let size = prefix_more is_white c cs is in let o = outdented n cs (omega (arith, h, size)) in
      record { after = o.after ∙ sym (after_more c cs (white_inner c is)); blank = o.blank ∙ sym (blank_white c cs is) }
  | inr is ↦ absurd (let size = prefix_none is_white c cs is in omega (arith, h, size))
]

-- ---- what the definition makes of a line

module _ (on : Constructs) (rest : Rest) (ending : Option LineEnding) (others : List TextLine) (ls pending : List BlockLine) where
  abbrev own : BlockLine
  own = rest_line (outdent 4 rest) (beside_line Whitespace (text_line rest ending))

  takes_blank : is_blank rest ≡ true
      → with_lines on (Indented ls pending) (text_line rest ending ∷ others) ≡ with_lines on (Indented ls (pending ++ own ∷ [])) others
  takes_blank h = rw h refl

  takes_code : is_blank rest ≡ false → starts_code_indented on rest ≡ true
      → with_lines on (Indented ls pending) (text_line rest ending ∷ others) ≡ with_lines on (Indented (ls ++ pending ++ own ∷ []) []) others
  takes_code h k = rw (h, k) refl

  takes_none : is_blank rest ≡ false → starts_code_indented on rest ≡ false
      → with_lines on (Indented ls pending) (text_line rest ending ∷ others) ≡ Indented ls pending
  takes_none h k = rw (h, k) refl

-- code with these lines, and blank ones after them, has so many more with the first of these, and goes on before the others
pub record Grown (on : Constructs) (before after : List TextLine) (count : ℕ) (ls pending : List BlockLine) : Type 0 where
  pub now : List BlockLine
  pub size : length now ≡ length ls + (length pending + count)
  pub is : with_lines on (Indented ls pending) before ≡ with_lines on (Indented now []) after

abbrev pub Grows : Constructs → List TextLine → List TextLine → ℕ → Type 0
Grows on before after count = (ls pending : List BlockLine) → Grown on before after count ls pending

-- code with these lines, and blank ones after them, has none of these
abbrev pub Stays : Constructs → List TextLine → Type 0
Stays on others = (ls pending : List BlockLine) → own_code (with_lines on (Indented ls pending) others) ≡ ls

module _ (on : Constructs) (code : ℕ) (cs : List ℕ) where
  abbrev codes : List ℕ
  codes = code ∷ cs

  abbrev others : List TextLine
  others = code_lines (drop 1 (after_line codes))

  abbrev ending_is : Option LineEnding
  ending_is = (first_line_is code cs).ending

  first_is : (ls pending : List BlockLine)
      → with_lines on (Indented ls pending) (code_lines codes) ≡ with_lines on (Indented ls pending) (text_line (line_of codes) ending_is ∷ others)
  first_is ls pending = ap (with_lines on (Indented ls pending)) (first_line_is code cs).is

  -- a blank line first
  blank_first : is_blank (line_of codes) ≡ true → (after : List TextLine) (count : ℕ) → Grows on others after count → Grows on (code_lines codes) after (count + 1)
  blank_first h after count g ls pending =
      let line = own on (line_of codes) ending_is others ls pending in
      let more = g ls (pending ++ line ∷ []) in
      let size = more.size in
      let add : length (pending ++ line ∷ []) ≡ length pending + 1 = length-append pending (line ∷ []) in record {
        now = more.now;
        size = omega (arith, size, add);
        is = first_is ls pending ∙ (takes_blank on (line_of codes) ending_is others ls pending h ∙ more.is);
      }

  blank_stays : is_blank (line_of codes) ≡ true → Stays on others → Stays on (code_lines codes)
  blank_stays h g ls pending =
      ap own_code (first_is ls pending ∙ takes_blank on (line_of codes) ending_is others ls pending h)
      ∙ g ls (pending ++ own on (line_of codes) ending_is others ls pending ∷ [])

  -- a line of code first
  code_first : is_blank (line_of codes) ≡ false → starts_code_indented on (line_of codes) ≡ true → Grows on (code_lines codes) others 1
  code_first h k ls pending =
      let line = own on (line_of codes) ending_is others ls pending in
      let one = length-append (ls ++ pending) (line ∷ []) in
      let two = length-append ls pending in record {
        now = ls ++ pending ++ line ∷ [];
        size = omega (arith, one, two);
        is = first_is ls pending ∙ takes_code on (line_of codes) ending_is others ls pending h k;
      }

  -- a line of something else
  other_stays : is_blank (line_of codes) ≡ false → starts_code_indented on (line_of codes) ≡ false → Stays on (code_lines codes)
  other_stays h k ls pending = ap own_code (first_is ls pending ∙ takes_none on (line_of codes) ending_is others ls pending h k)

-- ---- reading

module _ {T : Type 0} (x : Context T) (text : Text) (once : SkipsOnce text) (code_on : x.options.constructs.code_indented ≡ true) (k : KeptState)
    (whole : k.connect ≡ false) (c0 : Config Flows) where
  abbrev bodies : Name → Body Flows
  bodies = flows_bodies x

  abbrev on : Constructs
  on = x.options.constructs

  -- at a place, with these events, outside containers
  pub record Held (es : List Event) (c : Config Flows) (p : Point) : Type 0 where
    pub columns : ℕ
    pub at : AtHand text c p
    pub here : Here text c0 es (spaced columns k) c
    pub lazy : c.lazy ≡ false
    pub pierce : c.pierce ≡ false

  -- before a line ending: the attempt stands in the chunk of the next line that isn't blank
  pub record Found (es : List Event) (c : Config Flows) (p : Point) (code : ℕ) (cs : List ℕ) : Type 0 where
    pub config : Config Flows
    pub goes : GoesOnBy bodies text c (states.Retry further_start) config states.Ok
    pub count : ℕ
    pub columns : ℕ
    pub before : List Event
    pub chunk : Point
    pub place : Point
    pub at : AtHand text (feed text config) place
    pub here : Here text c0 (es ++ (before ++ event Enter names.CodeFlowChunk (text.start chunk) None ∷ [])) (spaced columns k) config
    pub apart : is_feed config.previous ≡ false
    pub lazy : config.lazy ≡ false
    pub pierce : config.pierce ≡ false
    pub rest : List ℕ
    pub sees : SeesColumns text place rest
    pub shorter : length rest ≤ length cs
    pub lines : (r : Point) → LineEnds text r → SeesColumns text r (after_line rest)
        → CodeLines text count (code ∷ cs) p (before ++ chunk_if true (text.start chunk) (text.start r)) r (after_line rest)
    pub grows : Grows on (code_lines cs) (code_lines (drop 1 (after_line rest))) count

  -- there is none: the attempt fails
  pub record Missing (c : Config Flows) (cs : List ℕ) : Type 0 where
    pub config : Config Flows
    pub goes : GoesOnBy bodies text c (states.Retry further_start) config states.Nok
    pub columns : ℕ
    pub kept : config.tokenize_state ≡ spaced columns k
    pub map : config.map ≡ c0.map
    pub resolvers : config.resolvers ≡ c0.resolvers
    pub stays : Stays on (code_lines cs)

  abbrev pub Outcome : List Event → Config Flows → Point → ℕ → List ℕ → Type 0
  Outcome es c p code cs = Found es c p code cs ⊎ Missing c cs

  -- what comes of fewer codes than these after a line ending
  abbrev Lines : ℕ → Type 0
  Lines bound = (code : ℕ) (cs : List ℕ) → length cs < bound → (es : List Event) (c : Config Flows) (p q : Point) → Held es c p
      → text.byte (text.start p) ≡ Some (as_byte 10 q) → SeesColumns text q cs → Outcome es c p code cs

  module _ (bound : ℕ) (more : Lines bound) (code : ℕ) (es : List Event) (c : Config Flows) (p q : Point) (h : Held es c p)
      (e : text.byte (text.start p) ≡ Some (as_byte 10 q)) where
    -- after the line ending
    abbrev at_line : Config Flows
    at_line = feed text (past_ending c)

    feed_is : c.current ≡ Some 10
    feed_is = byte_at h.at e

    next_is : c.next ≡ q
    next_is = h.at.next (as_byte 10 q) e

    abbrev line_es : List Event
    line_es = es ++ ending_events (text.start p) q

    -- the events of the line, where it has its indent up to a place, and ends at another
    abbrev line_is : List ℕ → Point → Point → List Event
    line_is cs mid r = line_events cs (text.start q) (text.start mid) (text.start r)

    goes_line : GoesOnBy bodies text c (states.Retry further_start) at_line (states.Retry further_start)
    goes_line = does_next bodies text further_start further_start c (past_ending c) (does_it.start_line x c h.lazy h.pierce feed_is)

    held_line : Held line_es at_line q
    held_line = record {
      columns = h.columns;
      at = fed text (past_ending c) q next_is;
      here = fed_here text c0 (ending_here text c0 h.here feed_is h.at.point next_is);
      lazy = h.lazy;
      pierce = h.pierce;
    }

    -- where the attempt fails
    fails_at : (cs : List ℕ) (es2 : List Event) (d : Config Flows) (w : ℕ) → Here text c0 es2 (spaced w k) d
        → GoesOnBy bodies text c (states.Retry further_start) d states.Nok → Stays on (code_lines cs) → Outcome es c p code cs
    fails_at cs es2 d w here goes stays =
        inr (record { config = d; goes = goes; columns = w; kept = here.kept; map = here.map; resolvers = here.resolvers; stays = stays })

    -- over a blank line, to its ending
    over_blank : (code2 : ℕ) (cs2 : List ℕ) (mid r : Point) (d : Config Flows) (code3 : ℕ) (cs3 : List ℕ) → SeesColumns text q (code2 ∷ cs2)
        → SeesColumns text mid (outdent 4 (code2 ∷ cs2)) → LineEnds text r → SeesColumns text r (code3 ∷ cs3) → after_line (code2 ∷ cs2) ≡ code3 ∷ cs3
        → is_blank (line_of (code2 ∷ cs2)) ≡ true → GoesOnBy bodies text c (states.Retry further_start) d (states.Retry further_start)
        → Outcome (line_es ++ line_is (code2 ∷ cs2) mid r) d r code3 cs3 → Outcome es c p code (code2 ∷ cs2)
    over_blank code2 cs2 mid r d code3 cs3 s s_mid ends s_r after blank goes o = elim o [
      | inl f ↦ inl (record {
        config = f.config;
        goes = and_on bodies text goes f.goes;
        count = f.count + 1;
        columns = f.columns;
        before = ending_events (text.start p) q ++ (line_is (code2 ∷ cs2) mid r ++ f.before);
        chunk = f.chunk;
        place = f.place;
        at = f.at;
        here = record {
          events = f.here.events ∙ regroup es (ending_events (text.start p) q) (line_is (code2 ∷ cs2) mid r) f.before (event Enter names.CodeFlowChunk (text.start f.chunk) None ∷ []);
          kept = f.here.kept;
          map = f.here.map;
          resolvers = f.here.resolvers;
        };
        apart = f.apart;
        lazy = f.lazy;
        pierce = f.pierce;
        rest = f.rest;
        sees = f.sees;
        shorter = let g = f.shorter in let l = rest_within is_inner (code2 ∷ cs2) in let m = ap length after in omega (arith, g, l, m);
        lines = λ z ends_z s_z. subst (λ (l : List Event). CodeLines text (f.count + 1) (code ∷ code2 ∷ cs2) p l z (after_line f.rest))
            (group (ending_events (text.start p) q) (line_is (code2 ∷ cs2) mid r) f.before (chunk_if true (text.start f.chunk) (text.start z)))
            (further e s s_mid ends (subst (λ (l : List ℕ). SeesColumns text r l) (sym after) s_r)
            (subst (λ (l : List ℕ). CodeLines text f.count l r (f.before ++ chunk_if true (text.start f.chunk) (text.start z)) z (after_line f.rest)) (sym after)
            (f.lines z ends_z s_z)));
        grows = blank_first on code2 cs2 blank (code_lines (drop 1 (after_line f.rest))) f.count
            (subst (λ (l : List ℕ). Grows on (code_lines (drop 1 l)) (code_lines (drop 1 (after_line f.rest))) f.count) (sym after) f.grows);
      })
      | inr m ↦ inr (record {
        config = m.config;
        goes = and_on bodies text goes m.goes;
        columns = m.columns;
        kept = m.kept;
        map = m.map;
        resolvers = m.resolvers;
        stays = blank_stays on code2 cs2 blank (subst (λ (l : List ℕ). Stays on (code_lines (drop 1 l))) (sym after) m.stays);
      })
    ]
      where
        regroup : (l a b y z : List Event) → ((l ++ a) ++ b) ++ (y ++ z) ≡ l ++ ((a ++ (b ++ y)) ++ z)
        regroup l a b y z = simp append_assoc refl

        group : (a b y z : List Event) → a ++ (b ++ (y ++ z)) ≡ (a ++ (b ++ y)) ++ z
        group a b y z = simp append_assoc refl

    -- the line has white space at its front
    module _ (code2 : ℕ) (cs2 : List ℕ) (few : length (code2 ∷ cs2) < suc bound) (white : is_white code2 ≡ true) (s : SeesColumns text q (code2 ∷ cs2))
        (byte_is : at_line.current ≡ Some (text_byte code2)) where
      abbrev cs : List ℕ
      cs = code2 ∷ cs2

      abbrev ready : Config Flows
      ready = does_it.readied at_line

      abbrev Attempted : Bool → Type 0
      Attempted is = TakenIf bodies (flows_white x) text c0 k is line_es ready q 4 cs

      indent_is : indent cs ≡ suc (indent cs2)
      indent_is = prefix_more is_white code2 cs2 white

      o : Taken bodies (flows_white x) text c0 k line_es ready q 4 cs
      o = subst (λ (b : Bool). Attempted b) (lt-ltb 0 (min 4 (indent cs)) (let size = indent_is in omega (arith, size)))
          (attempted bodies (flows_white x) text c0 k line_es 4 ready q (still_at refl refl refl held_line.at)
          (record {
            events = held_line.here.events;
            kept = ap (spaced 4) held_line.here.kept;
            map = held_line.here.map;
            resolvers = held_line.here.resolvers;
          }) whole cs s)

      abbrev after_white : Config Flows
      after_white = feed text o.config

      at_white : AtHand text after_white o.end
      at_white = fed_again text o.config o.end once o.at

      -- the events of the indent
      abbrev white_is : List Event
      white_is = white_events cs (text.start q) (text.start o.end)

      abbrev white_es : List Event
      white_es = line_es ++ white_is

      here_white : Here text c0 white_es (spaced (4 - min 4 (indent cs)) k) after_white
      here_white = let f = fed_here text c0 o.here in record {
        events = f.events ∙ (append_assoc line_es (event Enter names.SpaceOrTab (text.start q) None ∷ []) (event Exit names.SpaceOrTab (text.start o.end) None ∷ [])
            ∙ ap (λ (b : Bool). line_es ++ white_if b (text.start q) (text.start o.end))
            (sym (lt-ltb 0 (indent cs) (let size = indent_is in omega (arith, size)))));
        kept = f.kept;
        map = f.map;
        resolvers = f.resolvers;
      }

      white_lazy : after_white.lazy ≡ false
      white_lazy = o.flags.lazy ∙ h.lazy

      white_pierce : after_white.pierce ≡ false
      white_pierce = o.flags.pierce ∙ h.pierce

      goes_white : GoesOnBy bodies text c (states.Retry further_start) after_white (states.Retry further_begin)
      goes_white = and_on bodies text goes_line (and_on bodies text (tried bodies text further_start at_line ready o.config (states.Next further_begin) states.Nok
          (part state_inline.SpaceOrTabStart) (does_it.start_white x at_line h.lazy h.pierce (text_byte code2) byte_is
          (seen_feed code2 ∙ white_inner code2 white) (seen_white code2 ∙ white)) o.reads) (feeds bodies text further_begin o.config))

      cut : Outdented (min 4 (indent cs)) cs
      cut = outdented (min 4 (indent cs)) cs (omega arith)

      -- the line ends after its indent
      module _ (code3 : ℕ) (cs3 : List ℕ) (is : outdent 4 cs ≡ code3 ∷ cs3) (eol : is_eol code3 ≡ true) (q3 : Point)
          (e3 : text.byte (text.start o.end) ≡ Some (as_byte 10 q3)) (s3 : SeesColumns text q3 cs3) (s_end : SeesColumns text o.end (code3 ∷ cs3)) where
        after_is : after_line cs ≡ code3 ∷ cs3
        after_is = sym cut.after ∙ (ap after_line is ∙ after_none code3 cs3 eol)

        blank_is : is_blank (line_of cs) ≡ true
        blank_is = sym cut.blank ∙ (ap (λ (l : List ℕ). is_blank (line_of l)) is ∙ ap is_blank (line_none code3 cs3 eol))

        no_chunk : is_filled (line_of (outdent 4 cs)) ≡ false
        no_chunk = ap (λ (l : List ℕ). is_filled (line_of l)) is ∙ ap is_filled (line_none code3 cs3 eol)

        here_short : Here text c0 (line_es ++ line_is cs o.end o.end) (spaced (4 - min 4 (indent cs)) k) after_white
        here_short = record {
          events = here_white.events
              ∙ (ap (λ (l : List Event). line_es ++ l) (sym (append-nil white_is))
              ∙ ap (λ (b : Bool). line_es ++ (white_is ++ chunk_if b (text.start o.end) (text.start o.end))) (sym no_chunk));
          kept = here_white.kept;
          map = here_white.map;
          resolvers = here_white.resolvers;
        }

        short_line : Outcome es c p code cs
        short_line =
            let size = ap length after_is in
            let within = rest_within is_inner cs in
            over_blank code2 cs2 o.end o.end after_white code3 cs3 s o.sees (ap (λ v. has in_line (byte_of v)) e3) s_end after_is blank_is
            (and_on bodies text goes_white (does bodies text further_begin after_white after_white (states.Retry further_start)
            (does_it.begin_line x after_white (byte_at at_white e3))))
            (more code3 cs3 (omega (arith, few, size, within)) (line_es ++ line_is cs o.end o.end) after_white o.end q3
            (record { columns = 4 - min 4 (indent cs); at = at_white; here = here_short; lazy = white_lazy; pierce = white_pierce }) e3 s3)

      -- the line isn't blank, and is indented
      module _ (code3 : ℕ) (cs3 : List ℕ) (is : outdent 4 cs ≡ code3 ∷ cs3) (inner : is_eol code3 ≡ false) (four : 4 ≤ indent cs) (q3 : Point)
          (e3 : text.byte (text.start o.end) ≡ Some (as_byte (text_byte code3) q3)) (s3 : SeesColumns text q3 cs3) where
        after_long : after_line cs ≡ after_line cs3
        after_long = sym cut.after ∙ (ap after_line is ∙ after_more code3 cs3 inner)

        blank_long : is_blank (line_of cs) ≡ is_blank (line_of (code3 ∷ cs3))
        blank_long = sym cut.blank ∙ ap (λ (l : List ℕ). is_blank (line_of l)) is

        chunk_is : is_filled (line_of (outdent 4 cs)) ≡ true
        chunk_is = ap (λ (l : List ℕ). is_filled (line_of l)) is ∙ ap is_filled (line_more code3 cs3 inner)

        cut_size : length cs3 ≤ length cs
        cut_size = let size = ap length is in let within = length-drop (min 4 (indent cs)) cs in omega (arith, size, within)

        no_columns : (after_white.tokenize_state.size_c == 0) ≡ true
        no_columns = ap (λ (t : KeptState). t.size_c == 0) here_white.kept ∙ eq-eqb (4 - min 4 (indent cs)) 0 (omega (arith, four))

        abbrev chunk_es : List Event
        chunk_es = white_es ++ event Enter names.CodeFlowChunk (text.start o.end) None ∷ []

        abbrev in_chunk : Config Flows
        in_chunk = does_it.begun after_white

        here_chunk : Here text c0 chunk_es (spaced (4 - min 4 (indent cs)) k) in_chunk
        here_chunk = past_here text c0 (enters text c0 names.CodeFlowChunk here_white at_white.point)

        inner_byte : (text_byte code3 == 10) ≡ false
        inner_byte = seen_feed code3 ∙ inner

        apart_chunk : is_feed in_chunk.previous ≡ false
        apart_chunk = ap is_feed (byte_at at_white e3) ∙ inner_byte

        -- the attempt goes well
        found : (d : Config Flows) (r : Point) (rest : List ℕ) → GoesOnBy bodies text c (states.Retry further_start) d states.Ok → AtHand text (feed text d) r
            → Here text c0 chunk_es (spaced (4 - min 4 (indent cs)) k) d → is_feed d.previous ≡ false → d.lazy ≡ false → d.pierce ≡ false
            → SeesColumns text r rest → length rest ≤ length cs3 → after_line rest ≡ after_line cs → is_blank (line_of cs) ≡ false → Outcome es c p code cs
        found d r rest goes at here apart lazy pierce sees size after filled = inl (record {
          config = d;
          goes = goes;
          count = 1;
          columns = 4 - min 4 (indent cs);
          before = ending_events (text.start p) q ++ white_is;
          chunk = o.end;
          place = r;
          at = at;
          here = record {
            events = here.events ∙ regroup es (ending_events (text.start p) q) white_is
                (event Enter names.CodeFlowChunk (text.start o.end) None ∷ []);
            kept = here.kept;
            map = here.map;
            resolvers = here.resolvers;
          };
          apart = apart;
          lazy = lazy;
          pierce = pierce;
          rest = rest;
          sees = sees;
          shorter = let l = cut_size in omega (arith, size, l);
          lines = λ z ends_z s_z. subst (λ (l : List Event). CodeLines text 1 (code ∷ cs) p l z (after_line rest))
              (group (ending_events (text.start p) q) white_is (chunk_if true (text.start o.end) (text.start z)))
              (subst (λ (b : Bool). CodeLines text 1 (code ∷ cs) p (ending_events (text.start p) q
              ++ ((white_is ++ chunk_if b (text.start o.end) (text.start z)) ++ [])) z (after_line rest)) chunk_is
              (further e s o.sees ends_z (subst (λ (l : List ℕ). SeesColumns text z l) after s_z)
              (subst (λ (l : List ℕ). CodeLines text 0 l z [] z (after_line rest)) after over)));
          grows = subst (λ (l : List ℕ). Grows on (code_lines cs) (code_lines (drop 1 l)) 1) (sym after) (code_first on code2 cs2 filled starts_it);
        })
          where
            regroup : (l a b z : List Event) → ((l ++ a) ++ b) ++ z ≡ l ++ ((a ++ b) ++ z)
            regroup l a b z = simp append_assoc refl

            group : (a b z : List Event) → a ++ ((b ++ z) ++ []) ≡ (a ++ b) ++ z
            group a b z = simp (append_assoc, append-nil) refl

            starts_it : starts_code_indented on (line_of cs) ≡ true
            starts_it = ap (λ (b : Bool). b && leb 4 (indent (line_of cs))) code_on ∙ le-leb 4 (indent (line_of cs)) (let l = indent_line cs in omega (arith, four, l))

        -- something begins after four columns
        black_line : is_white code3 ≡ false → Outcome es c p code cs
        black_line black = found in_chunk q3 cs3
            (and_on bodies text goes_white (does bodies text further_begin after_white in_chunk states.Ok (does_it.begin_black x after_white (text_byte code3)
            (byte_at at_white e3) inner_byte no_columns (seen_white code3 ∙ black))))
            (fed text in_chunk q3 (at_white.next (as_byte (text_byte code3) q3) e3)) here_chunk apart_chunk white_lazy white_pierce s3 (omega arith) (sym after_long)
            (blank_long ∙ blank_black code3 cs3 inner black)

        -- more white space follows
        module _ (more_white : is_white code3 ≡ true) where
          abbrev inside_chunk : Config Flows
          inside_chunk = feed text in_chunk

          v : OverColumns bodies text further_after is_space_or_tab is_white refl seen_white (λ b d now is. does_it.blank_goes x d b now is) c0 chunk_es
              (spaced (4 - min 4 (indent cs)) k) inside_chunk cs3
          v = over_columns bodies text further_after is_space_or_tab is_white refl seen_white (λ b d now is. does_it.blank_goes x d b now is) c0 chunk_es
              (spaced (4 - min 4 (indent cs)) k) cs3 s3 inside_chunk (fed text in_chunk q3 (at_white.next (as_byte (text_byte code3) q3) e3))
              (fed_here text c0 here_chunk) apart_chunk

          goes_over : GoesOnBy bodies text c (states.Retry further_start) v.config (states.Retry further_after)
          goes_over = and_on bodies text goes_white (and_on bodies text (does_next bodies text further_begin further_after after_white in_chunk
              (does_it.begin_white x after_white (text_byte code3) (byte_at at_white e3) inner_byte no_columns (seen_white code3 ∙ more_white))) v.goes)

          v_lazy : v.config.lazy ≡ false
          v_lazy = v.flags.lazy ∙ white_lazy

          v_pierce : v.config.pierce ≡ false
          v_pierce = v.flags.pierce ∙ white_pierce

          blank_rest : is_blank (line_of cs) ≡ is_blank (line_of (bare cs3))
          blank_rest = blank_long ∙ (blank_white code3 cs3 more_white ∙ sym (blank_bare cs3))

          after_rest_is : after_line cs ≡ after_line (bare cs3)
          after_rest_is = after_long ∙ sym (after_bare cs3)

          here_long : Here text c0 (line_es ++ line_is cs o.end v.end) (spaced (4 - min 4 (indent cs)) k) (with_exit names.CodeFlowChunk v.config)
          here_long = let f = exits text c0 names.CodeFlowChunk v.here v.apart v.at.point in record {
            events = f.events ∙ (regroup line_es white_is (event Enter names.CodeFlowChunk (text.start o.end) None)
                (event Exit names.CodeFlowChunk (text.start v.end) None)
                ∙ ap (λ (b : Bool). line_es ++ (white_is ++ chunk_if b (text.start o.end) (text.start v.end))) (sym chunk_is));
            kept = f.kept;
            map = f.map;
            resolvers = f.resolvers;
          }
            where
              regroup : (l a : List Event) (b z : Event) → ((l ++ a) ++ b ∷ []) ++ z ∷ [] ≡ l ++ (a ++ (b ∷ z ∷ []))
              regroup l a b z = simp append_assoc refl

          by_rest : (l : List ℕ) → bare cs3 ≡ l → SeesColumns text v.end l → Outcome es c p code cs
          by_rest [] rest_is (ended none) = fails_at cs chunk_es v.config (4 - min 4 (indent cs)) v.here
              (and_on bodies text goes_over (does bodies text further_after v.config v.config states.Nok (does_it.blank_none x v.config (end_at v.at none))))
              (blank_stays on code2 cs2 (blank_rest ∙ ap (λ (l : List ℕ). is_blank (line_of l)) rest_is)
              (subst (λ (l : List ℕ). Stays on (code_lines (drop 1 l))) (sym (after_rest_is ∙ ap after_line rest_is)) (λ ls pending. refl)))
          by_rest (code4 ∷ cs4) rest_is (along {q = q4} e4 s4) = elim (cases_Bool (is_eol code4)) [
            | inl eol ↦
                let e5 : text.byte (text.start v.end) ≡ Some (as_byte 10 q4) = e4 ∙ ap (λ (i : ℕ). Some (as_byte i q4)) (seen_eol code4 eol) in
                let left = with_exit names.CodeFlowChunk v.config in
                let after : after_line cs ≡ code4 ∷ cs4 = after_rest_is ∙ (ap after_line rest_is ∙ after_none code4 cs4 eol) in
                let size = ap length after in
                let within = rest_within is_inner cs in
                over_blank code2 cs2 o.end v.end left code4 cs4 s o.sees (ap (λ w. has in_line (byte_of w)) e5) (along e4 s4) after
                (blank_rest ∙ (ap (λ (l : List ℕ). is_blank (line_of l)) rest_is ∙ ap is_blank (line_none code4 cs4 eol)))
                (and_on bodies text goes_over (does bodies text further_after v.config left (states.Retry further_start)
                (does_it.blank_line x v.config (byte_at v.at e5))))
                (more code4 cs4 (omega (arith, few, size, within)) (line_es ++ line_is cs o.end v.end) left v.end q4
                (record { columns = 4 - min 4 (indent cs); at = still_at refl refl refl v.at; here = here_long; lazy = v_lazy; pierce = v_pierce }) e5 s4)
            | inr other ↦
                let black = none_white code4 cs4 (sym (ap indent rest_is) ∙ bare_apart cs3) in
                let size = ap length rest_is in
                let within = rest_within is_white cs3 in
                found v.config v.end (code4 ∷ cs4) (and_on bodies text goes_over (does bodies text further_after v.config v.config states.Ok
                (does_it.blank_other x v.config (text_byte code4) (byte_at v.at e4) (seen_feed code4 ∙ other) (seen_white code4 ∙ black))))
                (fed_again text v.config v.end once v.at) v.here v.apart v_lazy v_pierce (along e4 s4) (omega (arith, size, within))
                (sym (after_rest_is ∙ ap after_line rest_is))
                (blank_rest ∙ (ap (λ (l : List ℕ). is_blank (line_of l)) rest_is ∙ blank_black code4 cs4 other black))
          ]

        long_line : Outcome es c p code cs
        long_line = elim (cases_Bool (is_white code3)) [
          | inl is_it ↦ by_rest is_it (bare cs3) refl (v is_it).sees
          | inr black ↦ black_line black
        ]

      -- too few columns
      other_line : (code3 : ℕ) (cs3 : List ℕ) → outdent 4 cs ≡ code3 ∷ cs3 → is_eol code3 ≡ false → indent cs < 4 → (q3 : Point)
          → text.byte (text.start o.end) ≡ Some (as_byte (text_byte code3) q3) → Outcome es c p code cs
      other_line code3 cs3 is inner three q3 e3 =
          let taken : min 4 (indent cs) ≡ indent cs = omega (arith, three) in
          let bare_is : bare cs ≡ code3 ∷ cs3 = ap (λ (i : ℕ). drop i cs) (sym taken) ∙ is in
          let black = none_white code3 cs3 (sym (ap indent bare_is) ∙ bare_apart cs) in
          fails_at cs white_es after_white (4 - min 4 (indent cs)) here_white
          (and_on bodies text goes_white (does bodies text further_begin after_white after_white states.Nok (does_it.begin_few x after_white (text_byte code3)
          (byte_at at_white e3) (seen_feed code3 ∙ inner) (ap (λ (t : KeptState). t.size_c == 0) here_white.kept
          ∙ ne_eqb (4 - min 4 (indent cs)) 0 (λ z. omega (arith, three, z))))))
          (other_stays on code2 cs2 (sym cut.blank ∙ (ap (λ (l : List ℕ). is_blank (line_of l)) is ∙ blank_black code3 cs3 inner black))
          (ap (λ (b : Bool). b && leb 4 (indent (line_of cs))) code_on ∙ lt-leb 4 (indent (line_of cs)) (let l = indent_line cs in omega (arith, three, l))))

      by_outdent : (l : List ℕ) → outdent 4 cs ≡ l → SeesColumns text o.end l → Outcome es c p code cs
      by_outdent [] is (ended none) = fails_at cs white_es after_white (4 - min 4 (indent cs)) here_white
          (and_on bodies text goes_white (does bodies text further_begin after_white after_white states.Nok (does_it.begin_none x after_white (end_at at_white none))))
          (blank_stays on code2 cs2 (sym cut.blank ∙ ap (λ (l : List ℕ). is_blank (line_of l)) is)
          (subst (λ (l : List ℕ). Stays on (code_lines (drop 1 l))) (sym (sym cut.after ∙ ap after_line is)) (λ ls pending. refl)))
      by_outdent (code3 ∷ cs3) is (along {q = q3} e3 s3) = elim (cases_Bool (is_eol code3)) [
        | inl eol ↦ short_line code3 cs3 is eol q3 (e3 ∙ ap (λ (i : ℕ). Some (as_byte i q3)) (seen_eol code3 eol)) s3 (along e3 s3)
        | inr inner ↦ elim (cases_lt (indent cs) 4) [
          | inl three ↦ other_line code3 cs3 is inner three q3 e3
          | inr four ↦ long_line code3 cs3 is inner four q3 e3 s3
        ]
      ]

      white_line : Outcome es c p code cs
      white_line = by_outdent (outdent 4 cs) refl o.sees

    by_line : (cs : List ℕ) → length cs < suc bound → SeesColumns text q cs → Outcome es c p code cs
    by_line [] few (ended none) = fails_at [] line_es at_line held_line.columns held_line.here
        (and_on bodies text goes_line (does bodies text further_start at_line at_line states.Nok (does_it.start_none x at_line h.lazy h.pierce
        (end_at held_line.at none)))) (λ ls pending. refl)
    by_line (code2 ∷ cs2) few (along {q = q2} e2 s2) = elim (cases_Bool (is_eol code2)) [
      | inl eol ↦
          let e3 : text.byte (text.start q) ≡ Some (as_byte 10 q2) = e2 ∙ ap (λ (i : ℕ). Some (as_byte i q2)) (seen_eol code2 eol) in
          let black = eol_white code2 eol in
          let none = prefix_none is_white code2 cs2 black in
          let zero_is : min 4 (indent (code2 ∷ cs2)) ≡ 0 = omega (arith, none) in
          let line = line_none code2 cs2 eol in
          let no_events : line_events (code2 ∷ cs2) (text.start q) (text.start q) (text.start q) ≡ [] =
          ap (λ (n : ℕ). white_if (nat_lt 0 n) (text.start q) (text.start q)
          ++ chunk_if (is_filled (line_of (drop (min 4 n) (code2 ∷ cs2)))) (text.start q) (text.start q)) none
          ∙ ap (λ (l : List ℕ). chunk_if (is_filled l) (text.start q) (text.start q)) line in
          over_blank code2 cs2 q q at_line code2 cs2 (along e2 s2)
          (subst (λ (n : ℕ). SeesColumns text q (drop n (code2 ∷ cs2))) (sym zero_is) (along e2 s2))
          (ap (λ v. has in_line (byte_of v)) e3) (along e2 s2) (after_none code2 cs2 eol) (ap is_blank line) goes_line
          (more code2 cs2 (omega (arith, few)) (line_es ++ line_is (code2 ∷ cs2) q q) at_line q q2
          (record {
            columns = held_line.columns;
            at = held_line.at;
            here = record {
              events = held_line.here.events ∙ (sym (append-nil line_es) ∙ ap (λ (l : List Event). line_es ++ l) (sym no_events));
              kept = held_line.here.kept;
              map = held_line.here.map;
              resolvers = held_line.here.resolvers;
            };
            lazy = h.lazy;
            pierce = h.pierce;
          }) e3 s2)
      | inr inner ↦ elim (cases_Bool (is_white code2)) [
        | inl white ↦ white_line code2 cs2 few white (along e2 s2) (byte_at held_line.at e2)
        | inr black ↦
            let none = prefix_none is_white code2 cs2 black in
            let l = indent_line (code2 ∷ cs2) in
            fails_at (code2 ∷ cs2) line_es at_line held_line.columns held_line.here
            (and_on bodies text goes_line (does bodies text further_start at_line at_line states.Nok (does_it.start_other x at_line h.lazy h.pierce
            (text_byte code2) (byte_at held_line.at e2) (seen_feed code2 ∙ inner) (seen_white code2 ∙ black))))
            (other_stays on code2 cs2 (blank_black code2 cs2 inner black) (ap (λ (b : Bool). b && leb 4 (indent (line_of (code2 ∷ cs2)))) code_on
            ∙ lt-leb 4 (indent (line_of (code2 ∷ cs2))) (omega (arith, none, l))))
      ]
    ]

  lines_of : (bound : ℕ) → Lines bound
  lines_of zero code cs few es c p q h e s = absurd (omega (arith, few))
  lines_of (suc bound) code cs few es c p q h e s = by_line bound (lines_of bound) code es c p q h e cs few s

  -- from the line ending that codes begin with
  pub further_lines : (code : ℕ) (cs : List ℕ) (es : List Event) (c : Config Flows) (p q : Point) → Held es c p
      → text.byte (text.start p) ≡ Some (as_byte 10 q) → SeesColumns text q cs → Outcome es c p code cs
  further_lines code cs = lines_of (suc (length cs)) code cs (omega arith)
