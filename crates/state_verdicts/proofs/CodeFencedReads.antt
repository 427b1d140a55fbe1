-- An attempt at fenced code goes on at the end of the line where that is an opening fence, and fails elsewhere.
use Rattle.std.proofs.Common.{◌≡◌, ◌∙◌, ℕ, suc, ◌+◌, ◌<◌, ◌≤◌, ◌^◌, min, Bool, true, false, not, ◌==◌, ◌&&◌, ◌||◌, leb, nat_lt, if◌then◌else◌, List, []}
use Rattle.std.proofs.Common.{◌∷◌, ◌++◌}
use Rattle.std.proofs.Common.{drop, length, length-drop, Option, Some, None, inl, inr, refl, sym, ap, subst, arith, append_assoc, append-nil}
use Rattle.state_verdicts.proofs.BlockPrelude.{after_line, and_right, as_byte, AtHand, bare, byte, cases_Bool, Config, Context, eq-eqb, eqb-true}
use Rattle.state_verdicts.proofs.BlockPrelude.{event, Event}
use Rattle.state_verdicts.proofs.BlockPrelude.{feed, Flows, GoesOn, indent, InLine, Leaves, is_eol, is_feed}
use Rattle.state_verdicts.proofs.BlockPrelude.{is_space_or_tab, is_white, KeptState, line_of, LineEnds}
use Rattle.state_verdicts.proofs.BlockPrelude.{list_all, lt-ltb}
use Rattle.state_verdicts.proofs.BlockPrelude.{more}
use Rattle.state_verdicts.proofs.BlockPrelude.{no_limit, nothing, or_cases, part, plain, Point, run, Sees, SkipsOnce, State, tab, Text, text_byte, tries}
use Rattle.definition_block.specs.CodeFenced.{Fence, fence_by, fence_of}
use Rattle.definition_text.specs.Runs.{after_run, run as run_length}
use Rattle.std.proofs.lemmas.List.Sums.{prefix_len-le-length}
use Rattle.engine_events.specs.declared.event.Kind.TheVariants.{Enter, Exit}
use Rattle.engine_events.specs.declared.event.Name.TheVariants as names
use Rattle.engine_states.specs.declared.state.Inline.TheVariants as state_inline
use Rattle.engine_states.specs.declared.state.State.TheVariants as states
use Rattle.markdown_engine.specs.Reading.{at_point}
use Rattle.state_flow.specs.Flows.{flows_bodies}
use Rattle.state_verdicts.specs.CodeFenced.{CodeFencedVerdict, FenceVerdict, InfoAt, fence_events, fencing}
use Rattle.state_verdicts.specs.WhiteSpace.{white_events, white_if}
use Rattle.state_verdicts.specs.BlockVerdicts.{at_hand, line}
use Rattle.state_verdicts.proofs.BreakTexts.{is_few}
use Rattle.state_verdicts.proofs.FenceInfo.{named_on}
use Rattle.state_verdicts.proofs.FenceRest.{Anyhow, ReadsRest, reads_anyhow}
use Rattle.state_verdicts.proofs.FenceRuns.{Opened, Opening, over_fence}
use Rattle.state_verdicts.proofs.FenceLines.{FenceByte, Outcome, Held, marker_is, by_white, follow_bare, from_there, may_follow, reads}
use Rattle.state_verdicts.proofs.FenceStates as steps
use Rattle.state_verdicts.proofs.LineCodes.{after_bare, after_more, bare_apart, line_more, line_none, prefix_more, prefix_none, rest_more, weight, weight_four}
use Rattle.state_verdicts.proofs.LineCodes.{weight_line_bare, white_within}
use Rattle.state_verdicts.proofs.Seen.{seen_sort, seen_white}
use Rattle.state_verdicts.proofs.BlockTurns.{and_on, byte_at, does, does_next, end_at, fails, fed, fed_again, feeds, still_at, tried}
use Rattle.state_verdicts.proofs.Standing.{Here, exits, fed_here}
use Rattle.state_verdicts.proofs.WhiteReads.{Attempted, attempted, flows_white, spaced}

-- ---- what the definition says

follow_backtick : (l : List ℕ) → may_follow 96 l ≡ list_all (λ b. not (b == 96)) l
follow_backtick [] = refl
follow_backtick (c ∷ l) = ap (λ (b : Bool). not b && may_follow 96 l) (and_true (c == 96)) ∙ ap (λ (b : Bool). not (c == 96) && b) (follow_backtick l)
  where
    and_true : (b : Bool) → (b && true) ≡ b
    and_true true = refl
    and_true false = refl

follow_tilde : (l : List ℕ) → may_follow 126 l ≡ true
follow_tilde [] = refl
follow_tilde (c ∷ l) = ap (λ (b : Bool). not b && may_follow 126 l) (and_right (c == 126) false refl) ∙ follow_tilde l

-- a fence of so many of a byte
abbrev fence_if : Bool → ℕ → ℕ → ℕ → List ℕ → Option Fence
fence_if is m size columns after = if is then Some (fence_by m size columns after) else None

module _ (columns : ℕ) (l : List ℕ) where
  backtick_fence : fence_of columns (96 ∷ l)
      ≡ fence_if (leb 3 (run_length 96 (96 ∷ l)) && may_follow 96 (after_run 96 (96 ∷ l))) 96 (run_length 96 (96 ∷ l)) columns (after_run 96 (96 ∷ l))
  backtick_fence =
      ap (λ (i : ℕ). if leb 3 (run_length 96 (96 ∷ l)) && list_all (λ b. not (b == 96)) (after_run 96 (96 ∷ l))
      then Some (fence_by 96 (run_length 96 (96 ∷ l)) columns (after_run 96 (96 ∷ l)))
      else (if leb 3 i then Some (fence_by 126 i columns (drop i (96 ∷ l))) else None)) (prefix_none (λ b. b == 126) 96 l refl)
      ∙ ap (λ (b : Bool). fence_if (leb 3 (run_length 96 (96 ∷ l)) && b) 96 (run_length 96 (96 ∷ l)) columns (after_run 96 (96 ∷ l)))
      (sym (follow_backtick (after_run 96 (96 ∷ l))))

  tilde_fence : fence_of columns (126 ∷ l)
      ≡ fence_if (leb 3 (run_length 126 (126 ∷ l)) && may_follow 126 (after_run 126 (126 ∷ l))) 126 (run_length 126 (126 ∷ l)) columns
      (after_run 126 (126 ∷ l))
  tilde_fence =
      ap (λ (i : ℕ). if leb 3 i && list_all (λ b. not (b == 96)) (drop i (126 ∷ l)) then Some (fence_by 96 i columns (drop i (126 ∷ l)))
      else fence_if (leb 3 (run_length 126 (126 ∷ l))) 126 (run_length 126 (126 ∷ l)) columns (after_run 126 (126 ∷ l)))
      (prefix_none (λ b. b == 96) 126 l refl)
      ∙ ap (λ (b : Bool). fence_if b 126 (run_length 126 (126 ∷ l)) columns (after_run 126 (126 ∷ l))) (sym
      (ap (λ (b : Bool). leb 3 (run_length 126 (126 ∷ l)) && b) (follow_tilde (after_run 126 (126 ∷ l))) ∙ and_true (leb 3 (run_length 126 (126 ∷ l)))))
    where
      and_true : (b : Bool) → (b && true) ≡ b
      and_true true = refl
      and_true false = refl

  no_fence : run_length 96 l ≡ 0 → run_length 126 l ≡ 0 → fence_of columns l ≡ None
  no_fence h k =
      ap (λ (i : ℕ). if leb 3 i && list_all (λ b. not (b == 96)) (drop i l) then Some (fence_by 96 i columns (drop i l))
      else fence_if (leb 3 (run_length 126 l)) 126 (run_length 126 l) columns (after_run 126 l)) h
      ∙ ap (λ (i : ℕ). fence_if (leb 3 i) 126 i columns (drop i l)) k

-- ---- from the first byte on

white_is : (b : ℕ) → is_white b ≡ true → (is : ℕ → Bool) → is 32 ≡ false → is 9 ≡ false → is 256 ≡ false → is b ≡ false
white_is b h is i j k = elim (or_cases ((b == 32) || (b == 9)) (b == 256) h) [
  | inl l ↦ elim (or_cases (b == 32) (b == 9) l) [ inl e ↦ ap is (eqb-true b 32 e) ∙ i | inr e ↦ ap is (eqb-true b 9 e) ∙ j ]
  | inr e ↦ ap is (eqb-true b 256 e) ∙ k
]

backtick_byte : FenceByte 96
backtick_byte = record {
  itself = seen_sort (λ b. b == 96) refl refl refl refl;
  white_apart = λ c h. white_is c h (λ b. b == 96) refl refl refl;
  no_dollar = refl;
  no_feed = refl;
}

tilde_byte : FenceByte 126
tilde_byte = record {
  itself = seen_sort (λ b. b == 126) refl refl refl refl;
  white_apart = λ c h. white_is c h (λ b. b == 126) refl refl refl;
  no_dollar = refl;
  no_feed = refl;
}

module _ {T : Type 0} (here : InLine T) (once : SkipsOnce here.text) (few : length (line_of here.codes) < 2 ^ 62)
    (whole : here.config.tokenize_state.connect ≡ false) (columns : ℕ) (Says : Point → List Event → Point → Type 0)
    (says_none : (p : Point) → LineEnds here.text p → Says p [] p)
    (reads_on : (m size : ℕ) → FenceByte m
    → ReadsRest here.context here.text (at_hand here) (fencing m size 0 here.config.tokenize_state) Says m) where
  abbrev c0 : Config Flows
  c0 = at_hand here

  abbrev x : Context T
  x = here.context

  abbrev text : Text
  text = here.text

  abbrev p : Point
  p = here.place

  at_p : AtHand text c0 p
  at_p = fed text (at_point p here.config) p refl

  abbrev begins : State
  begins = states.Retry steps.start

  goes_in : GoesOn x text c0 begins c0 (states.Retry steps.before)
  goes_in = does x text steps.start c0 c0 (states.Retry steps.before) (steps.start_does x c0)

  -- what an attempt comes to, with what is said of the events after the info
  abbrev pub Opens : Option Fence → Type 0
  Opens None = FenceVerdict here None
  Opens (Some opening) =
      (d : Config Flows) × (spare : ℕ) × (mid : Point) × (info : Point) × (rest : Point) × (end : Point) × (named : List Event) × (further : List Event)
      × GoesOn x text c0 begins d (states.Retry steps.info_before)
      × Leaves text c0 d (fencing opening.byte opening.run spare here.config.tokenize_state) (fence_events (text.start p) (text.start mid)
      ++ (white_events (drop opening.run here.codes) (text.start mid) (text.start info) ++ (named ++ further))) end
      × (is_feed d.previous ≡ false) × Sees text mid (drop opening.run here.codes) × Sees text info (bare (drop opening.run here.codes))
      × InfoAt text info named rest × Says rest further end × LineEnds text end × Sees text end (after_line here.codes)

  refused : run (flows_bodies x steps.before) c0 ≡ plain c0 states.Nok → Opens None
  refused h = (c0, fails x text c0 c0 begins (and_on x text goes_in (does x text steps.before c0 c0 states.Nok h)))

  abbrev started : List Event
  started = ((c0.events ++ event Enter names.CodeFenced (text.start p) None ∷ []) ++ event Enter names.CodeFencedFence (text.start p) None ∷ [])
      ++ event Enter names.CodeFencedFenceSequence (text.start p) None ∷ []

  abbrev fenced : Point → List Event
  fenced mid = c0.events ++ fence_events (text.start p) (text.start mid)

  four : (l : List Event) (a b e f : Event) → (((l ++ a ∷ []) ++ b ∷ []) ++ e ∷ []) ++ f ∷ [] ≡ l ++ (a ∷ b ∷ e ∷ f ∷ [])
  four l a b e f = simp append_assoc refl

  three_more : (l : List Event) (a b : Event) (y : List Event) → ((l ++ a ∷ []) ++ b ∷ []) ++ y ≡ l ++ (a ∷ b ∷ y)
  three_more l a b y = simp append_assoc refl

  module _ (m : ℕ) (fence : FenceByte m) (inner : is_eol m ≡ false) (cs : List ℕ) (q : Point) (is : here.codes ≡ m ∷ cs)
      (e : text.byte (text.start p) ≡ Some (as_byte m q)) (s : Sees text q cs)
      (opens : run (flows_bodies x steps.before) c0 ≡ plain (steps.opened m c0) (states.Next steps.sequence)) where
    abbrev first : Config Flows
    first = feed text (steps.opened m c0)

    first_is : Opening x text c0 m (marker_is m fence) (fencing m 0 0 c0.tokenize_state) started 1 first q
    first_is = record {
      columns = c0.tokenize_state.size_c;
      at = fed text (steps.opened m c0) q (at_p.next (as_byte m q) e);
      here = record { events = refl; kept = refl; map = refl; resolvers = refl };
      apart = ap is_feed (byte_at at_p e) ∙ fence.no_feed;
    }

    over : Opened x text c0 m (marker_is m fence) (fencing m 0 0 c0.tokenize_state) started first 1 cs
    over = over_fence x text c0 m (marker_is m fence) (fencing m 0 0 c0.tokenize_state) started cs s 1 first first_is

    -- how many bytes the fence has
    abbrev size : ℕ
    size = 1 + run_length m (line_of cs)

    line_is : line here ≡ m ∷ line_of cs
    line_is = ap line_of is ∙ line_more m cs inner

    size_few : min size no_limit ≡ size
    size_few = let l = ap length line_is in let k = prefix_len-le-length (λ b. b == m) (line_of cs) in omega (arith, few, l, k)

    abbrev last : Config Flows
    last = over.config

    marker_last : last.tokenize_state.marker ≡ m
    marker_last = ap (λ (k : KeptState). k.marker) over.opening.here.kept

    -- what is kept after the fence
    abbrev kept : KeptState
    kept = fencing m size 0 here.config.tokenize_state

    after_fence : Held x text once c0 (fenced over.mid) kept whole m fence refl (steps.closed last) over.mid
    after_fence =
        let f = exits text c0 last.tokenize_state.token_3 over.opening.here over.opening.apart over.opening.at.point in record {
          columns = over.opening.columns;
          further = [];
          at = still_at refl refl refl over.opening.at;
          here = record {
            events =
                f.events
                ∙ (ap (λ (k : KeptState). started ++ event Exit k.token_3 (text.start over.mid) None ∷ []) over.opening.here.kept
                ∙ (four c0.events (event Enter names.CodeFenced (text.start p) None) (event Enter names.CodeFencedFence (text.start p) None)
                (event Enter names.CodeFencedFenceSequence (text.start p) None) (event Exit names.CodeFencedFenceSequence (text.start over.mid) None)
                ∙ sym (append-nil (fenced over.mid))));
            kept = f.kept ∙ ap (λ (i : ℕ). fencing m i over.opening.columns here.config.tokenize_state) size_few;
            map = f.map;
            resolvers = f.resolvers;
          };
          apart = over.opening.apart;
        }

    abbrev Ends : Bool → Type 0
    Ends good = Outcome x text once c0 (fenced over.mid) kept whole m fence refl good last (states.Retry steps.sequence) over.rest

    room : weight (line_of over.rest) ≤ no_limit
    room =
        let l = ap length line_is in
        let w = ap weight over.line in
        let f = weight_four (after_run m (line_of cs)) in
        let k = length-drop (run_length m (line_of cs)) (line_of cs) in omega (arith, few, l, w, f, k)

    reads_rest : Outcome x text once c0 (fenced over.mid) kept whole m fence refl (may_follow m (line_of over.rest)) (steps.closed last)
        (states.Retry steps.info_before) over.rest
    reads_rest = reads x text once c0 (fenced over.mid) kept whole m fence refl over.rest (steps.closed last) over.mid after_fence over.sees room

    passes : (run (flows_bodies x steps.sequence) last ≡ plain (steps.closed last) (states.Retry steps.info_before)) → Ends (may_follow m (line_of over.rest))
    passes h = from_there x text once c0 (fenced over.mid) kept whole m fence refl (may_follow m (line_of over.rest)) last (steps.closed last)
        (states.Retry steps.sequence) (states.Retry steps.info_before) over.rest over.rest
        (does x text steps.sequence last (steps.closed last) (states.Retry steps.info_before) h) refl reads_rest

    -- the end of the line is reached, with the info
    record Told : Type 0 where
      pub config : Config Flows
      pub spare : ℕ
      pub info : Point
      pub rest : Point
      pub end : Point
      pub named : List Event
      pub further : List Event
      pub goes : GoesOn x text last (states.Retry steps.sequence) config (states.Retry steps.info_before)
      pub at : AtHand text config end
      pub stands : Here text c0 (fenced over.mid ++ (white_events over.rest (text.start over.mid) (text.start info) ++ (named ++ further))) (spaced spare kept)
          config
      pub apart : is_feed config.previous ≡ false
      pub seen : Sees text info (bare over.rest)
      pub said : InfoAt text info named rest
      pub says : Says rest further end
      pub ends : LineEnds text end
      pub sees : Sees text end (after_line over.rest)

    abbrev Tells : Bool → Type 0
    Tells true = Told
    Tells false = (d : Config Flows) × GoesOn x text last (states.Retry steps.sequence) d states.Nok

    after_here : Here text c0 (fenced over.mid) (spaced after_fence.columns kept) (steps.closed last)
    unfolding after_fence
    after_here = record {
      events = after_fence.here.events ∙ append-nil (fenced over.mid);
      kept = after_fence.here.kept;
      map = after_fence.here.map;
      resolvers = after_fence.here.resolvers;
    }

    -- with no white space after the fence
    passes_told : indent over.rest ≡ 0 → run (flows_bodies x steps.sequence) last ≡ plain (steps.closed last) (states.Retry steps.info_before)
        → Tells (may_follow m (line_of over.rest))
    passes_told none_there h = by_follow (may_follow m (line_of over.rest)) refl
      where
        by_follow : (good : Bool) → may_follow m (line_of over.rest) ≡ good → Tells good
        by_follow true e = let o = named_on x text once c0 kept whole m fence refl refl Says says_none
            (reads_on m size fence) over.rest over.mid over.sees none_there e room (fenced over.mid)
            (steps.closed last) (record { columns = after_fence.columns; at = after_fence.at; here = after_here; apart = after_fence.apart }) in record {
              config = o.config;
              spare = o.columns;
              info = over.mid;
              rest = o.rest;
              end = o.end;
              named = o.named;
              further = o.further;
              goes = and_on x text (does x text steps.sequence last (steps.closed last) (states.Retry steps.info_before) h) o.goes;
              at = o.at;
              stands = record {
                events = o.here.events
                    ∙ ap (λ (i : ℕ). fenced over.mid ++ (white_if (nat_lt 0 i) (text.start over.mid) (text.start over.mid) ++ (o.named ++ o.further)))
                    (sym none_there);
                kept = o.here.kept;
                map = o.here.map;
                resolvers = o.here.resolvers;
              };
              apart = o.apart;
              seen = subst (λ (i : ℕ). Sees text over.mid (drop i over.rest)) (sym none_there) over.sees;
              said = o.info;
              says = o.says;
              ends = o.ends;
              sees = o.sees;
            }
        by_follow false e = subst (λ (good : Bool). Ends good) e (passes h)

    size_last : nat_lt last.tokenize_state.size 3 ≡ not (leb 3 size)
    size_last = ap (λ (k : KeptState). nat_lt k.size 3) over.opening.here.kept ∙ is_few size (leb 3 size) refl

    dollar_last : (last.tokenize_state.marker == 36) ≡ false
    dollar_last = ap (λ (i : ℕ). i == 36) marker_last ∙ fence.no_dollar

    -- after the fence, whatever it has at least three or not
    abbrev Ended : Bool → Type 0
    Ended long = Tells (long && may_follow m (line_of over.rest))

    few_bytes : run (flows_bodies x steps.sequence) last ≡ plain last states.Nok → Tells false
    few_bytes h = (last, does x text steps.sequence last last states.Nok h)

    at_none : (long : Bool) → leb 3 size ≡ long → last.current ≡ None → indent over.rest ≡ 0 → Ended long
    at_none true h k none_there = passes_told none_there (steps.sequence_none x last false k dollar_last (size_last ∙ ap not h))
    at_none false h k none_there = few_bytes (steps.sequence_none x last true k dollar_last (size_last ∙ ap not h))

    at_black : (long : Bool) (b : ℕ) → leb 3 size ≡ long → last.current ≡ Some b → (b == m) ≡ false → is_space_or_tab b ≡ false
        → indent over.rest ≡ 0 → Ended long
    at_black true b h k other black none_there = passes_told none_there (steps.sequence_other x b last false k (ap (λ (i : ℕ). b == i) marker_last ∙ other)
        dollar_last
        (size_last ∙ ap not h) black)
    at_black false b h k other black none_there = few_bytes (steps.sequence_other x b last true k (ap (λ (i : ℕ). b == i) marker_last ∙ other) dollar_last
        (size_last ∙ ap not h) black)

    at_white : (long : Bool) (b code : ℕ) (rest : List ℕ) → leb 3 size ≡ long → last.current ≡ Some b → (b == m) ≡ false → is_space_or_tab b ≡ true
        → over.rest ≡ code ∷ rest → is_white code ≡ true → Ended long
    at_white true b code rest h k other white now is_it = by_follow (may_follow m (line_of over.rest)) refl
      where
        tried_it : run (flows_bodies x steps.sequence) last
            ≡ tries (states.Next steps.info_before) states.Nok (steps.readied (steps.closed last)) (part state_inline.SpaceOrTabStart)
        tried_it = steps.sequence_white x b last false k (ap (λ (i : ℕ). b == i) marker_last ∙ other) dollar_last (size_last ∙ ap not h) white

        failed : Ends (may_follow m (line_of over.rest))
        failed =
            subst (λ (l : List ℕ). Outcome x text once c0 (fenced over.mid) kept whole m fence refl (may_follow m (line_of l)) last
            (states.Retry steps.sequence) l) (sym now)
            (by_white x text once c0 (fenced over.mid) kept whole m fence refl steps.sequence steps.info_before last (steps.closed last) over.mid code rest
            after_fence (subst (λ (l : List ℕ). Sees text over.mid l) now over.sees) is_it
            (subst (λ (l : List ℕ). weight (line_of l) ≤ no_limit) now room)
            (steps.sequence_white x b last false k (ap (λ (i : ℕ). b == i) marker_last ∙ other) dollar_last (size_last ∙ ap not h) white)
            (λ d r j t. reads x text once c0 (fenced over.mid) kept whole m fence refl (bare (code ∷ rest)) d r j t
            (let w = weight_line_bare (code ∷ rest) in
            let o : weight (line_of (code ∷ rest)) ≤ no_limit = subst (λ (l : List ℕ). weight (line_of l) ≤ no_limit) now room in omega (arith, w, o))))

        sees_white : Sees text over.mid (code ∷ rest)
        sees_white = subst (λ (l : List ℕ). Sees text over.mid l) now over.sees

        a : Attempted (flows_bodies x) (flows_white x) text c0 kept (fenced over.mid) (steps.readied (steps.closed last)) over.mid (bare (code ∷ rest))
        a = attempted (flows_bodies x) (flows_white x) text c0 kept (fenced over.mid) no_limit (steps.readied (steps.closed last)) over.mid
            (still_at refl refl refl after_fence.at) (record {
              events = after_here.events;
              kept = ap (spaced no_limit) after_here.kept;
              map = after_here.map;
              resolvers = after_here.resolvers;
            }) whole code rest sees_white is_it
            (let most = white_within (code ∷ rest) in let l = ap (λ (l : List ℕ). weight (line_of l)) now in let r = room in omega (arith, most, l, r))

        by_follow : (good : Bool) → may_follow m (line_of over.rest) ≡ good → Tells good
        by_follow true e = let o = named_on x text once c0 kept whole m fence refl refl Says says_none (reads_on m size fence) (bare (code ∷ rest)) a.end
            a.sees (bare_apart (code ∷ rest))
            (follow_bare m fence (code ∷ rest) ∙ (ap (λ (l : List ℕ). may_follow m (line_of l)) (sym now) ∙ e))
            (let v = weight_line_bare (code ∷ rest) in let l = ap (λ (l : List ℕ). weight (line_of l)) now in let r = room in omega (arith, v, l, r))
            ((fenced over.mid ++ event Enter names.SpaceOrTab (text.start over.mid) None ∷ []) ++ event Exit names.SpaceOrTab (text.start a.end) None ∷ [])
            (feed text a.config) (record {
              columns = a.columns;
              at = fed_again text a.config a.end once a.there.at;
              here = fed_here text c0 a.there.here;
              apart = a.there.apart;
            }) in record {
              config = o.config;
              spare = o.columns;
              info = a.end;
              rest = o.rest;
              end = o.end;
              named = o.named;
              further = o.further;
              goes = and_on x text (and_on x text (tried x text steps.sequence last (steps.readied (steps.closed last)) a.config (states.Next steps.info_before)
                  states.Nok (part state_inline.SpaceOrTabStart) tried_it a.reads) (feeds x text steps.info_before a.config)) o.goes;
              at = o.at;
              stands = record {
                events = o.here.events ∙ (three_more (fenced over.mid) (event Enter names.SpaceOrTab (text.start over.mid) None)
                    (event Exit names.SpaceOrTab (text.start a.end) None) (o.named ++ o.further)
                    ∙ ap (λ (b : Bool). fenced over.mid ++ (white_if b (text.start over.mid) (text.start a.end) ++ (o.named ++ o.further)))
                    (sym (let size = prefix_more is_white code rest is_it in let l = ap indent now in lt-ltb 0 (indent over.rest) (omega (arith, size, l)))));
                kept = o.here.kept;
                map = o.here.map;
                resolvers = o.here.resolvers;
              };
              apart = o.apart;
              seen = subst (λ (l : List ℕ). Sees text a.end (bare l)) (sym now) a.sees;
              said = o.info;
              says = o.says;
              ends = o.ends;
              sees = subst (λ (l : List ℕ). Sees text o.end l) (after_bare (code ∷ rest) ∙ ap after_line (sym now)) o.sees;
            }
        by_follow false e = subst (λ (good : Bool). Ends good) e failed
    at_white false b code rest h k other white now is_it =
        few_bytes (steps.sequence_white x b last true k (ap (λ (i : ℕ). b == i) marker_last ∙ other) dollar_last (size_last ∙ ap not h) white)

    at_byte : (b code : ℕ) (rest : List ℕ) → last.current ≡ Some b → (b == m) ≡ (code == m) → is_space_or_tab b ≡ is_white code
        → over.rest ≡ code ∷ rest → Ended (leb 3 size)
    at_byte b code rest k marks white now = elim (cases_Bool (is_white code)) [
      | inl is_it ↦ at_white (leb 3 size) b code rest refl k (marks ∙ fence.white_apart code is_it) (white ∙ is_it) now is_it
      | inr black ↦ at_black (leb 3 size) b refl k (marks ∙ none_marks code rest now) (white ∙ black)
          (ap indent now ∙ prefix_none is_white code rest black)
    ]
      where
        none_by : (i : Bool) (l : List ℕ) → (code == m) ≡ i → is_eol code ≡ false → run_length m (line_of (code ∷ l)) ≡ 0 → i ≡ false
        none_by true l h inner_code none =
            let f = ap (run_length m) (line_more code l inner_code) ∙ prefix_more (λ b. b == m) code (line_of l) h in absurd (omega (arith, f, none))
        none_by false l h inner_code none = refl

        none_marks : (code_is : ℕ) (l : List ℕ) → over.rest ≡ code ∷ l → (code == m) ≡ false
        none_marks code_is l now_is = elim (cases_Bool (is_eol code)) [
          | inl eol ↦ eol_apart (code == m) refl eol
          | inr inner_code ↦ none_by (code == m) l refl inner_code (ap (λ (k : List ℕ). run_length m (line_of k)) (sym now_is) ∙ over.stop)
        ]
          where
            eol_apart : (i : Bool) → (code == m) ≡ i → is_eol code ≡ true → i ≡ false
            eol_apart true h eol = absurd (let f : true ≡ false = sym eol ∙ (ap is_eol (eqb-true code m h) ∙ inner) in cc)
            eol_apart false h eol = refl

    at_rest : (rest : List ℕ) → over.rest ≡ rest → Sees text over.mid rest → Ended (leb 3 size)
    at_rest [] now (nothing ends) = at_none (leb 3 size) refl (end_at over.opening.at ends) (ap indent now)
    at_rest (code ∷ rest) now (byte apart stands more) =
        at_byte (text_byte code) code rest (byte_at over.opening.at stands) (fence.itself code) (seen_white code) now
    at_rest (code ∷ rest) now (tab most stands f more) = at_byte 9 9 rest (byte_at over.opening.at stands) refl refl now

    by_outcome : (good : Bool) (run_is : ℕ) (after : List ℕ) → run_is ≡ size → Tells good → Opens (fence_if good m run_is columns after)
    by_outcome true run_is after count o =
        let rest_is : over.rest ≡ drop run_is here.codes =
        over.is ∙ (ap (λ (i : ℕ). drop i (m ∷ cs)) (let k : suc (run_length m (line_of cs)) ≡ run_is = omega (arith, count) in k)
        ∙ ap (λ (l : List ℕ). drop run_is l) (sym is)) in (
          o.config,
          o.spare,
          over.mid,
          o.info,
          o.rest,
          o.end,
          o.named,
          o.further,
          and_on x text goes_in (and_on x text (does_next x text steps.before steps.sequence c0 (steps.opened m c0) opens) (and_on x text over.goes o.goes)),
          record {
            events = o.stands.events
                ∙ (append_assoc c0.events (fence_events (text.start p) (text.start over.mid))
                (white_events over.rest (text.start over.mid) (text.start o.info) ++ (o.named ++ o.further))
                ∙ ap (λ (l : List ℕ). c0.events ++ (fence_events (text.start p) (text.start over.mid)
                ++ (white_events l (text.start over.mid) (text.start o.info) ++ (o.named ++ o.further)))) rest_is);
            at = o.at;
            kept = o.stands.kept ∙ ap (λ (i : ℕ). fencing m i o.spare here.config.tokenize_state) (sym count);
            map = o.stands.map;
            resolvers = o.stands.resolvers;
          },
          o.apart,
          subst (λ (l : List ℕ). Sees text over.mid l) rest_is over.sees,
          subst (λ (l : List ℕ). Sees text o.info (bare l)) rest_is o.seen,
          o.said,
          o.says,
          o.ends,
          subst (λ (l : List ℕ). Sees text o.end l) (over.same ∙ sym (ap after_line is ∙ after_more m cs inner)) o.sees,
        )
    by_outcome false run_is after count (d, o) = (
      d,
      fails x text c0 d begins (and_on x text goes_in (and_on x text (does_next x text steps.before steps.sequence c0 (steps.opened m c0) opens)
          (and_on x text over.goes o))),
    )

    -- the line begins with a fence, or with too few bytes of one, or a backtick follows
    begun : Opens (fence_if (leb 3 (run_length m (m ∷ line_of cs)) && may_follow m (after_run m (m ∷ line_of cs))) m
        (run_length m (m ∷ line_of cs)) columns (after_run m (m ∷ line_of cs)))
    begun =
        let marks = eq-eqb m m refl in
        let count : run_length m (m ∷ line_of cs) ≡ size =
        prefix_more (λ b. b == m) m (line_of cs) marks ∙ (let k : suc (run_length m (line_of cs)) ≡ size = omega arith in k) in
        let good : (leb 3 (run_length m (m ∷ line_of cs)) && may_follow m (after_run m (m ∷ line_of cs))) ≡ (leb 3 size && may_follow m (line_of over.rest)) =
        ap (λ (i : ℕ). leb 3 i && may_follow m (after_run m (m ∷ line_of cs))) count
        ∙ ap (λ (l : List ℕ). leb 3 size && may_follow m l) (rest_more (λ b. b == m) m (line_of cs) marks ∙ sym over.line) in
        subst (λ (b : Bool). Opens (fence_if b m (run_length m (m ∷ line_of cs)) columns (after_run m (m ∷ line_of cs)))) (sym good)
        (by_outcome (leb 3 size && may_follow m (line_of over.rest)) (run_length m (m ∷ line_of cs)) (after_run m (m ∷ line_of cs)) count
        (at_rest over.rest refl over.sees))

  none_by : (on : Bool) (l : List ℕ) → line here ≡ l → run_length 96 l ≡ 0 → run_length 126 l ≡ 0 → Opens None
      → Opens (if on then fence_of columns (line here) else None)
  none_by true l is h k v = subst (λ (o : Option Fence). Opens o) (sym (ap (fence_of columns) is ∙ no_fence columns l h k)) v
  none_by false l is h k v = v

  -- at a byte that begins no fence
  elsewhere : (on : Bool) (code : ℕ) (cs : List ℕ) (q : Point) (b : ℕ) → here.codes ≡ code ∷ cs → text.byte (text.start p) ≡ Some (as_byte b q)
      → (b == 96) ≡ false → (b == 126) ≡ false → (b == 36) ≡ false → (code == 96) ≡ false → (code == 126) ≡ false
      → Opens (if on then fence_of columns (line here) else None)
  elsewhere on code cs q b is e h k l other apart =
      let v = refused (steps.before_other x b c0 (byte_at at_p e) h k l) in
      elim (cases_Bool (is_eol code)) [
        | inl eol ↦ none_by on [] (ap line_of is ∙ line_none code cs eol) refl refl v
        | inr inner ↦ none_by on (code ∷ line_of cs) (ap line_of is ∙ line_more code cs inner) (prefix_none (λ i. i == 96) code (line_of cs) other)
            (prefix_none (λ i. i == 126) code (line_of cs) apart) v
      ]

  at_backtick : (on : Bool) → x.options.constructs.code_fenced ≡ on → (cs : List ℕ) (q : Point) → here.codes ≡ 96 ∷ cs
      → text.byte (text.start p) ≡ Some (as_byte 96 q) → Sees text q cs → Opens (if on then fence_of columns (line here) else None)
  at_backtick true h cs q is e s =
      subst (λ (o : Option Fence). Opens o)
      (sym (ap (fence_of columns) (ap line_of is ∙ line_more 96 cs refl) ∙ backtick_fence columns (line_of cs)))
      (begun 96 backtick_byte refl cs q is e s (steps.before_backtick x c0 true (byte_at at_p e) h))
  at_backtick false h cs q is e s = refused (steps.before_backtick x c0 false (byte_at at_p e) h)

  at_tilde : (on : Bool) → x.options.constructs.code_fenced ≡ on → (cs : List ℕ) (q : Point) → here.codes ≡ 126 ∷ cs
      → text.byte (text.start p) ≡ Some (as_byte 126 q) → Sees text q cs → Opens (if on then fence_of columns (line here) else None)
  at_tilde true h cs q is e s =
      subst (λ (o : Option Fence). Opens o)
      (sym (ap (fence_of columns) (ap line_of is ∙ line_more 126 cs refl) ∙ tilde_fence columns (line_of cs)))
      (begun 126 tilde_byte refl cs q is e s (steps.before_tilde x c0 true (byte_at at_p e) h))
  at_tilde false h cs q is e s = refused (steps.before_tilde x c0 false (byte_at at_p e) h)

  no_dollar : (code : ℕ) (cs : List ℕ) → here.codes ≡ code ∷ cs → run_length 36 (line here) ≡ 0 → (i : Bool) → (code == 36) ≡ i → i ≡ false
  no_dollar code cs is none true h =
      let inner : is_eol code ≡ false = ap is_eol (eqb-true code 36 h) in
      let f = ap (run_length 36) (ap line_of is ∙ line_more code cs inner) ∙ prefix_more (λ b. b == 36) code (line_of cs) h in absurd (omega (arith, f, none))
  no_dollar code cs is none false h = refl

  by_codes : (on : Bool) → x.options.constructs.code_fenced ≡ on → run_length 36 (line here) ≡ 0 → (codes : List ℕ) → here.codes ≡ codes → Sees text p codes
      → Opens (if on then fence_of columns (line here) else None)
  by_codes on h none [] is (nothing e) = none_by on [] (ap line_of is) refl refl (refused (steps.before_none x c0 (end_at at_p e)))
  by_codes on h none (code ∷ cs) is (byte {q = q} apart e s) = elim (cases_Bool (code == 96)) [
    | inl k ↦
        let code_is = eqb-true code 96 k in
        at_backtick on h cs q (is ∙ ap (λ (c : ℕ). c ∷ cs) code_is) (e ∙ ap (λ (c : ℕ). Some (as_byte (text_byte c) q)) code_is) s
    | inr k ↦ elim (cases_Bool (code == 126)) [
      | inl l ↦
          let code_is = eqb-true code 126 l in
          at_tilde on h cs q (is ∙ ap (λ (c : ℕ). c ∷ cs) code_is) (e ∙ ap (λ (c : ℕ). Some (as_byte (text_byte c) q)) code_is) s
      | inr l ↦ elsewhere on code cs q (text_byte code) is e (backtick_byte.itself code ∙ k) (tilde_byte.itself code ∙ l)
          (seen_sort (λ b. b == 36) refl refl refl refl code ∙ no_dollar code cs is none (code == 36) refl) k l
    ]
  ]
  by_codes on h none (code ∷ cs) is (tab {q = q} most e f s) = elsewhere on 9 cs q 9 is e refl refl refl refl refl

  -- the whole line
  pub opens : Sees text p here.codes → run_length 36 (line here) ≡ 0 → Opens (if x.options.constructs.code_fenced then fence_of columns (line here) else None)
  opens s none = by_codes x.options.constructs.code_fenced refl none here.codes refl s

-- whatever is said of the events after the info
dropped : {T : Type 0} (here : InLine T) (once : SkipsOnce here.text) (few : length (line_of here.codes) < 2 ^ 62)
    (whole : here.config.tokenize_state.connect ≡ false) (columns : ℕ) (Says : Point → List Event → Point → Type 0)
    (says_none : (p : Point) → LineEnds here.text p → Says p [] p) (reads_on : (m size : ℕ) → FenceByte m
    → ReadsRest here.context here.text (at_hand here) (fencing m size 0 here.config.tokenize_state) Says m)
    (o : Option Fence) → Opens here once few whole columns Says says_none reads_on o → FenceVerdict here o
dropped here once few whole columns Says says_none reads_on None v = v
dropped here once few whole columns Says says_none reads_on (Some opening)
    (d, spare, mid, info, rest, end, named, further, goes, leaves, apart, sees_mid, sees_info, said, says, ends, sees) =
    (d, spare, mid, info, rest, end, named, further, goes, leaves, apart, sees_mid, sees_info, said, ends, sees)

pub code_fenced_verdict : (T : Type 0) → CodeFencedVerdict T
code_fenced_verdict T here s once few whole columns none =
    let read : (m size : ℕ) → FenceByte m
    → ReadsRest here.context here.text (at_hand here) (fencing m size 0 here.config.tokenize_state) Anyhow m =
    λ m size fence. reads_anyhow here.context here.text once (at_hand here) (fencing m size 0 here.config.tokenize_state) whole m fence refl in
    dropped here once few whole columns Anyhow (λ p e. tt) read
    (if here.context.options.constructs.code_fenced then fence_of columns (line here) else None)
    (opens here once few whole columns Anyhow (λ p e. tt) read s none)
