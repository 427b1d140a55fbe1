-- An attempt at math goes on after its opening line to the line that closes it, or to the end of the text.
use Rattle.std.proofs.Common.{◌≡◌, ◌∙◌, ℕ, suc, ◌+◌, ◌^◌, ◌<◌, ◌≤◌, min, Bool, true, false, not, ◌==◌, ◌&&◌, leb, nat_lt, if◌then◌else◌, List, []}
use Rattle.std.proofs.Common.{◌∷◌, ◌++◌, drop, length, length-drop, Option, Some, None, inl, inr, refl, sym, ap, subst, arith, append_assoc}
use Rattle.state_verdicts.proofs.BlockPrelude.{after_line, as_byte, AtHand, byte, cases_Bool, cases_lt, Config, Context, eqb-true, event, Event, feed, Flows}
use Rattle.state_verdicts.proofs.BlockPrelude.{GoesOn, indent, InLine, is_eol, is_feed, is_inner, is_space_or_tab, is_white}
use Rattle.state_verdicts.proofs.BlockPrelude.{KeptState, le-leb, le-ltb, leb-true}
use Rattle.state_verdicts.proofs.BlockPrelude.{Leaves, line_of, list_all, lt-leb, lt-ltb, no_limit, nothing, part, plain, Point, run, Sees}
use Rattle.state_verdicts.proofs.BlockPrelude.{SkipsOnce, State, tab, Text, text_byte, tries}
use Rattle.std.proofs.lemmas.List.Sums.{prefix_len-le-length}
use Rattle.definition_block.specs.CodeFenced.{Fence}
use Rattle.definition_block.specs.MathFlow.{math_fence_of, math_info}
use Rattle.definition_text.specs.Columns.{bytes_of}
use Rattle.definition_text.specs.Runs.{after_run, run as run_length}
use Rattle.engine_events.specs.declared.event.Kind.TheVariants.{Enter, Exit}
use Rattle.engine_events.specs.declared.event.Name.TheVariants as names
use Rattle.engine_states.specs.declared.state.Inline.TheVariants as state_inline
use Rattle.engine_states.specs.declared.state.State.TheVariants as states
use Rattle.markdown_engine.specs.Reading.{at_point}
use Rattle.state_flow.specs.Flows.{flows_bodies}
use Rattle.state_verdicts.specs.BlockVerdicts.{Reads, at_hand, line}
use Rattle.state_verdicts.specs.CodeFenced.{FurtherAt}
use Rattle.state_verdicts.specs.Columns.{SeesColumns}
use Rattle.state_verdicts.specs.MathFlow.{MathFlowVerdict, MathVerdict, math_fence_events, math_fencing}
use Rattle.state_verdicts.specs.RawFlow.{counting}
use Rattle.state_verdicts.specs.TextBlank.{ShowsBlank}
use Rattle.state_verdicts.proofs.BlockTurns.{and_on, byte_at, does, does_next, end_at, fails, fed, still_at}
use Rattle.state_verdicts.proofs.ColumnReads.{few_columns}
use Rattle.state_verdicts.proofs.FenceMeta.{Refused, at_string, may_be_meta, over_white, reads_string, refuses_string, refuses_white}
use Rattle.state_verdicts.proofs.FenceRest.{Rest, Stood}
use Rattle.state_verdicts.proofs.FenceRuns.{Opened, Opening, over_fence}
use Rattle.state_verdicts.proofs.FenceStates as steps
use Rattle.state_verdicts.proofs.FenceWhole.{leaves_all, read, reads}
use Rattle.state_verdicts.proofs.LineCodes.{after_more, line_more, line_none, line_within, prefix_more, prefix_none}
use Rattle.state_verdicts.proofs.LineCodes.{rest_more, rest_within, weight, weight_four}
use Rattle.state_verdicts.proofs.Markers.{Marker, marker_of}
use Rattle.state_verdicts.proofs.RawFlowLines.{Finished}
use Rattle.state_verdicts.proofs.RawStays as raw
use Rattle.state_verdicts.proofs.Seen.{seen_white}
use Rattle.state_verdicts.proofs.Standing.{exits}

dollar_is : Marker 36
dollar_is = marker_of 36 refl refl refl refl refl refl

-- ---- what the definition says

follow_dollar : (l : List ℕ) → may_be_meta 36 l ≡ list_all (λ b. not (b == 36)) l
follow_dollar [] = refl
follow_dollar (c ∷ l) =
    ap (λ (b : Bool). not b && may_be_meta 36 l) (and_true (c == 36)) ∙ ap (λ (b : Bool). not (c == 36) && b) (follow_dollar l)
  where
    and_true : (b : Bool) → (b && true) ≡ b
    and_true true = refl
    and_true false = refl

-- math of so many dollars
abbrev math_if : Bool → ℕ → ℕ → Option Fence
math_if is size columns = if is then Some (record { byte = 36; run = size; indent = columns; info = math_info }) else None

few_dollars : (n : ℕ) → nat_lt n 2 ≡ not (leb 2 n)
few_dollars n = elim (cases_lt n 2) [
  | inl less ↦ lt-ltb n 2 less ∙ sym (ap not (lt-leb 2 n less))
  | inr most ↦ le-ltb n 2 most ∙ sym (ap not (le-leb 2 n most))
]

-- ---- reading

module _ {T : Type 0} (here : InLine T) (once : SkipsOnce here.text) (few : length here.codes < 2 ^ 60)
    (whole : here.config.tokenize_state.connect ≡ false) (blank : ShowsBlank here.context.bytes here.text) (active : here.config.lazy ≡ false)
    (columns : ℕ) where
  abbrev c0 : Config Flows
  c0 = at_hand here

  abbrev x : Context T
  x = here.context

  abbrev text : Text
  text = here.text

  abbrev p : Point
  p = here.place

  abbrev k0 : KeptState
  k0 = here.config.tokenize_state

  at_p : AtHand text c0 p
  at_p = fed text (at_point p here.config) p refl

  abbrev begins : State
  begins = states.Retry steps.start

  goes_in : GoesOn x text c0 begins c0 (states.Retry steps.before)
  goes_in = does x text steps.start c0 c0 (states.Retry steps.before) (steps.start_does x c0)

  refused : run (flows_bodies x steps.before) c0 ≡ plain c0 states.Nok → MathVerdict here None
  refused h = (c0, fails x text c0 c0 begins (and_on x text goes_in (does x text steps.before c0 c0 states.Nok h)))

  four : (l : List Event) (a b e f : Event) → (((l ++ a ∷ []) ++ b ∷ []) ++ e ∷ []) ++ f ∷ [] ≡ l ++ (a ∷ b ∷ e ∷ f ∷ [])
  four l a b e f = simp append_assoc refl

  module _ (cs : List ℕ) (q : Point) (is : here.codes ≡ 36 ∷ cs) (e : text.byte (text.start p) ≡ Some (as_byte 36 q)) (s : Sees text q cs)
      (opens : run (flows_bodies x steps.before) c0 ≡ plain (steps.math_opened c0) (states.Next steps.sequence)) where
    abbrev started : List Event
    started = ((c0.events ++ event Enter names.MathFlow (text.start p) None ∷ []) ++ event Enter names.MathFlowFence (text.start p) None ∷ [])
        ++ event Enter names.MathFlowFenceSequence (text.start p) None ∷ []

    abbrev first_config : Config Flows
    first_config = feed text (steps.math_opened c0)

    abbrev names_kept : KeptState
    names_kept = math_fencing 0 0 k0

    first_is : Opening x text c0 36 dollar_is names_kept started 1 first_config q
    first_is = record {
      columns = c0.tokenize_state.size_c;
      at = fed text (steps.math_opened c0) q (at_p.next (as_byte 36 q) e);
      here = record { events = refl; kept = refl; map = refl; resolvers = refl };
      apart = ap is_feed (byte_at at_p e);
    }

    o : Opened x text c0 36 dollar_is names_kept started first_config 1 cs
    o = over_fence x text c0 36 dollar_is names_kept started cs s 1 first_config first_is

    abbrev last : Config Flows
    last = o.config

    -- how many dollars there are
    abbrev size : ℕ
    size = 1 + run_length 36 (line_of cs)

    line_is : line here ≡ 36 ∷ line_of cs
    line_is = ap line_of is ∙ line_more 36 cs refl

    size_few : min size no_limit ≡ size
    size_few =
        let l = ap length line_is in
        let n = prefix_len-le-length (λ b. b == 36) (line_of cs) in
        let w = line_within here.codes in omega (arith, few, l, n, w)

    -- what is kept after the fence
    abbrev kept : KeptState
    kept = math_fencing size 0 k0

    abbrev fenced : List Event
    fenced = c0.events ++ math_fence_events (text.start p) (text.start o.mid)

    marker_last : last.tokenize_state.marker ≡ 36
    marker_last = ap (λ (k : KeptState). k.marker) o.opening.here.kept

    size_last : nat_lt last.tokenize_state.size 2 ≡ not (leb 2 size)
    size_last = ap (λ (k : KeptState). nat_lt k.size 2) o.opening.here.kept ∙ (ap (λ (i : ℕ). nat_lt i 2) size_few ∙ few_dollars size)

    after_fence : Stood text c0 kept fenced (steps.closed last) o.mid
    after_fence =
        let f = exits text c0 last.tokenize_state.token_3 o.opening.here o.opening.apart o.opening.at.point in record {
          columns = o.opening.columns;
          at = still_at refl refl refl o.opening.at;
          here = record {
            events =
                f.events
                ∙ (ap (λ (k : KeptState). started ++ event Exit k.token_3 (text.start o.mid) None ∷ []) o.opening.here.kept
                ∙ four c0.events (event Enter names.MathFlow (text.start p) None) (event Enter names.MathFlowFence (text.start p) None)
                (event Enter names.MathFlowFenceSequence (text.start p) None) (event Exit names.MathFlowFenceSequence (text.start o.mid) None));
            kept = f.kept ∙ ap (λ (i : ℕ). math_fencing i o.opening.columns k0) size_few;
            map = f.map;
            resolvers = f.resolvers;
          };
          apart = o.opening.apart;
        }

    room : weight (line_of o.rest) ≤ no_limit
    room =
        let l = ap length line_is in
        let w = ap weight o.line in
        let f = weight_four (after_run 36 (line_of cs)) in
        let k = length-drop (run_length 36 (line_of cs)) (line_of cs) in
        let t = line_within here.codes in omega (arith, few, l, w, f, k, t)

    -- ---- after the fence

    abbrev RestHere : Type 0
    RestHere = Rest x text c0 kept (FurtherAt text names.MathFlowFenceMeta) fenced last (states.Retry steps.sequence) o.mid o.rest

    abbrev Tells : Bool → Type 0
    Tells true = RestHere
    Tells false = Refused x text once blank c0 kept whole 36 dollar_is refl refl last (states.Retry steps.sequence)

    few_bytes : run (flows_bodies x steps.sequence) last ≡ plain last states.Nok → Tells false
    few_bytes h = (last, does x text steps.sequence last last states.Nok h)

    goes_rest : run (flows_bodies x steps.sequence) last ≡ plain (steps.closed last) (states.Retry steps.meta_before)
        → Rest x text c0 kept (FurtherAt text names.MathFlowFenceMeta) fenced (steps.closed last) (states.Retry steps.meta_before) o.mid o.rest → RestHere
    goes_rest h r = record {
      config = r.config;
      columns = r.columns;
      end = r.end;
      further = r.further;
      goes = and_on x text (does x text steps.sequence last (steps.closed last) (states.Retry steps.meta_before) h) r.goes;
      says = r.says;
      at = r.at;
      here = r.here;
      apart = r.apart;
      ends = r.ends;
      sees = r.sees;
    }

    -- with no white space after the fence
    at_string_by : (good : Bool) → may_be_meta 36 (line_of o.rest) ≡ good → indent o.rest ≡ 0
        → run (flows_bodies x steps.sequence) last ≡ plain (steps.closed last) (states.Retry steps.meta_before) → Tells good
    at_string_by true follow none_there h = goes_rest h
        (at_string x text once blank c0 kept whole 36 dollar_is refl refl fenced (steps.closed last) o.mid o.rest none_there o.sees
        (reads_string x text once blank c0 kept whole 36 dollar_is refl refl o.rest o.mid o.sees none_there follow room fenced (steps.closed last) after_fence))
    at_string_by false bad none_there h =
        let r = refuses_string x text once blank c0 kept whole 36 dollar_is refl refl o.rest o.mid o.sees bad fenced (steps.closed last) after_fence in
        (r.0, and_on x text (does x text steps.sequence last (steps.closed last) (states.Retry steps.meta_before) h) r.1)

    abbrev Ended : Bool → Type 0
    Ended long = Tells (long && may_be_meta 36 (line_of o.rest))

    dollar_last : (last.tokenize_state.marker == 36) ≡ true
    dollar_last = ap (λ (i : ℕ). i == 36) marker_last

    at_none : (long : Bool) → leb 2 size ≡ long → last.current ≡ None → indent o.rest ≡ 0 → Ended long
    at_none true h k none_there =
        at_string_by (may_be_meta 36 (line_of o.rest)) refl none_there (steps.dollars_none x last false k dollar_last (size_last ∙ ap not h))
    at_none false h k none_there = few_bytes (steps.dollars_none x last true k dollar_last (size_last ∙ ap not h))

    at_black : (long : Bool) (b : ℕ) → leb 2 size ≡ long → last.current ≡ Some b → (b == 36) ≡ false → is_space_or_tab b ≡ false → indent o.rest ≡ 0
        → Ended long
    at_black true b h k other black none_there =
        at_string_by (may_be_meta 36 (line_of o.rest)) refl none_there (steps.dollars_other x b last false k (ap (λ (i : ℕ). b == i) marker_last ∙ other)
        dollar_last (size_last ∙ ap not h) black)
    at_black false b h k other black none_there =
        few_bytes (steps.dollars_other x b last true k (ap (λ (i : ℕ). b == i) marker_last ∙ other) dollar_last (size_last ∙ ap not h) black)

    at_white : (long : Bool) (b code : ℕ) (rest : List ℕ) → leb 2 size ≡ long → last.current ≡ Some b → (b == 36) ≡ false → is_space_or_tab b ≡ true
        → o.rest ≡ code ∷ rest → is_white code ≡ true → Ended long
    at_white true b code rest h k other white now is_it = by_follow (may_be_meta 36 (line_of o.rest)) refl
      where
        does_it : run (flows_bodies x steps.sequence) last
            ≡ tries (states.Next steps.meta_before) states.Nok (steps.readied (steps.closed last)) (part state_inline.SpaceOrTabStart)
        does_it = steps.dollars_white x b last false k (ap (λ (i : ℕ). b == i) marker_last ∙ other) dollar_last (size_last ∙ ap not h) white

        sees_white : Sees text o.mid (code ∷ rest)
        sees_white = subst (λ (l : List ℕ). Sees text o.mid l) now o.sees

        room_white : weight (line_of (code ∷ rest)) ≤ no_limit
        room_white = subst (λ (l : List ℕ). weight (line_of l) ≤ no_limit) now room

        by_follow : (good : Bool) → may_be_meta 36 (line_of o.rest) ≡ good → Tells good
        by_follow true follow =
            subst (λ (l : List ℕ). Rest x text c0 kept (FurtherAt text names.MathFlowFenceMeta) fenced last (states.Retry steps.sequence) o.mid l) (sym now)
            (over_white x text once blank c0 kept whole 36 dollar_is refl refl fenced steps.sequence last (steps.closed last) o.mid code rest after_fence
            sees_white is_it (ap (λ (l : List ℕ). may_be_meta 36 (line_of l)) (sym now) ∙ follow) room_white does_it)
        by_follow false bad =
            refuses_white x text once blank c0 kept whole 36 dollar_is refl refl fenced steps.sequence last (steps.closed last) o.mid code rest after_fence
            sees_white is_it (ap (λ (l : List ℕ). may_be_meta 36 (line_of l)) (sym now) ∙ bad) room_white does_it
    at_white false b code rest h k other white now is_it =
        few_bytes (steps.dollars_white x b last true k (ap (λ (i : ℕ). b == i) marker_last ∙ other) dollar_last (size_last ∙ ap not h) white)

    -- a byte after the fence is none of it
    no_dollar : (code : ℕ) (l : List ℕ) → o.rest ≡ code ∷ l → (code == 36) ≡ false
    no_dollar code l now = none_by (code == 36) refl
      where
        none_by : (i : Bool) → (code == 36) ≡ i → i ≡ false
        none_by true h =
            let inner : is_eol code ≡ false = ap is_eol (eqb-true code 36 h) in
            let f = ap (λ (k : List ℕ). run_length 36 (line_of k)) (sym now) ∙ o.stop in
            let g = ap (run_length 36) (line_more code l inner) ∙ prefix_more (λ b. b == 36) code (line_of l) h in absurd (omega (arith, f, g))
        none_by false h = refl

    at_byte : (b code : ℕ) (rest : List ℕ) → last.current ≡ Some b → (b == 36) ≡ (code == 36) → is_space_or_tab b ≡ is_white code → o.rest ≡ code ∷ rest
        → Ended (leb 2 size)
    at_byte b code rest k marks white now = elim (cases_Bool (is_white code)) [
      | inl is_it ↦ at_white (leb 2 size) b code rest refl k (marks ∙ no_dollar code rest now) (white ∙ is_it) now is_it
      | inr black ↦
          at_black (leb 2 size) b refl k (marks ∙ no_dollar code rest now) (white ∙ black) (ap indent now ∙ prefix_none is_white code rest black)
    ]

    at_rest : (rest : List ℕ) → o.rest ≡ rest → Sees text o.mid rest → Ended (leb 2 size)
    at_rest [] now (nothing ends) = at_none (leb 2 size) refl (end_at o.opening.at ends) (ap indent now)
    at_rest (code ∷ rest) now (byte apart stands more) =
        at_byte (text_byte code) code rest (byte_at o.opening.at stands) (dollar_is.itself code) (seen_white code) now
    at_rest (code ∷ rest) now (tab most stands f more) = at_byte 9 9 rest (byte_at o.opening.at stands) refl refl now

    -- ---- all of it

    goes_last : GoesOn x text c0 begins last (states.Retry steps.sequence)
    goes_last = and_on x text goes_in (and_on x text (does_next x text steps.before steps.sequence c0 (steps.math_opened c0) opens) o.goes)

    module _ (run_is : ℕ) (count : run_is ≡ size) (long : leb 2 size ≡ true) (r : RestHere) (lines : List ℕ) (seen : SeesColumns text r.end lines)
        (small : length lines < 2 ^ 62) where
      abbrev kept_now : KeptState
      kept_now = math_fencing run_is r.columns k0

      some_dollars : 0 < run_is
      some_dollars = let most = leb-true 2 size long in omega (arith, count, most)

      abbrev opening : List Event
      opening = math_fence_events (text.start p) (text.start o.mid) ++ r.further

      goes_all : GoesOn x text c0 begins r.config (states.Retry steps.info_before)
      goes_all = and_on x text goes_last r.goes

      left_opening : Leaves text c0 r.config kept_now opening r.end
      left_opening = record {
        events = r.here.events ∙ append_assoc c0.events (math_fence_events (text.start p) (text.start o.mid)) r.further;
        at = r.at;
        kept = r.here.kept ∙ ap (λ (i : ℕ). math_fencing i r.columns k0) (sym count);
        map = r.here.map;
        resolvers = r.here.resolvers;
      }

      z : Finished x text once kept_now whole refl some_dollars c0 begins raw.begins active r.config (steps.line_ended r.config) steps.info_before r.end lines
      z = read here once active kept_now whole refl some_dollars opening r.config r.end goes_all left_opening r.apart r.ends lines seen small

      reads_it : Reads x text c0 begins z.config true
      unfolding z
      reads_it = reads here once active kept_now whole refl some_dollars opening r.config r.end goes_all left_opening r.apart r.ends lines seen small

      left_all : Leaves text c0 z.config (counting z.size z.columns kept_now) (math_fence_events (text.start p) (text.start o.mid)
          ++ (r.further ++ (event Exit names.MathFlowFence (text.start r.end) None ∷ z.inside))) z.end
      unfolding z
      left_all =
          let l = leaves_all here once active kept_now whole refl some_dollars opening r.config r.end goes_all left_opening r.apart r.ends lines seen small in
          record {
            events = l.events ∙ ap (λ (es : List Event). c0.events ++ es) (append_assoc (math_fence_events (text.start p) (text.start o.mid)) r.further
                (event Exit names.MathFlowFence (text.start r.end) None ∷ z.inside));
            at = l.at;
            kept = l.kept;
            map = l.map;
            resolvers = l.resolvers;
          }

      rest_is : o.rest ≡ drop run_is here.codes
      rest_is =
          o.is ∙ (ap (λ (i : ℕ). drop i (36 ∷ cs)) (let k : suc (run_length 36 (line_of cs)) ≡ run_is = omega (arith, count) in k)
          ∙ ap (λ (l : List ℕ). drop run_is l) (sym is))

      math_is : bytes_of lines ≡ bytes_of (after_line here.codes) → MathVerdict here (math_if true run_is columns)
      math_is bytes = (
        z.config,
        r.columns,
        z.size,
        z.columns,
        o.mid,
        r.end,
        r.further,
        lines,
        z.inside,
        z.end,
        z.left,
        reads_it,
        left_all,
        subst (λ (l : List ℕ). Sees text o.mid l) rest_is o.sees,
        r.says,
        r.ends,
        seen,
        bytes,
        z.lines,
        z.free,
        z.ends,
        z.sees,
      )

    same_line : after_line o.rest ≡ after_line here.codes
    same_line = o.same ∙ sym (ap after_line is ∙ after_more 36 cs refl)

    by_outcome : (long good : Bool) (run_is : ℕ) → run_is ≡ size → leb 2 size ≡ long → Tells (long && good)
        → MathVerdict here (math_if (long && good) run_is columns)
    by_outcome true true run_is count h r =
        let sees : Sees text r.end (after_line here.codes) = subst (λ (l : List ℕ). Sees text r.end l) same_line r.sees in
        let lines = few_columns text r.end (after_line here.codes) sees in
        let most = weight_four (after_line here.codes) in
        let within = rest_within is_inner here.codes in
        let small = lines.3 in
        math_is run_is count h r lines.0 lines.1 (omega (arith, small, most, within, few)) lines.2
    by_outcome true false run_is count h (d, g) = (d, fails x text c0 d begins (and_on x text goes_last g))
    by_outcome false good run_is count h (d, g) = (d, fails x text c0 d begins (and_on x text goes_last g))

    -- the line begins with two dollars, or with one, or another follows
    begun : MathVerdict here (math_fence_of columns (line here))
    begun =
        let count : run_length 36 (36 ∷ line_of cs) ≡ size = prefix_more (λ b. b == 36) 36 (line_of cs) refl ∙
        (let k : suc (run_length 36 (line_of cs)) ≡ size = omega arith in k) in
        let good : (leb 2 (run_length 36 (36 ∷ line_of cs)) && list_all (λ b. not (b == 36)) (after_run 36 (36 ∷ line_of cs)))
        ≡ (leb 2 size && may_be_meta 36 (line_of o.rest)) =
        ap (λ (i : ℕ). leb 2 i && list_all (λ b. not (b == 36)) (after_run 36 (36 ∷ line_of cs))) count
        ∙ ap (λ (b : Bool). leb 2 size && b) (sym (follow_dollar (after_run 36 (36 ∷ line_of cs)))
        ∙ ap (may_be_meta 36) (rest_more (λ b. b == 36) 36 (line_of cs) refl ∙ sym o.line)) in
        subst (λ (l : List ℕ). MathVerdict here (math_fence_of columns l)) (sym line_is)
        (subst (λ (b : Bool). MathVerdict here (math_if b (run_length 36 (36 ∷ line_of cs)) columns)) (sym good)
        (by_outcome (leb 2 size) (may_be_meta 36 (line_of o.rest)) (run_length 36 (36 ∷ line_of cs)) count refl (at_rest o.rest refl o.sees)))

  none_by : (on : Bool) (o : Option Fence) → on ≡ false → MathVerdict here None → MathVerdict here (if on then o else None)
  none_by true o h v = absurd (let f : true ≡ false = h in cc)
  none_by false o h v = v

  at_dollar : (on : Bool) → x.options.constructs.math_flow ≡ on → (cs : List ℕ) (q : Point) → here.codes ≡ 36 ∷ cs
      → text.byte (text.start p) ≡ Some (as_byte 36 q) → Sees text q cs → MathVerdict here (if on then math_fence_of columns (line here) else None)
  at_dollar true h cs q is e s = begun cs q is e s (steps.before_dollar x c0 true (byte_at at_p e) h)
  at_dollar false h cs q is e s = refused (steps.before_dollar x c0 false (byte_at at_p e) h)

  no_run : (code : ℕ) (cs : List ℕ) → here.codes ≡ code ∷ cs → 0 < run_length 36 (line here) → (code == 36) ≡ true
  no_run code cs is some = run_by (code == 36) refl
    where
      run_by : (i : Bool) → (code == 36) ≡ i → i ≡ true
      run_by true h = refl
      run_by false h = elim (cases_Bool (is_eol code)) [
        | inl eol ↦ let f = ap (run_length 36) (ap line_of is ∙ line_none code cs eol) in absurd (omega (arith, f, some))
        | inr inner ↦
            let f = ap (run_length 36) (ap line_of is ∙ line_more code cs inner) ∙ prefix_none (λ b. b == 36) code (line_of cs) h in
            absurd (omega (arith, f, some))
      ]

  by_codes : 0 < run_length 36 (line here) → (codes : List ℕ) → here.codes ≡ codes → Sees text p codes
      → MathVerdict here (if x.options.constructs.math_flow then math_fence_of columns (line here) else None)
  by_codes some [] is s = let f = ap (λ (l : List ℕ). run_length 36 (line_of l)) is in absurd (omega (arith, f, some))
  by_codes some (code ∷ cs) is (byte {q = q} apart e s) =
      let h = no_run code cs is some in
      let code_is = eqb-true code 36 h in
      at_dollar x.options.constructs.math_flow refl cs q (is ∙ ap (λ (c : ℕ). c ∷ cs) code_is)
      (e ∙ ap (λ (b : ℕ). Some (as_byte b q)) (eqb-true (text_byte code) 36 (dollar_is.itself code ∙ h))) s
  by_codes some (code ∷ cs) is (tab most e f s) = absurd (let h : false ≡ true = no_run 9 cs is some in cc)

pub math_flow_verdict : (T : Type 0) → MathFlowVerdict T
math_flow_verdict T here s once few whole blank active some =
    by_codes here once few whole blank active here.config.tokenize_state.space_or_tab_size some here.codes refl s
