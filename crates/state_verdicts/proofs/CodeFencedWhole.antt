-- An attempt at fenced code goes on after its opening line to the line that closes it, or to the end of the text.
use Rattle.std.proofs.Common.{◌≡◌, ◌∙◌, ℕ, ◌^◌, ◌<◌, Bool, true, false, not, ◌==◌, ◌&&◌, ◌||◌, leb, if◌then◌else◌, List, [], ◌∷◌}
use Rattle.std.proofs.Common.{◌++◌, drop, length, Option, Some, None, refl, ap, subst, arith, append_assoc}
use Rattle.state_verdicts.proofs.BlockPrelude.{after_line, and_parts, bare, byte_of, Config, Context, eqb-true, event, Event}
use Rattle.state_verdicts.proofs.BlockPrelude.{Flows, GoesOn, has, InLine, Leaves}
use Rattle.state_verdicts.proofs.BlockPrelude.{is_feed, is_inner, is_space_or_tab, KeptState, leb-true, line_of, LineEnds, list_all, Point}
use Rattle.state_verdicts.proofs.BlockPrelude.{retry, Sees, SkipsOnce, State, Text, VirtualByte}
use Rattle.definition_block.specs.CodeFenced.{Fence, fence_by, fence_of}
use Rattle.definition_text.specs.Columns.{bytes_of}
use Rattle.definition_text.specs.Runs.{after_run, run as run_length}
use Rattle.engine_events.specs.declared.event.Kind.TheVariants.{Exit}
use Rattle.engine_events.specs.declared.event.Name.TheVariants as names
use Rattle.engine_states.specs.declared.state.Block.TheVariants as state_block
use Rattle.engine_states.specs.declared.state.State.TheVariants as states
use Rattle.state_verdicts.specs.BlockVerdicts.{Reads, at_hand, line}
use Rattle.state_verdicts.specs.CodeFenced.{CodeFencedWholeVerdict, CodeVerdict, FurtherAt, InfoAt, fence_events, fencing, further, none}
use Rattle.state_verdicts.specs.Columns.{SeesColumns}
use Rattle.state_verdicts.specs.RawFlow.{counting, is_fence_byte}
use Rattle.state_verdicts.specs.Stretch.{ended}
use Rattle.state_verdicts.specs.TextBlank.{ShowsBlank}
use Rattle.state_verdicts.specs.WhiteSpace.{white_events}
use Rattle.state_verdicts.proofs.CodeFencedReads.{Opens, opens}
use Rattle.state_verdicts.proofs.ColumnReads.{few_columns}
use Rattle.state_verdicts.proofs.FenceLines.{FenceByte, marker_is, may_follow}
use Rattle.state_verdicts.proofs.FenceMeta.{may_be_meta, over_white}
use Rattle.state_verdicts.proofs.FenceRest.{ReadsRest}
use Rattle.state_verdicts.proofs.FenceStates as steps
use Rattle.state_verdicts.proofs.LineCodes.{line_within, rest_within, weight_four}
use Rattle.state_verdicts.proofs.Markers.{flip}
use Rattle.state_verdicts.proofs.FenceWhole.{leaves_all, read, reads}
use Rattle.state_verdicts.proofs.RawFlowLines.{Finished}
use Rattle.state_verdicts.proofs.RawStays as raw

-- ---- the byte of a fence

follows : (m : ℕ) → FenceByte m → (l : List ℕ) → may_follow m l ≡ true → may_be_meta m l ≡ true
follows m fence l h =
    ap (λ (i : Bool). list_all (λ b. not ((b == m) && i)) l) (ap (λ (i : Bool). (m == 96) || i) fence.no_dollar ∙ or_false (m == 96)) ∙ h
  where
    or_false : (b : Bool) → (b || false) ≡ b
    or_false true = refl
    or_false false = refl

-- what is known of a fence that opens
record Known (fence : Fence) : Type 0 where
  pub byte : is_fence_byte fence.byte ≡ true
  pub some : 0 < fence.run

at_least : (n : ℕ) → leb 3 n ≡ true → 0 < n
at_least n h = let most = leb-true 3 n h in omega (arith, most)

known_by : (columns : ℕ) (l : List ℕ) (marks tildes : Bool) (fence : Fence)
    → (leb 3 (run_length 96 l) && list_all (λ b. not (b == 96)) (after_run 96 l)) ≡ marks → leb 3 (run_length 126 l) ≡ tildes
    → (if marks then Some (fence_by 96 (run_length 96 l) columns (after_run 96 l))
    else (if tildes then Some (fence_by 126 (run_length 126 l) columns (after_run 126 l)) else None)) ≡ Some fence → Known fence
known_by columns l true tildes fence h k e =
    let long = (and_parts (leb 3 (run_length 96 l)) (list_all (λ b. not (b == 96)) (after_run 96 l)) h).0 in
    let same : fence_by 96 (run_length 96 l) columns (after_run 96 l) ≡ fence = cc in
    subst (λ (f : Fence). Known f) same (record { byte = refl; some = at_least (run_length 96 l) long })
known_by columns l false true fence h k e =
    let same : fence_by 126 (run_length 126 l) columns (after_run 126 l) ≡ fence = cc in
    subst (λ (f : Fence). Known f) same (record { byte = refl; some = at_least (run_length 126 l) k })
known_by columns l false false fence h k e = absurd (let f : None ≡ Some fence = e in cc)

known : (columns : ℕ) (l : List ℕ) (fence : Fence) → fence_of columns l ≡ Some fence → Known fence
known columns l fence e =
    known_by columns l (leb 3 (run_length 96 l) && list_all (λ b. not (b == 96)) (after_run 96 l)) (leb 3 (run_length 126 l)) fence refl refl e

-- ---- the end of a line

-- there is no white space
ends_black : (text : Text) (p : Point) → LineEnds text p → has is_space_or_tab (byte_of (text.byte (text.start p))) ≡ false
ends_black text p h = by_byte (text.byte (text.start p)) h
  where
    by_byte : (v : Option VirtualByte) → has (λ b. not (b == 10)) (byte_of v) ≡ false → has is_space_or_tab (byte_of v) ≡ false
    by_byte None k = refl
    by_byte (Some v) k = ap is_space_or_tab (eqb-true v.byte 10 (flip (v.byte == 10) k))

-- ---- reading

module _ {T : Type 0} (here : InLine T) (once : SkipsOnce here.text) (few : length here.codes < 2 ^ 60)
    (whole : here.config.tokenize_state.connect ≡ false) (blank : ShowsBlank here.context.bytes here.text) (active : here.config.lazy ≡ false) where
  abbrev c0 : Config Flows
  c0 = at_hand here

  abbrev x : Context T
  x = here.context

  abbrev text : Text
  text = here.text

  abbrev k0 : KeptState
  k0 = here.config.tokenize_state

  abbrev indented : ℕ
  indented = k0.space_or_tab_size

  -- what is said of the events after the info
  abbrev Says : Point → List Event → Point → Type 0
  Says p events end = FurtherAt text names.CodeFencedFenceMeta p events end

  says_none : (p : Point) → LineEnds text p → Says p [] p
  says_none p h = further (ended (ends_black text p h)) (none h)

  reads_rest : (m size : ℕ) → FenceByte m → ReadsRest x text c0 (fencing m size 0 k0) Says m
  reads_rest m size fence es s c d p code cs h sees is follow room does_it =
      over_white x text once blank c0 (fencing m size 0 k0) whole m (marker_is m fence) refl (fence.white_apart 256 refl) es s c d p code cs h sees is
      (follows m fence (line_of (code ∷ cs)) follow) room does_it

  line_few : length (line_of here.codes) < 2 ^ 62
  line_few = let within = line_within here.codes in omega (arith, within, few)

  abbrev OpensHere : Option Fence → Type 0
  OpensHere o = Opens here once line_few whole indented Says says_none reads_rest o

  abbrev begins : State
  begins = retry state_block.RawFlowStart

  regroup : (a b n f y : List Event) → (a ++ (b ++ (n ++ f))) ++ y ≡ a ++ (b ++ (n ++ (f ++ y)))
  regroup a b n f y = simp append_assoc refl

  module _ (fence : Fence) (is : Known fence) (d : Config Flows) (spare : ℕ) (mid info rest first : Point) (named others : List Event)
      (goes : GoesOn x text c0 begins d (states.Retry steps.info_before))
      (leaves : Leaves text c0 d (fencing fence.byte fence.run spare k0) (fence_events (text.start here.place) (text.start mid)
      ++ (white_events (drop fence.run here.codes) (text.start mid) (text.start info) ++ (named ++ others))) first)
      (apart : is_feed d.previous ≡ false) (ends : LineEnds text first) (lines : List ℕ) (seen : SeesColumns text first lines)
      (small : length lines < 2 ^ 62) where
    abbrev kept : KeptState
    kept = fencing fence.byte fence.run spare k0

    abbrev opening : List Event
    opening = fence_events (text.start here.place) (text.start mid)
        ++ (white_events (drop fence.run here.codes) (text.start mid) (text.start info) ++ (named ++ others))

    z : Finished x text once kept whole is.byte is.some c0 begins raw.begins active d (steps.line_ended d) steps.info_before first lines
    z = read here once active kept whole is.byte is.some opening d first goes leaves apart ends lines seen small

    reads_it : Reads x text c0 begins z.config true
    unfolding z
    reads_it = reads here once active kept whole is.byte is.some opening d first goes leaves apart ends lines seen small

    abbrev all_events : List Event
    all_events = fence_events (text.start here.place) (text.start mid)
        ++ (white_events (drop fence.run here.codes) (text.start mid) (text.start info)
        ++ (named ++ (others ++ (event Exit names.CodeFencedFence (text.start first) None ∷ z.inside))))

    left_all : Leaves text c0 z.config (counting z.size z.columns kept) all_events z.end
    unfolding z
    left_all =
        let l = leaves_all here once active kept whole is.byte is.some opening d first goes leaves apart ends lines seen small in record {
          events = l.events ∙ ap (λ (es : List Event). c0.events ++ es) (regroup (fence_events (text.start here.place) (text.start mid))
              (white_events (drop fence.run here.codes) (text.start mid) (text.start info)) named others
              (event Exit names.CodeFencedFence (text.start first) None ∷ z.inside));
          at = l.at;
          kept = l.kept;
          map = l.map;
          resolvers = l.resolvers;
        }

    whole_is : Sees text mid (drop fence.run here.codes) → Sees text info (bare (drop fence.run here.codes)) → InfoAt text info named rest
        → Says rest others first → bytes_of lines ≡ bytes_of (after_line here.codes) → CodeVerdict here (Some fence)
    whole_is sees_mid sees_info said says bytes = (
      z.config,
      spare,
      z.size,
      z.columns,
      mid,
      info,
      rest,
      first,
      named,
      others,
      lines,
      z.inside,
      z.end,
      z.left,
      reads_it,
      left_all,
      sees_mid,
      sees_info,
      said,
      says,
      ends,
      seen,
      bytes,
      z.lines,
      z.free,
      z.ends,
      z.sees,
    )

  by_opening : (o : Option Fence) → ((fence : Fence) → o ≡ Some fence → Known fence) → OpensHere o → CodeVerdict here o
  by_opening None k v = v
  by_opening (Some fence) k (d, spare, mid, info, rest, first, named, others, goes, leaves, apart, sees_mid, sees_info, said, says, ends, sees) =
      let lines = few_columns text first (after_line here.codes) sees in
      let four = weight_four (after_line here.codes) in
      let within = rest_within is_inner here.codes in
      let size = lines.3 in
      whole_is fence (k fence refl) d spare mid info rest first named others goes leaves apart ends lines.0 lines.1 (omega (arith, size, four, within, few))
      sees_mid sees_info said says lines.2

pub code_fenced_whole_verdict : (T : Type 0) → CodeFencedWholeVerdict T
code_fenced_whole_verdict T here s once few whole blank active no_dollar =
    by_opening here once few whole blank active
    (if here.context.options.constructs.code_fenced then fence_of here.config.tokenize_state.space_or_tab_size (line here) else None)
    (known_if here.context.options.constructs.code_fenced) (opens here once (line_few here once few whole blank active) whole
    here.config.tokenize_state.space_or_tab_size (Says here once few whole blank active) (says_none here once few whole blank active)
    (reads_rest here once few whole blank active) s no_dollar)
  where
    known_if : (on : Bool) (fence : Fence)
        → (if on then fence_of here.config.tokenize_state.space_or_tab_size (line here) else None) ≡ Some fence → Known fence
    known_if true fence e = known here.config.tokenize_state.space_or_tab_size (line here) fence e
    known_if false fence e = absurd (let f : None ≡ Some fence = e in cc)
