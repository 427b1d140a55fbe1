-- From the end of the opening line on: all further lines of code or math.
use Rattle.std.proofs.Common.{◌≡◌, ◌∙◌, ℕ, ◌^◌, ◌<◌, true, false, not, ◌==◌, List, [], ◌∷◌, ◌++◌, length, Some, None, refl, sym, ap, append_assoc}
use Rattle.state_verdicts.proofs.BlockPrelude.{as_byte, byte_of, Config, Context, eqb-true, event, Event, Flows, GoesOn, has, InLine, is_feed, KeptState}
use Rattle.state_verdicts.proofs.BlockPrelude.{Leaves, line_of, LineEnds, Point, retry, run, SkipsOnce, State, Text, text_byte}
use Rattle.engine_events.specs.declared.event.Kind.TheVariants.{Exit}
use Rattle.engine_states.specs.declared.state.Block.TheVariants as state_block
use Rattle.engine_states.specs.declared.state.State.TheVariants as states
use Rattle.markdown_engine.specs.Machine.{checks}
use Rattle.state_flow.specs.Flows.{flows_bodies}
use Rattle.state_verdicts.specs.BlockVerdicts.{Reads, at_hand}
use Rattle.state_verdicts.specs.Columns.{SeesColumns, along, ended}
use Rattle.state_verdicts.specs.RawFlow.{counting, is_fence_byte}
use Rattle.state_verdicts.proofs.BlockTurns.{byte_at, end_at, still_at}
use Rattle.state_verdicts.proofs.FenceStates as steps
use Rattle.state_verdicts.proofs.LineCodes.{line_none}
use Rattle.state_verdicts.proofs.Markers.{flip}
use Rattle.state_verdicts.proofs.RawFlowLines.{Finished, over_lines}
use Rattle.state_verdicts.proofs.RawFlowStates.{after, at_break, ending}
use Rattle.state_verdicts.proofs.RawStays as raw
use Rattle.state_verdicts.proofs.Seen.{seen_feed}
use Rattle.state_verdicts.proofs.Standing.{Here, exits}

-- what is seen at the end of a line begins with a line ending, if with anything
ends_line : {text : Text} {p : Point} (codes : List ℕ) → SeesColumns text p codes → LineEnds text p → line_of codes ≡ []
ends_line [] (ended e) h = refl
ends_line (code ∷ codes) (along e s) h =
    line_none code codes (sym (seen_feed code) ∙ flip (text_byte code == 10) (sym (ap (λ v. has (λ b. not (b == 10)) (byte_of v)) e) ∙ h))

module _ {T : Type 0} (here : InLine T) (once : SkipsOnce here.text) (active : here.config.lazy ≡ false) (kept : KeptState) (whole : kept.connect ≡ false)
    (fence : is_fence_byte kept.marker ≡ true) (some : 0 < kept.size) (opening : List Event) (d : Config Flows) (first : Point)
    (goes : GoesOn here.context here.text (at_hand here) (retry state_block.RawFlowStart) d (states.Retry steps.info_before))
    (leaves : Leaves here.text (at_hand here) d kept opening first) (apart : is_feed d.previous ≡ false) (ends : LineEnds here.text first) (lines : List ℕ)
    (seen : SeesColumns here.text first lines) (small : length lines < 2 ^ 62) where
  abbrev x : Context T
  x = here.context

  abbrev text : Text
  text = here.text

  abbrev c0 : Config Flows
  c0 = at_hand here

  abbrev begins : State
  begins = retry state_block.RawFlowStart

  -- a further line is looked for
  looks_at : (l : List ℕ) → SeesColumns text first l → run (flows_bodies x steps.info_before) d
      ≡ checks (states.Next at_break) (states.Next after) (steps.line_ended d) (states.Retry ending)
  looks_at [] (ended e) = steps.info_before_none x d (end_at leaves.at e)
  looks_at (code ∷ codes) (along {q = q} e s) =
      let feeds : (text_byte code == 10) ≡ true = flip (text_byte code == 10) (sym (ap (λ v. has (λ b. not (b == 10)) (byte_of v)) e) ∙ ends) in
      steps.info_before_line x d (byte_at leaves.at (e ∙ ap (λ (b : ℕ). Some (as_byte b q)) (eqb-true (text_byte code) 10 feeds)))

  pub read : Finished x text once kept whole fence some c0 begins raw.begins active d (steps.line_ended d) steps.info_before first lines
  read = over_lines x text once kept whole fence some c0 begins raw.begins active lines small d (steps.line_ended d) steps.info_before first (record {
    goes = goes;
    state = raw.before_info;
    looks = looks_at lines seen;
    same = refl;
    hand = still_at refl refl refl leaves.at;
    size = kept.size_b;
    columns = kept.size_c;
    kept = leaves.kept;
    map = leaves.map;
    resolvers = leaves.resolvers;
  }) apart (ends_line lines seen ends) seen

  pub reads : Reads x text c0 begins read.config true
  reads = goes.there read.config true read.reads

  regroup : (l a : List Event) (e : Event) (y : List Event) → ((l ++ a) ++ e ∷ []) ++ y ≡ l ++ (a ++ (e ∷ y))
  regroup l a e y = simp append_assoc refl

  pub leaves_all : Leaves text c0 read.config (counting read.size read.columns kept)
      (opening ++ (event Exit kept.token_2 (text.start first) None ∷ read.inside)) read.end
  leaves_all =
      let stands : Here text c0 d.events d.tokenize_state d = record { events = refl; kept = refl; map = leaves.map; resolvers = leaves.resolvers } in
      let f = exits text c0 d.tokenize_state.token_2 stands apart leaves.at.point in record {
        events = read.events ∙ (ap (λ (l : List Event). l ++ read.inside) (f.events
            ∙ (ap (λ (s : KeptState). d.events ++ event Exit s.token_2 (text.start first) None ∷ []) leaves.kept
            ∙ ap (λ (l : List Event). l ++ event Exit kept.token_2 (text.start first) None ∷ []) leaves.events))
            ∙ regroup c0.events opening (event Exit kept.token_2 (text.start first) None) read.inside);
        at = read.hand;
        kept = read.kept;
        map = read.map;
        resolvers = read.resolvers;
      }
