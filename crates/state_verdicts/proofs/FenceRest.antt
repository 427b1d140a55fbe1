-- What follows the info of a fence, up to the end of the line: how it is read is left open here.
use Rattle.std.proofs.Common.{◌≡◌, ◌∙◌, ℕ, ◌≤◌, Bool, true, false, List, [], ◌∷◌, ◌++◌, append-nil, sym, subst, arith}
use Rattle.state_verdicts.proofs.BlockPrelude.{after_line, AtHand, bare, Config, Context, Event, Flows, GoesOn, is_feed, is_white, KeptState, line_of, LineEnds}
use Rattle.state_verdicts.proofs.BlockPrelude.{Name, no_limit, part, Point, retry, run, Sees, SkipsOnce, State, Text, tries}
use Rattle.engine_states.specs.declared.state.Block.TheVariants as state_block
use Rattle.engine_states.specs.declared.state.Inline.TheVariants as state_inline
use Rattle.engine_states.specs.declared.state.State.TheVariants as states
use Rattle.state_flow.specs.Flows.{flows_bodies}
use Rattle.state_verdicts.proofs.FenceLines.{FenceByte, Outcome, Well, by_white, may_follow, reads_meta}
use Rattle.state_verdicts.proofs.FenceStates as steps
use Rattle.state_verdicts.proofs.LineCodes.{weight, weight_line_bare}
use Rattle.state_verdicts.proofs.Standing.{Here}
use Rattle.state_verdicts.proofs.WhiteReads.{spaced}

-- whatever the events are
abbrev pub Anyhow : Point → List Event → Point → Type 0
Anyhow p further end = Unit {0}

module _ (text : Text) (c0 : Config Flows) (k : KeptState) where
  -- at a place after a fence, with these events so far
  pub record Stood (es : List Event) (c : Config Flows) (p : Point) : Type 0 where
    pub columns : ℕ
    pub at : AtHand text c p
    pub here : Here text c0 es (spaced columns k) c
    pub apart : is_feed c.previous ≡ false

module _ {T : Type 0} (x : Context T) (text : Text) (c0 : Config Flows) (k : KeptState) (Says : Point → List Event → Point → Type 0) where
  -- the end of the line is reached from white space at a place
  pub record Rest (es : List Event) (c : Config Flows) (s : State) (p : Point) (codes : List ℕ) : Type 0 where
    pub config : Config Flows
    pub columns : ℕ
    pub end : Point
    pub further : List Event
    pub goes : GoesOn x text c s config (retry state_block.RawFlowInfoBefore)
    pub says : Says p further end
    pub at : AtHand text config end
    pub here : Here text c0 (es ++ further) (spaced columns k) config
    pub apart : is_feed config.previous ≡ false
    pub ends : LineEnds text end
    pub sees : Sees text end (after_line codes)

  -- where a state goes over white space that may follow, the end of the line is reached
  abbrev pub ReadsRest : ℕ → Type 0
  ReadsRest m = (es : List Event) (s : Name) (c d : Config Flows) (p : Point) (code : ℕ) (cs : List ℕ) → Stood text c0 k es d p → Sees text p (code ∷ cs)
      → is_white code ≡ true → may_follow m (line_of (code ∷ cs)) ≡ true → weight (line_of (code ∷ cs)) ≤ no_limit
      → run (flows_bodies x s) c
      ≡ tries (states.Next steps.meta_before) states.Nok (steps.readied d) (part state_inline.SpaceOrTabStart)
      → Rest es c (states.Retry s) p (code ∷ cs)

module _ {T : Type 0} (x : Context T) (text : Text) (once : SkipsOnce text) (c0 : Config Flows) (k : KeptState) (whole : k.connect ≡ false)
    (m : ℕ) (fence : FenceByte m) (marker : k.marker ≡ m) where
  pub reads_anyhow : ReadsRest x text c0 k Anyhow m
  reads_anyhow es s c d p code cs h sees is follow room does_it =
      let o : Well x text once c0 es k whole m fence marker c (states.Retry s) (code ∷ cs) =
      subst (λ (good : Bool). Outcome x text once c0 es k whole m fence marker good c (states.Retry s) (code ∷ cs)) follow
      (by_white x text once c0 es k whole m fence marker s steps.meta_before c d p code cs (record {
        columns = h.columns;
        further = [];
        at = h.at;
        here = record { events = h.here.events ∙ sym (append-nil es); kept = h.here.kept; map = h.here.map; resolvers = h.here.resolvers };
        apart = h.apart;
      }) sees is room does_it (λ e r j t. reads_meta x text once c0 es k whole m fence marker (bare (code ∷ cs)) e r j t
      (let v = weight_line_bare (code ∷ cs) in omega (arith, v, room)))) in record {
        config = o.config;
        columns = o.held.columns;
        end = o.end;
        further = o.held.further;
        goes = o.goes;
        says = tt;
        at = o.held.at;
        here = o.held.here;
        apart = o.held.apart;
        ends = o.ends;
        sees = o.sees;
      }
