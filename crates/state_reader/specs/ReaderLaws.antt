-- The calls of a reader of flow keep that flow may read on.
use Rattle.std.proofs.Common.{◌≡◌, ℕ, Bool, true, false, not, if◌then◌else◌, List, [], length, reverse, slice_get, Option, None, Some, refl, sym, subst, arith}
use Rattle.std.proofs.lemmas.Bool.Decides.{nat_tests}
use Rattle.std.specs.Option.{option_map}
use Rattle.engine_events.specs.declared.place.Point.{Point}
use Rattle.engine_states.specs.declared.state.Block.TheVariants as state_block
use Rattle.engine_states.specs.declared.state.Name.TheVariants.{Block}
use Rattle.engine_states.specs.declared.state.State.{State}
use Rattle.engine_states.specs.declared.state.State.TheVariants as states
use Rattle.markdown_engine.specs.declared.attempt.Attempt.{Attempt}
use Rattle.markdown_engine.specs.Context.{Context}
use Rattle.markdown_engine.specs.Reading.{Config}
use Rattle.markdown_engine.specs.KeptState.{KeptState}
use Rattle.markdown_engine.specs.Turns.{Halt, Stops, halted}
use Rattle.markdown_engine.specs.VirtualText.{IsCut, Source}
use Rattle.markdown_engine.proofs.Ranges.{halted_on, range_on}
use Rattle.engine_programs.specs.Bodies.{step_by}
use Rattle.engine_programs.specs.Stacks.{IsValid, Stands, program_rank, program_valid}
use Rattle.state_flow.specs.Flows.{flows_bodies, flows_sorts}
use Rattle.state_flow.specs.FlowsLaws.{flows_begin, flows_lawful}
use Rattle.state_flow.specs.declared.flows.Flows.{Flows}
use Rattle.state_document.specs.Readers.{AreKept}
use Rattle.state_reader.specs.Flow.{FlowHolds, FlowSeen, begun_config, flow_anew, flow_context, flow_finished, flow_line, flow_read, flow_source, flows}
use Rattle.state_reader.specs.Reader.{HoldsBegun, HoldsFlow, ReaderHolds, ReaderSeen, closed, cut_at, finished, fresh_reader, goes_on, is_cut}
use Rattle.state_reader.specs.Reader.{line_read, reader_calls, settled, settled_with, with_marker}

-- ---- places

cut_holds : (bytes : List ℕ) (p : Point) → is_cut bytes p ≡ true → IsCut bytes (cut_at p)
cut_holds bytes p h = record { within = grind (arith, nat_tests); column = grind (arith, nat_tests) }

-- ---- flow

module _ (size : ℕ) (c : Config Flows) where
  lazy_stands : (is_lazy : Bool) (st : List Attempt) (s : State) → Stands flows_sorts size s st c → Stands flows_sorts size s st (record c { lazy = is_lazy })
  lazy_stands is_lazy st (states.Error m) h = h
  lazy_stands is_lazy st (states.Next n) h =
      (record { suits = h.0.suits; names = h.0.names; far = h.0.far; exits = h.0.exits }, h.1)
  lazy_stands is_lazy st (states.Retry n) h =
      (record { suits = h.0.suits; names = h.0.names; far = h.0.far; exits = h.0.exits }, record { less = h.1.less; leads = h.1.leads }, h.2)
  lazy_stands is_lazy st states.Ok h = h
  lazy_stands is_lazy st states.Nok h = h

  -- a lazy line changes nothing of what holds
  lazy_valid : (is_lazy : Bool) (st : List Attempt) (s : State) → IsValid flows_sorts size s st c → IsValid flows_sorts size s st (record c { lazy = is_lazy })
  lazy_valid is_lazy st s h = record { stands = lazy_stands is_lazy st s h.stands; tidy = h.tidy; marks = h.marks; unedited = h.unedited }

  -- where all is closed, flow may begin anew
  anew_valid : IsValid flows_sorts size states.Ok [] c → IsValid flows_sorts size (states.Next (Block state_block.FlowStart)) [] (begun_config c)
  anew_valid h = record {
    stands = (
      record {
        suits = record {
          yields = λ e. absurd (let f : false ≡ true = e in cc);
          sure = λ e. refl;
          plain = λ e. refl;
          firm = λ e. absurd (let f : false ≡ true = e in cc);
          leaves = refl;
        };
        names = h.stands.0;
        far = tt;
        exits = λ e. absurd (let f : false ≡ true = e in cc);
      },
      refl,
    );
    tidy = h.tidy;
    marks = tt;
    unedited = h.unedited;
  }

-- flow came to its end
record HasEnded (f : FlowSeen) : Type 0 where
  ok : f.halt.state ≡ states.Ok
  alone : f.halt.attempts ≡ []

anew_holds : (bytes : List ℕ) (f : FlowSeen) → FlowHolds bytes f → HasEnded f → FlowHolds bytes (flow_anew f)
anew_holds bytes f h e = record {
  valid =
      let size = length bytes in
      let c = f.halt.config in
      let ok = subst (λ (s : State). program_valid flows_sorts 64 size c f.halt.attempts s) e.ok h.valid in
      let alone = subst (λ (st : List Attempt). program_valid flows_sorts 64 size c st states.Ok) e.alone ok in
      subst (λ (st : List Attempt). program_valid flows_sorts 64 size (begun_config c) st (states.Next (Block state_block.FlowStart)))
      (sym e.alone) (anew_valid size c alone);
  moves_on = tt;
  end = h.end;
}

module _ {T : Type 0} (x : Context T) where
  line_holds : (p : Point) (is_lazy : Bool) (f : FlowSeen) → FlowHolds x.bytes f → FlowHolds x.bytes (flow_line x p is_lazy f)
  line_holds p is_lazy f h = record {
    valid = lazy_valid (length x.bytes) f.halt.config is_lazy (reverse f.halt.attempts) f.halt.state h.valid;
    moves_on = h.moves_on;
    end = h.end;
  }

  read_holds : (from to : ℕ × ℕ) → IsCut x.bytes from → IsCut x.bytes to → (f : FlowSeen) → FlowHolds x.bytes f
      → FlowHolds x.bytes (flow_read (flow_context x) from to f)
  unfolding flow_read
  read_holds from to begins cut f h =
      let y = flow_context x in
      let on = (range_on (program_valid flows_sorts 64 (length x.bytes)) (step_by (flows_bodies y)) (program_rank flows_sorts 64 (length x.bytes))
      (flow_source y f) (flows_lawful y) from to f.halt begins cut (h.valid, h.moves_on)).0 in
      record { valid = on.0; moves_on = on.1; end = cut }

  stopped : (s : Source) (to : ℕ × ℕ) (g : Halt Flows) (state : State) → g.state ≡ state
      → program_valid flows_sorts 64 (length x.bytes) g.config g.attempts state
      → Stops (step_by (flows_bodies (flow_context x))) s to true (record g { state = state }) → (state ≡ states.Ok) × (g.attempts ≡ [])
  stopped s to g (states.Error m) e v h = absurd v.stands
  stopped s to g (states.Next n) e v h = absurd (let f : true ≡ false = h.0 in cc)
  stopped s to g (states.Retry n) e v h = absurd h
  stopped s to g states.Ok e v h = (refl, h)
  stopped s to g states.Nok e v h =
      let alone = subst (λ (st : List Attempt). program_valid flows_sorts 64 (length x.bytes) g.config st states.Nok) h v in
      absurd (let f : true ≡ false = alone.stands in cc)

  finished_holds : (f : FlowSeen) → FlowHolds x.bytes f
      → let g = flow_finished (flow_context x) f in FlowHolds x.bytes g × HasEnded g
  unfolding flow_finished
  finished_holds f h =
      let y = flow_context x in
      let on = halted_on (program_valid flows_sorts 64 (length x.bytes)) (step_by (flows_bodies y)) (program_rank flows_sorts 64 (length x.bytes))
      (flow_source y f) (flows_lawful y) f.end true f.halt h.end h.valid in
      let g = halted (step_by (flows_bodies y)) (flow_source y f) f.end true (program_rank flows_sorts 64 (length x.bytes)) f.halt in
      let ended = stopped (flow_source y f) f.end g g.state refl on.0.0 on.1 in
      (record { valid = on.0.0; moves_on = on.0.1; end = h.end }, record { ok = ended.0; alone = ended.1 })

-- ---- the reader

module _ (bytes : List ℕ) where
  map_holds : (g : FlowSeen → FlowSeen) → ((f : FlowSeen) → FlowHolds bytes f → FlowHolds bytes (g f)) → (o : Option FlowSeen) → HoldsFlow bytes o
      → HoldsFlow bytes (option_map g o)
  map_holds g kept None h = tt
  map_holds g kept (Some f) h = kept f h

module _ {T : Type 0} (x : Context T) where
  either_holds : (t : Bool) (v w : ReaderSeen) → ReaderHolds x v → ReaderHolds x w → ReaderHolds x (if t then v else w)
  either_holds true v w h g = h
  either_holds false v w h g = g

  marker_holds : (line : ℕ) (v : ReaderSeen) (index : Option ℕ) → ReaderHolds x v → ReaderHolds x (with_marker line v index)
  marker_holds line v None h = h
  marker_holds line v (Some index) h = record { flow = h.flow; begun = h.begun }

  closed_holds : (count line : ℕ) (v : ReaderSeen) → ReaderHolds x v → ReaderHolds x (closed count line v)
  closed_holds count line v h = record { flow = h.flow; begun = h.begun }

  line_read_holds : (p : Point) (v : ReaderSeen) (b : Option Point) → HoldsBegun x.bytes b → ReaderHolds x v → ReaderHolds x (line_read x p v b)
  line_read_holds p v None begun h = h
  line_read_holds p v (Some b) begun h = pick (is_cut x.bytes p) refl
    where
      pick : (t : Bool) → is_cut x.bytes p ≡ t → ReaderHolds x (if t
          then record v { flow = option_map (flow_read (flow_context x) (cut_at b) (cut_at p)) v.flow; begun = None } else record v { begun = None })
      pick true e = record {
        flow = map_holds x.bytes (flow_read (flow_context x) (cut_at b) (cut_at p))
            (read_holds x (cut_at b) (cut_at p) begun (cut_holds x.bytes p e)) v.flow h.flow;
        begun = tt;
      }
      pick false e = record { flow = h.flow; begun = tt }

  all_finished : (v : ReaderSeen) → ReaderHolds x v → ReaderHolds x (finished x v)
  all_finished v h = record {
    flow = map_holds x.bytes (flow_finished (flow_context x)) (λ f g. (finished_holds x f g).0) v.flow h.flow;
    begun = h.begun;
  }

  anew_flow : (o : Option FlowSeen) → HoldsFlow x.bytes o → HoldsFlow x.bytes (option_map flow_anew (option_map (flow_finished (flow_context x)) o))
  anew_flow None h = tt
  anew_flow (Some f) h = let g = finished_holds x f h in anew_holds x.bytes (flow_finished (flow_context x) f) g.0 g.1

  settled_flow : (k : KeptState) (b : Point) (v : ReaderSeen) (o : Option FlowSeen) → ReaderHolds x v → ReaderHolds x (settled_with k b v o)
  settled_flow k b v None h = h
  settled_flow k b v (Some f) h = either_holds _ _ _ (record { flow = h.flow; begun = h.begun }) (record { flow = h.flow; begun = h.begun })

  settled_holds : (k : KeptState) (b : Option Point) (v : ReaderSeen) → ReaderHolds x v → ReaderHolds x (settled k b v)
  settled_holds k None v h = h
  settled_holds k (Some b) v h = settled_flow k b v v.flow h

  flow_begun_holds : (v : ReaderSeen) (k : KeptState) (p : Point) → ReaderHolds x v → ReaderHolds x (reader_calls.flow_begun x v k p)
  flow_begun_holds v k p h = pick (is_cut x.bytes p) refl
    where
      pick : (t : Bool) → is_cut x.bytes p ≡ t → ReaderHolds x (if t
          then record v { flow = option_map (flow_line x p (not (goes_on k v))) v.flow; begun = Some p } else v)
      pick true e = record {
        flow = map_holds x.bytes (flow_line x p (not (goes_on k v))) (line_holds x p (not (goes_on k v))) v.flow h.flow;
        begun = cut_holds x.bytes p e;
      }
      pick false e = h

  pub line_end : (v : ReaderSeen) (p : Point) → ReaderHolds x v → ReaderHolds x (line_read x p v v.begun)
  line_end v p h = line_read_holds p v v.begun h.begun h

pub reader_lawful : {T : Type 0} → AreKept {T = T} reader_calls ReaderHolds
reader_lawful = record {
  went_on = λ x v k p h. either_holds x _ _ _ (marker_holds x p.line v (slice_get v.nested k.space_or_tab_max) h) h;
  marked = λ x v n h. record { flow = h.flow; begun = h.begun };
  begun = λ x v k p h. record { flow = anew_flow x v.flow h.flow; begun = h.begun };
  flow_begun = flow_begun_holds;
  flow_read = λ x v k p h. settled_holds x k v.begun (line_read x p v v.begun) (line_end x v p h);
  ended = λ x v k p h.
      let w = finished x (line_read x p v v.begun) in
      closed_holds x 0 _ (settled k v.begun w) (settled_holds x k v.begun w (all_finished x (line_read x p v v.begun) (line_end x v p h)));
}

-- reading may begin
pub reader_begins : {T : Type 0} (x : Context T) (p : Point) → ReaderHolds x (fresh_reader p)
reader_begins x p = record {
  flow = record {
    valid = flows_begin (length x.bytes) flows p;
    moves_on = tt;
    end = record { within = omega arith; column = λ e. refl };
  };
  begun = tt;
}
