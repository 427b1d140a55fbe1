-- What a tokenizer of flow has read is a function of what was seen before.
use Rattle.std.proofs.Common.{◌≡◌, ◌∙◌, ℕ, true, false, length, ◌⊎◌, inl, inr, refl, ap}
use Rattle.std.specs.Borrow.{Bor}
use Rattle.markdown_options.specs.declared.message.Message.{Message}
use Rattle.engine_states.specs.States.{IsRefused}
use Rattle.engine_states.specs.declared.state.State.{State}
use Rattle.engine_states.specs.declared.state.State.TheVariants as states
use Rattle.markdown_engine.specs.declared.parse_state.ParseState.{ParseState}
use Rattle.markdown_engine.specs.declared.tokenizer.Tokenizer.{Tokenizer}
use Rattle.markdown_engine.specs.Context.{Context, context}
use Rattle.markdown_engine.specs.Laws.{Ranks}
use Rattle.markdown_engine.specs.Machine.{HaltsFrom, HaltsWell, halt_of}
use Rattle.markdown_engine.specs.Reading.{Steps}
use Rattle.markdown_engine.specs.Turns.{Halt, halt_at, halted, range_start}
use Rattle.markdown_engine.specs.VirtualText.{Skips, Source}
use Rattle.engine_programs.specs.Bodies.{step_by}
use Rattle.engine_programs.specs.Stacks.{program_rank}
use Rattle.state_flow.specs.Flows.{flows_bodies, flows_sorts}
use Rattle.state_flow.specs.declared.flows.Flows.{Flows}
use Rattle.state_reader.specs.Flow.{FlowSeen, flow_finished, flow_read}

abbrev step : {T : Type 0} → Context T → Steps Flows
step x = step_by (flows_bodies x)

abbrev rank : {T : Type 0} → Ranks T Flows
rank x = program_rank flows_sorts 64 (length x.bytes)

abbrev source : {T : Type 0} → Context T → Skips → Source
source x skips = record { bytes = x.bytes; skips = skips }

-- parts that are the same make the same
same_seen : (h g : Halt Flows) (s t : Skips) (e d : ℕ × ℕ) → h ≡ g → s ≡ t → e ≡ d
    → (let f : FlowSeen = record { halt = h; skips = s; end = e } in f) ≡ record { halt = g; skips = t; end = d }
same_seen h g s t e d p q r = cc

module _ {T B : Type 0} (old new : Tokenizer Flows T B) (given : State) (parse_state : ParseState T B) (f g : FlowSeen)
    (held : halt_of (λ machine. machine) old given ≡ f.halt) (skips : old.skips.entries ≡ f.skips) (text : old.parse_state.now ≡ parse_state) where
  -- the text's end was read
  pub has_finished : old.end ≡ f.end → HaltsWell (λ machine. machine) step rank old.end given old new
      → g.halt ≡ halt_of (λ machine. machine) new states.Ok → g.skips ≡ new.skips.entries → g.end ≡ f.end → g ≡ flow_finished (context parse_state) f
  unfolding flow_finished
  has_finished end ran halt kept same =
      let x = context parse_state in
      let at_end = λ (e : ℕ × ℕ). halted (step x) (source x f.skips) e true (rank x) f.halt in
      let by_halt = λ (h : Halt Flows). halted (step x) (source x f.skips) old.end true (rank x) h in
      let by_skips = λ (s : Skips). halted (step x) (source x s) old.end true (rank x) (halt_of (λ machine. machine) old given) in
      let by_text = λ (p : ParseState T B). halted (step (context p)) (source (context p) old.skips.entries) old.end true (rank (context p))
      (halt_of (λ machine. machine) old given) in
      same_seen g.halt _ g.skips _ g.end _ (halt ∙ (ran.halt ∙ (ap by_text text ∙ (ap by_skips skips ∙ (ap by_halt held ∙ ap at_end end)))))
      (kept ∙ (ran.same.skips ∙ skips)) same

  -- a range was read, if nothing failed
  pub has_read : {F : Type 0} (from to : ℕ × ℕ) (s : State) → F ⊎ HaltsFrom (λ machine. machine) step rank from to given old new s → (F → ⊥)
      → g.halt ≡ halt_of (λ machine. machine) new s → g.skips ≡ new.skips.entries → g.end ≡ to → g ≡ flow_read (context parse_state) from to f
  unfolding flow_read
  has_read from to s (inl failed) fine halt kept same = absurd (fine failed)
  has_read from to s (inr ran) fine halt kept same =
      let x = context parse_state in
      let moved = λ (t : Source) (h : Halt Flows). halt_at (range_start t from h.config.point) h in
      let by_halt = λ (h : Halt Flows). halted (step x) (source x f.skips) to false (rank x) (moved (source x f.skips) h) in
      let by_skips = λ (t : Skips). halted (step x) (source x t) to false (rank x) (moved (source x t) (halt_of (λ machine. machine) old given)) in
      let by_text = λ (p : ParseState T B). halted (step (context p)) (source (context p) old.skips.entries) to false (rank (context p))
      (moved (source (context p) old.skips.entries) (halt_of (λ machine. machine) old given)) in
      same_seen g.halt _ g.skips _ g.end _ (halt ∙ (ran.halt ∙ (ap by_text text ∙ (ap by_skips skips ∙ ap by_halt held))))
      (kept ∙ (ran.same.skips ∙ skips)) same

-- no error was answered
pub not_refused : (s : State) → ((m : Bor Message) → s ≡ states.Error m → ⊥) → IsRefused s → ⊥
not_refused (states.Error m) none h = none m refl
not_refused (states.Next n) none h = h
not_refused (states.Retry n) none h = h
not_refused states.Ok none h = h
not_refused states.Nok none h = h
