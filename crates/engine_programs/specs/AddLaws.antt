-- Events are only added: the events before a body runs are the first of those after it.
use Rattle.std.proofs.Common.{None, refl}
use Rattle.engine_states.specs.declared.state.Name.{Name}
use Rattle.markdown_engine.specs.Laws.{AreNested, OnlyAdds}
use Rattle.markdown_engine.specs.Machine.{past_byte, with_enter, with_exit, to_run_first, to_run_last}
use Rattle.markdown_engine.specs.Reading.{Config, Effect}
use Rattle.markdown_engine.specs.StepLaws.{same_front}
use Rattle.markdown_engine.specs.VirtualText.{is_feed}
use Rattle.engine_programs.specs.Bodies.{Body, Answer, Consume, Enter, EnterLink, Exit, Keep, Hold, Flag, Move, Register, RegisterFirst, Tries, Byte, On}
use Rattle.engine_programs.specs.Bodies.{AfterFeed, Test, flagging, has, holding, keeping, moving, name_of, run, step_by}
use Rattle.engine_programs.specs.NameLaws.{by_byte_each, either_way}
use Rattle.engine_programs.specs.NameLaws.{nested_on}

module _ {M : Type 0} where
  Adds : Config M → Effect M → Type 0
  Adds c e = AreNested c.events e.pushed e.config.events

  run_adds : (b : Body M) (c : Config M) → Adds c (run b c)
  unfolding Adds
  run_adds (Answer s) c = same_front c.events
  run_adds (Consume b) c = run_adds b (past_byte c)
  run_adds (Enter t b) c = let d = with_enter (name_of c.tokenize_state t) None c in
      nested_on c.events d.events (run b d).pushed (run b d).config.events (_, refl) (run_adds b d)
  run_adds (EnterLink t f b) c = let d = with_enter (name_of c.tokenize_state t) (f c) c in
      nested_on c.events d.events (run b d).pushed (run b d).config.events (_, refl) (run_adds b d)
  run_adds (Exit t b) c = let d = with_exit (name_of c.tokenize_state t) c in
      nested_on c.events d.events (run b d).pushed (run b d).config.events (_, refl) (run_adds b d)
  run_adds (Keep f same b) c = run_adds b (keeping f c)
  run_adds (Hold i name b) c = run_adds b (holding i name c)
  run_adds (Flag f b) c = run_adds b (flagging f c)
  run_adds (Move f b) c = run_adds b (moving f c)
  run_adds (Register r b) c = run_adds b (to_run_last r c)
  run_adds (RegisterFirst r b) c = run_adds b (to_run_first r c)
  run_adds (Tries k ok nok s) c = (same_front c.events, same_front c.events)
  run_adds (Byte a b) c = by_byte_each (Adds c) c.current (run a c) (run b c) (run_adds a c) (λ v e. run_adds b c)
  run_adds (On p a b) c = either_way (Adds c) (has p c.current) (run a c) (run b c) (λ e. run_adds a c) (λ e. run_adds b c)
  run_adds (AfterFeed a b) c = either_way (Adds c) (is_feed c.previous) (run a c) (run b c) (λ e. run_adds a c) (λ e. run_adds b c)
  run_adds (Test t a b) c = either_way (Adds c) (t c) (run a c) (run b c) (λ e. run_adds a c) (λ e. run_adds b c)

  pub program_adds : (bodies : Name → Body M) → OnlyAdds (step_by bodies)
  unfolding Adds
  program_adds bodies c n = run_adds (bodies n) c
