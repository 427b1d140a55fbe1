-- What states do, as data: a body is a program of a few calls and tests.
use Rattle.std.specs.Prelude.{◌≡◌, ℕ, Bool, false, ◌==◌, if◌then◌else◌, List, [], ◌∷◌, Option, None, Some}
use Rattle.engine_events.specs.declared.event.Link.{Link}
use Rattle.engine_events.specs.declared.event.Name.{Name as EventName}
use Rattle.engine_states.specs.declared.resolve.Name.{Name as Resolver}
use Rattle.engine_states.specs.declared.state.Name.{Name}
use Rattle.engine_states.specs.declared.state.State.{State}
use Rattle.markdown_engine.specs.KeptState.{KeptState}
use Rattle.markdown_engine.specs.Machine.{frame_at, past_byte, with_enter, with_exit, to_run_first, to_run_last}
use Rattle.markdown_engine.specs.Reading.{Config, Effect, Steps}
use Rattle.markdown_engine.specs.VirtualText.{is_feed}

-- the name of an event: this one, or one of the six that states keep
pub data Token : Type 0 where
  FixedName : EventName → Token
  HeldName : ℕ → Token

abbrev pub held_name : KeptState → ℕ → EventName
held_name k i = if i == 1 then k.token_1 else if i == 2 then k.token_2 else if i == 3 then k.token_3 else if i == 4 then k.token_4 else if i == 5 then k.token_5
    else k.token_6

abbrev pub with_held_name : ℕ → EventName → KeptState → KeptState
with_held_name i name k = if i == 1 then record k { token_1 = name } else if i == 2 then record k { token_2 = name }
    else if i == 3 then record k { token_3 = name }
    else if i == 4 then record k { token_4 = name } else if i == 5 then record k { token_5 = name } else record k { token_6 = name }

abbrev pub name_of : KeptState → Token → EventName
name_of k (FixedName name) = name
name_of k (HeldName i) = held_name k i

abbrev pub names_of : KeptState → List Token → List EventName
names_of k [] = []
names_of k (t ∷ ts) = name_of k t ∷ names_of k ts

-- how a text stands among its containers
pub record Flags : Type 0 where
  pub interrupt : Bool
  pub lazy : Bool
  pub concrete : Bool
  pub pierce : Bool

-- the byte at hand is one of these
abbrev pub has : (ℕ → Bool) → Option ℕ → Bool
has p None = false
has p (Some b) = p b

-- What a state does. `Keep` changes what states keep but for the six names, of which `Hold` changes one. `Move` changes the machine alone. `EnterLink` may
-- begin a chunk that is read later. `Byte` goes on at the text's end or at a byte, `On` at one of some bytes or elsewhere, `AfterFeed` right after a line
-- ending or elsewhere. `Tries` makes an attempt, or looks ahead, and is the last call.
pub data Body (M : Type 0) : Type 0 where
  Answer : State → Body M
  Consume : Body M → Body M
  Enter : Token → Body M → Body M
  EnterLink : Token → (Config M → Option Link) → Body M → Body M
  Exit : Token → Body M → Body M
  Keep : (f : Config M → KeptState) → ((c : Config M) (i : ℕ) → held_name (f c) i ≡ held_name c.tokenize_state i) → Body M → Body M
  Hold : ℕ → EventName → Body M → Body M
  Flag : (Config M → Flags) → Body M → Body M
  Move : (Config M → M) → Body M → Body M
  Register : Resolver → Body M → Body M
  RegisterFirst : Resolver → Body M → Body M
  Tries : Bool → State → State → State → Body M
  Byte : Body M → Body M → Body M
  On : (ℕ → Bool) → Body M → Body M → Body M
  AfterFeed : Body M → Body M → Body M
  Test : (Config M → Bool) → Body M → Body M → Body M

module _ {M : Type 0} where
  abbrev pub by_byte : Option ℕ → Effect M → Effect M → Effect M
  by_byte None a b = a
  by_byte (Some byte) a b = b

  abbrev pub keeping : (Config M → KeptState) → Config M → Config M
  keeping f c = record c { tokenize_state = f c }

  abbrev pub holding : ℕ → EventName → Config M → Config M
  holding i name c = record c { tokenize_state = with_held_name i name c.tokenize_state }

  abbrev pub flagging : (Config M → Flags) → Config M → Config M
  flagging f c = record c { interrupt = (f c).interrupt; lazy = (f c).lazy; concrete = (f c).concrete; pierce = (f c).pierce }

  abbrev pub moving : (Config M → M) → Config M → Config M
  moving f c = record c { machine = f c }

  abbrev pub run : Body M → Config M → Effect M
  run (Answer s) c = record { config = c; pushed = []; state = s }
  run (Consume b) c = run b (past_byte c)
  run (Enter t b) c = run b (with_enter (name_of c.tokenize_state t) None c)
  run (EnterLink t f b) c = run b (with_enter (name_of c.tokenize_state t) (f c) c)
  run (Exit t b) c = run b (with_exit (name_of c.tokenize_state t) c)
  run (Keep f same b) c = run b (keeping f c)
  run (Hold i name b) c = run b (holding i name c)
  run (Flag f b) c = run b (flagging f c)
  run (Move f b) c = run b (moving f c)
  run (Register r b) c = run b (to_run_last r c)
  run (RegisterFirst r b) c = run b (to_run_first r c)
  run (Tries check ok nok s) c = record { config = c; pushed = frame_at check ok nok c ∷ []; state = s }
  run (Byte a b) c = by_byte c.current (run a c) (run b c)
  run (On p a b) c = if has p c.current then run a c else run b c
  run (AfterFeed a b) c = if is_feed c.previous then run a c else run b c
  run (Test t a b) c = if t c then run a c else run b c

  abbrev pub step_by : (Name → Body M) → Steps M
  step_by bodies c n = run (bodies n) c

  -- an event round the byte
  abbrev pub around : Token → Body M → Body M
  around t b = Enter t (Consume (Exit t b))
