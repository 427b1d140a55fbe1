-- States that don't ask the machine, where only a part of the machine is seen.
use Rattle.std.specs.Prelude.{Bool, true, false, ◌&&◌}
use Rattle.engine_states.specs.declared.state.State.{State}
use Rattle.markdown_engine.specs.declared.tokenizer.Tokenizer.{Tokenizer}
use Rattle.markdown_engine.specs.Machine.{Shows, view_config}
use Rattle.markdown_engine.specs.Reading.{seen_as}
use Rattle.engine_programs.specs.Bodies.{Body, Answer, Consume, Enter, EnterLink, Exit, Keep, Hold, Flag, Move}
use Rattle.engine_programs.specs.Bodies.{Register, RegisterFirst, Tries, Byte, On, AfterFeed, Test, run}

-- a call did what the body says of what is seen of the machine, or memory was wanted
abbrev pub Sees : {M V T A : Type 0} → (M → V) → Body V → Tokenizer M T A → Tokenizer M T A → State → Type 0
Sees view b old new s = Shows view (run b (view_config view old)) old new s

-- the body changes no machine
abbrev pub moves_none : {V : Type 0} → Body V → Bool
moves_none (Answer s) = true
moves_none (Consume b) = moves_none b
moves_none (Enter t b) = moves_none b
moves_none (EnterLink t f b) = moves_none b
moves_none (Exit t b) = moves_none b
moves_none (Keep f same b) = moves_none b
moves_none (Hold i name b) = moves_none b
moves_none (Flag f b) = moves_none b
moves_none (Move f b) = false
moves_none (Register r b) = moves_none b
moves_none (RegisterFirst r b) = moves_none b
moves_none (Tries check ok nok s) = true
moves_none (Byte a b) = moves_none a && moves_none b
moves_none (On p a b) = moves_none a && moves_none b
moves_none (AfterFeed a b) = moves_none a && moves_none b
moves_none (Test t a b) = moves_none a && moves_none b

-- the same body on the whole machine
abbrev pub through : {M V : Type 0} → (M → V) → Body V → Body M
through view (Answer s) = Answer s
through view (Consume b) = Consume (through view b)
through view (Enter t b) = Enter t (through view b)
through view (EnterLink t f b) = EnterLink t (λ c. f (seen_as view c)) (through view b)
through view (Exit t b) = Exit t (through view b)
through view (Keep f same b) = Keep (λ c. f (seen_as view c)) (λ c i. same (seen_as view c) i) (through view b)
through view (Hold i name b) = Hold i name (through view b)
through view (Flag f b) = Flag (λ c. f (seen_as view c)) (through view b)
through view (Move f b) = Move (λ c. c.machine) (through view b)
through view (Register r b) = Register r (through view b)
through view (RegisterFirst r b) = RegisterFirst r (through view b)
through view (Tries check ok nok s) = Tries check ok nok s
through view (Byte a b) = Byte (through view a) (through view b)
through view (On p a b) = On p (through view a) (through view b)
through view (AfterFeed a b) = AfterFeed (through view a) (through view b)
through view (Test t a b) = Test (λ c. t (seen_as view c)) (through view a) (through view b)
