-- What holds of a machine is kept by bodies that change it by functions that keep it, and is a part of what holds whenever a state is next.
use Rattle.std.proofs.Common.{◌≡◌, ℕ, Bool, true, false, Option, None, Some, cond, if◌then◌else◌}
use Rattle.std.proofs.lemmas.Bool.{and_parts}
use Rattle.engine_states.specs.declared.state.Name.{Name}
use Rattle.markdown_engine.specs.declared.attempt.Attempt.{Attempt}
use Rattle.markdown_engine.specs.Laws.{HoldsAt, LawfulAt, RanksAt}
use Rattle.markdown_engine.specs.Machine.{past_byte, to_run_first, to_run_last, with_enter, with_exit}
use Rattle.markdown_engine.specs.Reading.{Config, Effect, Steps, restore}
use Rattle.markdown_engine.specs.Resolving.{Resolves, ResolvesAt, SettlesAt}
use Rattle.markdown_engine.specs.VirtualText.{is_feed}
use Rattle.engine_programs.specs.Bodies.{Body, Answer, Consume, Enter, EnterLink, Exit, Keep, Hold, Flag, Move}
use Rattle.engine_programs.specs.Bodies.{Register, RegisterFirst, Tries, Byte, On, AfterFeed, Test, by_byte, flagging, has, holding, keeping, moving, name_of, run}
use Rattle.state_document.specs.Views.{moves_none}

module _ {M : Type 0} (holds : M → Type 0) where
  abbrev HoldsAfter : Effect M → Type 0
  HoldsAfter e = holds e.config.machine

  -- each function that changes the machine keeps it
  abbrev pub Keeps : Body M → Type 0
  Keeps (Answer s) = Unit {0}
  Keeps (Consume b) = Keeps b
  Keeps (Enter t b) = Keeps b
  Keeps (EnterLink t f b) = Keeps b
  Keeps (Exit t b) = Keeps b
  Keeps (Keep f same b) = Keeps b
  Keeps (Hold i name b) = Keeps b
  Keeps (Flag f b) = Keeps b
  Keeps (Move f b) = ((c : Config M) → holds c.machine → holds (f c)) × Keeps b
  Keeps (Register r b) = Keeps b
  Keeps (RegisterFirst r b) = Keeps b
  Keeps (Tries check ok nok s) = Unit {0}
  Keeps (Byte a b) = Keeps a × Keeps b
  Keeps (On p a b) = Keeps a × Keeps b
  Keeps (AfterFeed a b) = Keeps a × Keeps b
  Keeps (Test t a b) = Keeps a × Keeps b

  keeps_by_byte : (v : Option ℕ) (a b : Effect M) → HoldsAfter a → HoldsAfter b → HoldsAfter (by_byte v a b)
  keeps_by_byte None a b h g = h
  keeps_by_byte (Some byte) a b h g = g

  keeps_if : (t : Bool) (a b : Effect M) → HoldsAfter a → HoldsAfter b → HoldsAfter (if t then a else b)
  keeps_if true a b h g = h
  keeps_if false a b h g = g

  pub run_keeps : (b : Body M) → Keeps b → (c : Config M) → holds c.machine → HoldsAfter (run b c)
  run_keeps (Answer s) k c h = h
  run_keeps (Consume b) k c h = run_keeps b k (past_byte c) h
  run_keeps (Enter t b) k c h = run_keeps b k (with_enter (name_of c.tokenize_state t) None c) h
  run_keeps (EnterLink t f b) k c h = run_keeps b k (with_enter (name_of c.tokenize_state t) (f c) c) h
  run_keeps (Exit t b) k c h = run_keeps b k (with_exit (name_of c.tokenize_state t) c) h
  run_keeps (Keep f same b) k c h = run_keeps b k (keeping f c) h
  run_keeps (Hold i name b) k c h = run_keeps b k (holding i name c) h
  run_keeps (Flag f b) k c h = run_keeps b k (flagging f c) h
  run_keeps (Move f b) k c h = run_keeps b k.1 (moving f c) (k.0 c h)
  run_keeps (Register r b) k c h = run_keeps b k (to_run_last r c) h
  run_keeps (RegisterFirst r b) k c h = run_keeps b k (to_run_first r c) h
  run_keeps (Tries check ok nok s) k c h = h
  run_keeps (Byte a b) k c h = keeps_by_byte c.current (run a c) (run b c) (run_keeps a k.0 c h) (run_keeps b k.1 c h)
  run_keeps (On p a b) k c h = keeps_if (has p c.current) (run a c) (run b c) (run_keeps a k.0 c h) (run_keeps b k.1 c h)
  run_keeps (AfterFeed a b) k c h = keeps_if (is_feed c.previous) (run a c) (run b c) (run_keeps a k.0 c h) (run_keeps b k.1 c h)
  run_keeps (Test t a b) k c h = keeps_if (t c) (run a c) (run b c) (run_keeps a k.0 c h) (run_keeps b k.1 c h)

  -- a body that changes no machine
  pub none_keeps : (b : Body M) → moves_none b ≡ true → Keeps b
  none_keeps (Answer s) h = tt
  none_keeps (Consume b) h = none_keeps b h
  none_keeps (Enter t b) h = none_keeps b h
  none_keeps (EnterLink t f b) h = none_keeps b h
  none_keeps (Exit t b) h = none_keeps b h
  none_keeps (Keep f same b) h = none_keeps b h
  none_keeps (Hold i name b) h = none_keeps b h
  none_keeps (Flag f b) h = none_keeps b h
  none_keeps (Move f b) h = absurd (let g : false ≡ true = h in cc)
  none_keeps (Register r b) h = none_keeps b h
  none_keeps (RegisterFirst r b) h = none_keeps b h
  none_keeps (Tries check ok nok s) h = tt
  none_keeps (Byte a b) h = let p = and_parts (moves_none a) (moves_none b) h in (none_keeps a p.0, none_keeps b p.1)
  none_keeps (On q a b) h = let p = and_parts (moves_none a) (moves_none b) h in (none_keeps a p.0, none_keeps b p.1)
  none_keeps (AfterFeed a b) h = let p = and_parts (moves_none a) (moves_none b) h in (none_keeps a p.0, none_keeps b p.1)
  none_keeps (Test t a b) h = let p = and_parts (moves_none a) (moves_none b) h in (none_keeps a p.0, none_keeps b p.1)

  keeps_back : (t : Bool) (a : Attempt) (c : Config M) → holds c.machine → holds (cond t (restore a c) c).machine
  keeps_back true a c h = h
  keeps_back false a c h = h

  module _ (valid : HoldsAt M) where
    abbrev pub HoldsBoth : HoldsAt M
    HoldsBoth c stack s = valid c stack s × holds c.machine

    -- a machine is lawful with what its steps keep
    pub lawful_with : (size : ℕ) (step : Steps M) (rank : RanksAt M) → LawfulAt size valid step rank
        → ((c : Config M) (n : Name) → holds c.machine → HoldsAfter (step c n)) → LawfulAt size HoldsBoth step rank
    lawful_with size step rank l kept = record {
      adds = l.adds;
      consumes = λ c stack n h. l.consumes c stack n h.0;
      keeps = record {
        fed = λ c stack n p v f h. (l.keeps.fed c stack n p v f h.0, h.1);
        moved = λ c stack s p on low k h. (l.keeps.moved c stack s p on low k h.0, h.1);
        called = λ c stack n h. (l.keeps.called c stack n h.0, kept c n h.1);
        ok = λ c stack a h. (l.keeps.ok c stack a h.0, keeps_back a.check a c h.1);
        nok = λ c stack a h. (l.keeps.nok c stack a h.0, h.1);
        no_error = λ c stack m h. l.keeps.no_error c stack m h.0;
      };
      falls = record {
        fed = λ c stack n p v h f. l.falls.fed c stack n p v h.0 f;
        called = λ c stack n h. l.falls.called c stack n h.0;
        ok = λ c stack a h. l.falls.ok c stack a h.0;
        nok = λ c stack a h. l.falls.nok c stack a h.0;
      };
      tidies = λ c stack s h. l.tidies c stack s h.0;
      closes = λ c well h. l.closes c well h.0;
    }

    -- so are its resolvers
    pub resolves_with : (resolve : Resolves M) (settled : SettlesAt M) → ResolvesAt valid resolve settled → ResolvesAt HoldsBoth resolve settled
    resolves_with resolve settled r = record {
      well = λ c h. r.well c h.0;
      begins = λ c h. r.begins c h.0;
      keeps = r.keeps;
      ordered = r.ordered;
      whole = r.whole;
    }
