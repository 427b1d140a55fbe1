-- A rank for every machine whose calls descend. Each configuration with its state has a weight; a call leads to less, and so do the attempts that it makes,
-- however they end.
use Rattle.std.specs.Prelude.{ℕ, ◌+◌, ◌^◌, ◌<◌, ◌≤◌, true, false, List, [], ◌∷◌, ◌++◌, map, length, Option}
use Rattle.engine_events.specs.declared.place.Point.{Point}
use Rattle.engine_states.specs.declared.state.Name.{Name}
use Rattle.engine_states.specs.declared.state.State.{State}
use Rattle.engine_states.specs.declared.state.State.TheVariants as states
use Rattle.markdown_engine.specs.declared.attempt.Attempt.{Attempt}
use Rattle.markdown_engine.specs.declared.virtual_text.VirtualByte.{VirtualByte}
use Rattle.markdown_engine.specs.Laws.{HoldsAt, IsFed, RanksAt}
use Rattle.markdown_engine.specs.Reading.{Config, Steps, with_byte, mark, continuation}

abbrev pub Weighs : Type 0 → Type 0
Weighs M = Config M → State → ℕ

-- each of these attempts weighs less
abbrev pub AllBelow : (Attempt → ℕ) → ℕ → List Attempt → Type 0
AllBelow waits w [] = Unit {0}
AllBelow waits w (a ∷ more) = (waits a < w) × AllBelow waits w more

-- a call makes fewer than `most` attempts
pub record DescendsAt {M : Type 0} (size : ℕ) (valid : HoldsAt M) (step : Steps M) (most : ℕ) (weight : Weighs M) (waits : Attempt → ℕ) : Type 0 where
  pub fed : (c : Config M) (stack : List Attempt) (n : Name) (p : Point) (v : Option VirtualByte) → valid c stack (states.Next n) → IsFed size c.point p v
      → weight (with_byte c p v) (states.Retry n) ≤ weight c (states.Next n)
  pub called : (c : Config M) (stack : List Attempt) (n : Name) → valid c stack (states.Retry n) → let e = step c n in
      weight e.config e.state < weight c (states.Retry n)
  pub fewer : (c : Config M) (stack : List Attempt) (n : Name) → valid c stack (states.Retry n) → length (step c n).pushed < most
  pub pushed : (c : Config M) (stack : List Attempt) (n : Name) → valid c stack (states.Retry n)
      → AllBelow waits (weight c (states.Retry n)) (map mark (step c n).pushed)
  pub ok : (c : Config M) (stack : List Attempt) (a : Attempt) → valid c (stack ++ a ∷ []) states.Ok → weight (continuation a c true) a.ok ≤ waits a
  pub nok : (c : Config M) (stack : List Attempt) (a : Attempt) → valid c (stack ++ a ∷ []) states.Nok → weight (continuation a c false) a.nok ≤ waits a

-- the attempts that wait, together
abbrev pub all_wait : ℕ → (Attempt → ℕ) → List Attempt → ℕ
all_wait base waits [] = 0
all_wait base waits (a ∷ more) = base ^ waits a + all_wait base waits more

-- what may come of a call, and of each attempt that waits
abbrev pub descent : {M : Type 0} → ℕ → Weighs M → (Attempt → ℕ) → RanksAt M
descent most weight waits c stack s = (most + 1) ^ weight c s + all_wait (most + 1) waits stack
