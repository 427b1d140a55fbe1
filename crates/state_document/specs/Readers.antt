-- What reads the lines of a text: it has the flow in them, and the places where containers begin and end.
use Rattle.std.specs.Prelude.{ℕ, Bool}
use Rattle.engine_events.specs.declared.place.Point.{Point}
use Rattle.markdown_engine.specs.Context.{Context}
use Rattle.markdown_engine.specs.KeptState.{KeptState}

-- What its calls do to what is seen of it, by what the text is read with, what the states keep and where reading is.
pub record Calls (T V : Type 0) : Type 0 where
  -- a container that is open goes on
  pub went_on : V → KeptState → Point → V
  -- a container may begin after so many events
  pub marked : V → ℕ → V
  -- one begins
  pub begun : Context T → V → KeptState → Point → V
  -- the flow of a line begins here
  pub flow_begun : Context T → V → KeptState → Point → V
  -- it ends here, and the text goes on
  pub flow_read : Context T → V → KeptState → Point → V
  -- the text ends here
  pub ended : Context T → V → KeptState → Point → V
  -- a container that begins here interrupts a paragraph
  pub interrupts : V → KeptState → Bool
  -- no container may begin here
  pub is_concrete : V → KeptState → Bool
  -- a paragraph goes on, with all containers around it
  pub stays_open : V → Bool

-- each call that changes what is seen keeps what holds of it
pub record AreKept {T V : Type 0} (calls : Calls T V) (holds : Context T → V → Type 0) : Type 0 where
  pub went_on : (x : Context T) (v : V) (k : KeptState) (p : Point) → holds x v → holds x (calls.went_on v k p)
  pub marked : (x : Context T) (v : V) (n : ℕ) → holds x v → holds x (calls.marked v n)
  pub begun : (x : Context T) (v : V) (k : KeptState) (p : Point) → holds x v → holds x (calls.begun x v k p)
  pub flow_begun : (x : Context T) (v : V) (k : KeptState) (p : Point) → holds x v → holds x (calls.flow_begun x v k p)
  pub flow_read : (x : Context T) (v : V) (k : KeptState) (p : Point) → holds x v → holds x (calls.flow_read x v k p)
  pub ended : (x : Context T) (v : V) (k : KeptState) (p : Point) → holds x v → holds x (calls.ended x v k p)
