-- Reading turn by turn, as a function: where it is after so many turns, and where it stops.
use Rattle.std.specs.Prelude.{◌≡◌, ℕ, zero, suc, ◌+◌, Bool, true, false, if◌then◌else◌, length, List, [], ◌∷◌, ◌++◌, map, reverse, Option, None, Some}
use Rattle.engine_events.specs.declared.place.Point.{Point}
use Rattle.engine_states.specs.declared.state.Name.{Name}
use Rattle.engine_states.specs.declared.state.State.{State}
use Rattle.engine_states.specs.declared.state.State.TheVariants as states
use Rattle.markdown_engine.specs.declared.attempt.Attempt.{Attempt}
use Rattle.markdown_engine.specs.declared.virtual_text.VirtualByte.{VirtualByte}
use Rattle.markdown_engine.specs.Laws.{RanksAt, remaining}
use Rattle.markdown_engine.specs.Reading.{Config, Effect, Steps, at_point, continuation, end_state, mark, state_after, with_byte}
use Rattle.markdown_engine.specs.VirtualText.{Source, byte_before, is_before, place_in, virtual_byte}

-- where reading is: the configuration, the attempts that wait, the innermost of them the last, and the state
pub record Halt (M : Type 0) : Type 0 where
  pub config : Config M
  pub attempts : List Attempt
  pub state : State

module _ {M : Type 0} where
  -- after a call
  abbrev pub called : Effect M → List Attempt → Halt M
  called e stack = record { config = e.config; attempts = stack ++ map mark e.pushed; state = e.state }

  -- after an end, well or not, with these attempts, the innermost first
  abbrev pub popped : Bool → Config M → List Attempt → Halt M
  popped v c [] = record { config = c; attempts = []; state = end_state v }
  popped v c (a ∷ around) = record { config = continuation a c v; attempts = reverse around; state = state_after a v }

  -- at another place
  abbrev pub halt_at : Point → Halt M → Halt M
  halt_at p h = record h { config = at_point p h.config }

  module _ (step : Steps M) (s : Source) (to : ℕ × ℕ) (end : Bool) where
    -- a state is called at a place with the byte there; at the range's end none is called, unless the text ends there
    abbrev pub handed : Halt M → Name → Point → Option VirtualByte → Halt M
    handed h n p None = if end then called (step (with_byte h.config p None) n) h.attempts else h
    handed h n p (Some b) = called (step (with_byte h.config p (Some b)) n) h.attempts

    abbrev pub turned_by : State → Halt M → Halt M
    turned_by (states.Error m) h = h
    turned_by (states.Next n) h = let p = place_in s.skips h.config.point in handed h n p (byte_before s.bytes to p)
    turned_by (states.Retry n) h = called (step h.config n) h.attempts
    turned_by states.Ok h = popped true h.config (reverse h.attempts)
    turned_by states.Nok h = popped false h.config (reverse h.attempts)

    -- one turn; where reading stops, nothing changes
    abbrev pub turned : Halt M → Halt M
    turned h = turned_by h.state h

    -- so many turns
    unfoldable pub turns : ℕ → Halt M → Halt M
    turns zero h = h
    turns (suc n) h = turns n (turned h)

    -- where reading stops: with nothing that waits, or at the range's end
    abbrev pub StopsAs : State → Halt M → Type 0
    StopsAs (states.Error m) h = Unit {0}
    StopsAs (states.Next n) h = (end ≡ false) × (is_before to (place_in s.skips h.config.point) ≡ false)
    StopsAs (states.Retry n) h = ⊥
    StopsAs states.Ok h = h.attempts ≡ []
    StopsAs states.Nok h = h.attempts ≡ []

    abbrev pub Stops : Halt M → Type 0
    Stops h = StopsAs h.state h

    -- where it stops from here, by a number that falls with each turn: so many turns, and one, are enough
    abbrev pub halted : RanksAt M → Halt M → Halt M
    halted rank h = turns (rank h.config h.attempts h.state + 1) h

-- over so many bytes at most, up to an index and a column of a tab there
unfoldable pub walked : ℕ → List ℕ → ℕ × ℕ → Point → Point
walked zero bytes to p = p
walked (suc n) bytes to p = if is_before to p then walked n bytes to (virtual_byte bytes p).next else p

-- where a range begins: where reading is, or, if the range leaves a gap, over it at the range's start
abbrev pub range_start : Source → ℕ × ℕ → Point → Point
range_start s from p =
    let place = place_in s.skips p in
    if is_before from place then walked (remaining (length s.bytes) place) s.bytes from place else p
