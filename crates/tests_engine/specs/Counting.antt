-- A machine that consumes every byte.
use Rattle.std.specs.Prelude.{◌≡◌, ℕ, ◌+◌, ◌-◌, ◌^◌, min, []}
use Rattle.markdown_engine.specs.Laws.{HoldsAt}
use Rattle.markdown_engine.specs.Machine.{past_byte}
use Rattle.markdown_engine.specs.Reading.{Config, Steps}
use Rattle.tests_engine.specs.EachByte.{HoldsEach, each_byte}

-- one call more, of what is seen of the machine
abbrev pub over_byte : Config ℕ → Config ℕ
over_byte c = let d : Config ℕ = past_byte c in record d { machine = min (c.machine + 1) (2 ^ 64 - 1) }

unfoldable pub count_step : Steps ℕ
count_step = each_byte (λ c. c) over_byte

-- no event is added
abbrev pub AddsNone : Config ℕ → Type 0
AddsNone c = c.events ≡ []

abbrev pub counts : HoldsAt ℕ
counts = HoldsEach AddsNone AddsNone
