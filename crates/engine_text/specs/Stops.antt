-- Places of a part of a text, and of the whole that it comes from.
use Rattle.std.specs.Prelude.{◌<◌, ◌^◌, ℕ, ◌+◌, ◌-◌, nat_le, List, reverse, Option, IfSome}
use Rattle.std.specs.List.{find}
use Rattle.std.specs.Option.{option_map}

-- the last stop at or before a place of a part
abbrev pub stop_for : List (ℕ × ℕ) → ℕ → Option (ℕ × ℕ)
stop_for stops relative = find (λ stop. nat_le stop.0 relative) (reverse stops)

-- from a stop on, the part and the whole go on alike
abbrev pub from_stop : ℕ → ℕ × ℕ → ℕ
from_stop relative stop = stop.1 + (relative - stop.0)

-- the place in the whole of a place of a part; none before the first stop
abbrev pub absolute : List (ℕ × ℕ) → ℕ → Option ℕ
absolute stops relative = option_map (from_stop relative) (stop_for stops relative)

-- the place in the whole fits
abbrev pub StopFits : List (ℕ × ℕ) → ℕ → Type 0
StopFits stops relative = IfSome (absolute stops relative) (λ whole. whole < 2 ^ 64)
