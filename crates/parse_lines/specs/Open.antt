-- What is open in a walk.
use Rattle.std.specs.Prelude.{Bool, if◌then◌else◌, List, ◌∷◌}
use Rattle.engine_events.specs.declared.event.Name.{Name}
use Rattle.engine_events.specs.declared.event.Name.{Name}
use Rattle.parse_output.specs.Open.{Mark, Entered}
use Rattle.parse_output.specs.Written.{open_in}
use Rattle.parse_lines.specs.declared.walk.Walk.{Walk}

-- what was entered and not exited, the innermost first, and any exit that fits nothing
abbrev pub still_open : {A : Type 0} → Walk A → List Mark
still_open w = open_in w.out

-- the same after the enter of a name, if it is entered
abbrev pub with_entered : Bool → Name → List Mark → List Mark
with_entered entered name marks = if entered then Entered name ∷ marks else marks
