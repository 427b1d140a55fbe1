-- What one call of a walk does, by its clauses.
use Rattle.std.specs.Prelude.{◌≡◌, ℕ, ◌+◌, ◌^◌, ◌<◌, List}
use Rattle.engine_events.specs.declared.event.Name.{Name}
use Rattle.parse_output.specs.declared.end.End.{End}
use Rattle.parse_output.specs.Ends.{end_at}
use Rattle.parse_output.specs.Written.{Enters, Exits, IsInOrder}
use Rattle.parse_lines.specs.declared.walk.Walk.{Walk}
use Rattle.parse_lines.specs.Ends.{WritesUpTo, written_to}
use Rattle.parse_lines.specs.Standing.{standing}

abbrev pub EnterCall : {A : Type 0} → List ℕ → Name → Walk A → Walk A → Type 0
EnterCall text name a b = (standing b ≡ standing a) × (written_to b ≡ written_to a) × (IsInOrder text a.out → Enters text name a.out b.out)

abbrev pub ExitCall : {A : Type 0} → List ℕ → Name → Walk A → Walk A → Type 0
ExitCall text name a b = (standing b ≡ standing a) × (written_to b ≡ written_to a) × (IsInOrder text a.out → Exits text name a.out b.out)

-- an event that holds no other, up to an end
abbrev pub ToCall : {A : Type 0} → Name → End → Walk A → Walk A → Type 0
ToCall name to a b = (standing b ≡ standing a) × (written_to b ≡ to) × WritesUpTo name to a b

-- one of so many bytes
abbrev pub TokenCall : {A : Type 0} → Name → ℕ → Walk A → Walk A → Type 0
TokenCall name size a b =
    (standing b ≡ standing a) × ((written_to a).index + size < 2 ^ 64 → written_to b ≡ end_at ((written_to a).index + size) 0)
    × ((written_to a).index + size < 2 ^ 64 → WritesUpTo name (end_at ((written_to a).index + size) 0) a b)
