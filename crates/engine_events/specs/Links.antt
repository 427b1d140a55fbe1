-- Numbers that may be absent.
use Rattle.std.specs.Prelude.{ℕ, Bool, true, false, Option, None, Some}

abbrev pub present : Bool → ℕ → Option ℕ
present false number = None
present true number = Some number
