-- Facts of results, and facts that say the same.
use Rattle.std.proofs.Common.{◌↔◌}
use Rattle.std.specs.Prelude.{IfOk, Result, Ok, Err}

pub both_ways : {A B C : Type 0} → A ↔ B → B ↔ C → A ↔ C
both_ways p q = (λ a. q.0 (p.0 a), λ c. p.1 (q.1 c))

-- what follows from a fact of the value, if there is one
pub from_ok : {T E : Type 0} (r : Result T E) (P Q : T → Type 0) → ((t : T) → P t → Q t) → IfOk r P → IfOk r Q
from_ok (Ok t) P Q f p = f t p
from_ok (Err e) P Q f p = tt
