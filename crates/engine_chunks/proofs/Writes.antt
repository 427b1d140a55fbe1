-- A write of a changed event.
use Rattle.std.proofs.Common.{◌≡◌, ◌∙◌, ℕ, zero, suc, List, [], ◌∷◌, get_or, set, refl, ap}
use Rattle.engine_events.specs.declared.event.Event.{Event}
use Rattle.engine_chunks.specs.Joins.{update_at}

set_updated : (f : Event → Event) (i : ℕ) (events : List Event) (d : Event) → set events i (f (get_or events i d)) ≡ update_at f i events
set_updated f i [] d = refl
set_updated f zero (e ∷ es) d = refl
set_updated f (suc i) (e ∷ es) d = ap (λ (z : List Event). e ∷ z) (set_updated f i es d)

pub written : (f : Event → Event) (i : ℕ) (events : List Event) (d x : Event) → x ≡ f (get_or events i d) → set events i x ≡ update_at f i events
written f i events d x h = ap (λ (z : Event). set events i z) h ∙ set_updated f i events d
