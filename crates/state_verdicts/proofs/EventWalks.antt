-- Events one after another among others.
use Rattle.std.proofs.Common.{◌≡◌, ◌∙◌, ℕ, suc, ◌+◌, List, [], ◌∷◌, ◌++◌, length, Some, refl, sym, ap, arith, append_assoc, length-append, slice_get}
use Rattle.engine_events.specs.declared.event.Event.{Event}

-- the type of a value whose name isn't exported
abbrev pub TypeOf : {A : Type 0} → A → Type 0
TypeOf {A} a = A

pub event_here : (before after : List Event) (e : Event) → slice_get (before ++ (e ∷ after)) (length before) ≡ Some e
event_here [] after e = refl
event_here (x ∷ before) after e = event_here before after e

-- the event behind some others
pub event_at : (all before after : List Event) (e : Event) (i : ℕ) → all ≡ before ++ (e ∷ after) → i ≡ length before → slice_get all i ≡ Some e
event_at all before after e i is size = ap (λ (n : ℕ). slice_get all n) size ∙ (ap (λ (l : List Event). slice_get l (length before)) is ∙ event_here before after e)

-- one more is behind
pub past_one : (before after : List Event) (e : Event) → before ++ (e ∷ after) ≡ (before ++ e ∷ []) ++ after
past_one before after e = sym (append_assoc before (e ∷ []) after)

pub size_one : (before : List Event) (e : Event) → length (before ++ e ∷ []) ≡ suc (length before)
size_one before e = length-append before (e ∷ []) ∙ (let f : length before + 1 ≡ suc (length before) = omega arith in f)
