-- Facts of the values in options, step by step.
use Rattle.std.proofs.Common.{Option, None, Some}
use Rattle.std.specs.Option.{IfSome, option_and_then, option_map, option_or}

pub then_if : {A B : Type 0} (o : Option A) (f : A → Option B) (Q : A → Type 0) (P : B → Type 0) → IfSome o Q → ((a : A) → Q a → IfSome (f a) P)
    → IfSome (option_and_then f o) P
then_if None f Q P h k = tt
then_if (Some a) f Q P h k = k a h

pub else_if : {A : Type 0} (o other : Option A) (P : A → Type 0) → IfSome o P → IfSome other P → IfSome (option_or o other) P
else_if None other P h k = k
else_if (Some a) other P h k = h

-- a fact of a value that is weakened
pub weaker : {A : Type 0} (o : Option A) (P Q : A → Type 0) → ((a : A) → P a → Q a) → IfSome o P → IfSome o Q
weaker None P Q f h = tt
weaker (Some a) P Q f h = f a h

pub map_if : {A B : Type 0} (o : Option A) (f : A → B) (Q : A → Type 0) (P : B → Type 0) → IfSome o Q → ((a : A) → Q a → P (f a)) → IfSome (option_map f o) P
map_if None f Q P h k = tt
map_if (Some a) f Q P h k = k a h
