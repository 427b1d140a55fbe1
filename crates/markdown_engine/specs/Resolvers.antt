-- Resolvers that are registered, in the order in which they run.
use Rattle.std.specs.Prelude.{◌≡◌, Bool, false, List, [], ◌∷◌, ◌++◌, if◌then◌else◌}
use Rattle.std.specs.List.{list_any}
use denote.Enum.Bare.{sameb}
use Rattle.engine_states.specs.contracts.resolve.Name.{the_type}
use Rattle.engine_states.specs.declared.resolve.Name.{Name}

abbrev pub is_registered : Name → List Name → Bool
is_registered name names = list_any (λ n. sameb the_type n name) names

-- one that is there stays where it is
abbrev pub with_last : Name → List Name → List Name
with_last name names = if is_registered name names then names else names ++ name ∷ []

abbrev pub with_first : Name → List Name → List Name
with_first name names = if is_registered name names then names else name ∷ names

-- no name stands twice
abbrev pub AreOnce : List Name → Type 0
AreOnce [] = Unit {0}
AreOnce (n ∷ ns) = (is_registered n ns ≡ false) × AreOnce ns
