-- The void names are those without a row, less the five of MDX.
use Rattle.std.proofs.Common.{◌≡◌, Bool, true, false, not, if◌then◌else◌, refl, sym}
use Rattle.event_grammar.proofs.Prelude.{is_listed, is_void, Name}
use Rattle.event_grammar.specs.Void.{void_names}
use Rattle.event_grammar.proofs.EveryName.{of_each}

same_tests : (a b : Bool) → (if a then b else not b) ≡ true → a ≡ b
same_tests true b h = sym h
same_tests false true h = h
same_tests false false h = refl

pub void_law : (name : Name) → is_listed void_names name ≡ is_void name
void_law name =
    same_tests (is_listed void_names name) (is_void name)
    (of_each (λ name. if is_listed void_names name then is_void name else not (is_void name)) refl name)
