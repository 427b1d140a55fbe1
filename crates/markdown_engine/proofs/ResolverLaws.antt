-- Resolvers that are registered once.
use Rattle.std.proofs.Common.{◌≡◌, ◌∙◌, Bool, true, false, ◌||◌, if◌then◌else◌, List, [], ◌∷◌, ◌++◌, refl}
use Rattle.std.specs.Cmp.{on_equiv}
use Rattle.std.proofs.lemmas.Cmp.{nat_eq_equiv}
use Rattle.std.proofs.lemmas.List.Folds.{list_any-append}
use denote.Enum.Bare.{sameb}
use denote.Enum.Declared.{tag_of}
use Rattle.engine_states.specs.contracts.resolve.Name.{the_type}
use Rattle.engine_states.specs.declared.resolve.Name.{Name}
use Rattle.markdown_engine.proofs.Prelude.{AreOnce, is_registered}

same_either_way : (a b : Name) → sameb the_type a b ≡ sameb the_type b a
same_either_way a b = (on_equiv (tag_of the_type) nat_eq_equiv).symm a b

neither : (t u : Bool) → t || u ≡ false → (t ≡ false) × (u ≡ false)
neither true u h = absurd (let f : true ≡ false = h in cc)
neither false u h = (refl, h)

one_more : (n name : Name) (ns : List Name) → is_registered n ns ≡ false → sameb the_type n name ≡ false → is_registered n (ns ++ name ∷ []) ≡ false
one_more n name ns h k =
    let e : sameb the_type name n ≡ false = same_either_way name n ∙ k in
    list_any-append (λ (z : Name). sameb the_type z n) ns (name ∷ []) ∙ (rw h (rw e refl))

-- a name that isn't there may be put last
pub once_last : (name : Name) (ns : List Name) → is_registered name ns ≡ false → AreOnce ns → AreOnce (ns ++ name ∷ [])
once_last name [] h a = (refl, tt)
once_last name (n ∷ ns) h a =
    let k = neither (sameb the_type n name) (is_registered name ns) h in
    (one_more n name ns a.0 k.0, once_last name ns k.1 a.1)

pub once_if : (b : Bool) (name : Name) (ns : List Name) → is_registered name ns ≡ false → AreOnce ns → AreOnce (if b then ns ++ name ∷ [] else ns)
once_if true name ns h a = once_last name ns h a
once_if false name ns h a = a
