-- Tests of places, as truth values.
use Rattle.std.proofs.Common.{◌≡◌, Bool, true, false, ◌||◌, ◌&&◌, ◌⊎◌, inl, inr, refl}

pub by_tests : (t u v : Bool) → t || (u && v) ≡ true → (t ≡ true) ⊎ ((u ≡ true) × (v ≡ true))
by_tests true u v e = inl refl
by_tests false true true e = inr (refl, refl)
by_tests false true false e = absurd (let f : false ≡ true = e in cc)
by_tests false false v e = absurd (let f : false ≡ true = e in cc)

pub or_right : (t u : Bool) → u ≡ true → t || u ≡ true
or_right true u e = refl
or_right false u e = e

pub and_both : (t u : Bool) → t ≡ true → u ≡ true → t && u ≡ true
and_both true u e k = k
and_both false u e k = absurd (let f : false ≡ true = e in cc)
