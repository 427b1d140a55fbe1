-- Ids of headings that a footnote may have, too.
use Rattle.std.proofs.Common.{◌≡◌, ℕ, Bool, true, false, ◌||◌, ◌&&◌, List, [], ◌∷◌, ◌++◌, eqb, length, drop, refl, sym, ap, ◌∙◌}
use Rattle.definition_text.specs.Bytes.{begins_with}

and_both : (x y z : Bool) → (x && (y && z)) ≡ ((x && y) && z)
and_both true y z = refl
and_both false y z = refl

-- bytes begin with two texts if they begin with the first, and what follows begins with the second
begins_with_both : (p q bytes : List ℕ) → begins_with (p ++ q) bytes ≡ (begins_with p bytes && begins_with q (drop (length p) bytes))
begins_with_both [] q bytes = refl
begins_with_both (a ∷ p) q [] = refl
begins_with_both (a ∷ p) q (b ∷ bytes) =
    ap (λ t. eqb a b && t) (begins_with_both p q bytes)
    ∙ and_both (eqb a b) (begins_with p bytes) (begins_with q (drop (length p) bytes))

both_tested : (p a b bytes : List ℕ) (prefixed : Bool) → begins_with p bytes ≡ prefixed
    → (begins_with (p ++ a) bytes || begins_with (p ++ b) bytes)
    ≡ ((prefixed && begins_with a (drop (length p) bytes)) || (prefixed && begins_with b (drop (length p) bytes)))
both_tested p a b bytes prefixed is =
    ap (λ t. t || begins_with (p ++ b) bytes) (begins_with_both p a bytes)
    ∙ ap (λ t. (begins_with p bytes && begins_with a (drop (length p) bytes)) || t) (begins_with_both p b bytes)
    ∙ ap (λ t. (t && begins_with a (drop (length p) bytes)) || (t && begins_with b (drop (length p) bytes))) is

-- an id without the prefix
pub not_prefixed : (p a b bytes : List ℕ) → begins_with p bytes ≡ false → false ≡ (begins_with (p ++ a) bytes || begins_with (p ++ b) bytes)
not_prefixed p a b bytes is = sym (both_tested p a b bytes false is)

-- one with it, where what follows begins with the first text or not
pub first_follows : (p a b bytes : List ℕ) (first : Bool) → begins_with p bytes ≡ true → first ≡ begins_with a (drop (length p) bytes) → first ≡ true
    → first ≡ (begins_with (p ++ a) bytes || begins_with (p ++ b) bytes)
first_follows p a b bytes first is here holds =
    holds ∙ ap (λ t. t || begins_with b (drop (length p) bytes)) (sym holds ∙ here) ∙ sym (both_tested p a b bytes true is)

pub second_tested : (p a b bytes : List ℕ) (first second : Bool) → begins_with p bytes ≡ true → first ≡ begins_with a (drop (length p) bytes) → first ≡ false
    → second ≡ begins_with b (drop (length p) bytes) → second ≡ (begins_with (p ++ a) bytes || begins_with (p ++ b) bytes)
second_tested p a b bytes first second is here fails there =
    there ∙ ap (λ t. t || begins_with b (drop (length p) bytes)) (sym fails ∙ here) ∙ sym (both_tested p a b bytes true is)
