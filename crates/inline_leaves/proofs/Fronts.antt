-- Texts that contents begin with.
use Rattle.std.proofs.Common.{◌≡◌, ℕ, List, [], ◌∷◌, ◌++◌, true, eqb, refl, sym, ap, ◌∙◌, length, drop}
use Rattle.std.proofs.lemmas.Bool.{eqb-true, and_parts, false≢true}
use Rattle.definition_text.specs.Bytes.{begins_with}

-- bytes that begin with a text are that text and others
pub begun : (text xs : List ℕ) → begins_with text xs ≡ true → xs ≡ text ++ drop (length text) xs
begun [] xs h = refl
begun (t ∷ ts) [] h = absurd (false≢true h)
begun (t ∷ ts) (x ∷ xs) h =
    let parts = and_parts (eqb t x) (begins_with ts xs) h in
    ap (λ y. y ∷ xs) (sym (eqb-true t x parts.0)) ∙ ap (λ ys. t ∷ ys) (begun ts xs parts.1)
