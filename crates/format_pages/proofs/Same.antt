-- Lists of texts that were found equal.
use Rattle.std.proofs.Common.{◌≡◌, ℕ, Bool, true, List, [], ◌∷◌, refl, sym, ap, ap₂}
use Rattle.std.proofs.lemmas.Bool.{and_parts, true≢false}
use Rattle.std.specs.Prelude.{String, Vec, map, nat_eq, string_bytes, string_eq}
use Rattle.std.specs.Cmp.Lexicographic.{bytes_decides, pointwise}
use Rattle.definition_text.specs.Content.{content_codes}
use Rattle.format_pages.specs.Hidden.{bytes_codes}

pub same_strings : {A : Type 0} (xs ys : List (String A)) → pointwise string_eq xs ys ≡ true → map string_bytes xs ≡ map string_bytes ys
same_strings [] [] h = refl
same_strings [] (y ∷ ys) h = absurd (true≢false (sym h))
same_strings (x ∷ xs) [] h = absurd (true≢false (sym h))
same_strings (x ∷ xs) (y ∷ ys) h =
    let parts = and_parts (string_eq x y) (pointwise string_eq xs ys) h in
    ap₂ (λ z zs. z ∷ zs) ((bytes_decides (string_bytes x) (string_bytes y)).0 parts.0) (same_strings xs ys parts.1)

-- whether two lists of bytes are equal
abbrev pub bytes_eq : {A : Type 0} → Vec ℕ A → Vec ℕ A → Bool
bytes_eq x y = pointwise nat_eq x.items y.items

pub same_codes : {A : Type 0} (xs ys : List (Vec ℕ A)) → pointwise bytes_eq xs ys ≡ true → map bytes_codes xs ≡ map bytes_codes ys
same_codes [] [] h = refl
same_codes [] (y ∷ ys) h = absurd (true≢false (sym h))
same_codes (x ∷ xs) [] h = absurd (true≢false (sym h))
same_codes (x ∷ xs) (y ∷ ys) h =
    let parts = and_parts (bytes_eq x y) (pointwise bytes_eq xs ys) h in
    ap₂ (λ z zs. z ∷ zs) (ap content_codes ((bytes_decides x.items y.items).0 parts.0)) (same_codes xs ys parts.1)
