-- A search in bytes, place by place.
use Rattle.std.proofs.Common.{◌≡◌, ℕ, ◌+◌, ◌-◌, ◌<◌, ◌≤◌, List, Bool, true, false, ◌||◌, ap, ◌∙◌, sym, length, take, drop, get_or, ◌∷◌}
use Rattle.std.proofs.lemmas.List.{drop_more, at_drop_all, take_rest}
use Rattle.definition_text.specs.Bytes.{somewhere}

-- the search from a place on, where there is a byte
at_place : (test : List ℕ → Bool) (bytes : List ℕ) (i : ℕ) → i < length bytes
    → somewhere test (drop i bytes) ≡ (test (drop i bytes) || somewhere test (drop (i + 1) bytes))
at_place test bytes i lt =
    let e : drop i bytes ≡ get_or bytes i 0 ∷ drop (i + 1) bytes = drop_more bytes i 0 lt in
    ap (somewhere test) e ∙ ap (λ (x : List ℕ). test x || somewhere test (drop (i + 1) bytes)) (sym e)

-- the same, with the bytes from there on as a slice gives them
at_slice : (test : List ℕ → Bool) (bytes : List ℕ) (i : ℕ) → i < length bytes
    → somewhere test (drop i bytes) ≡ (test (take (length bytes - i) (drop i bytes)) || somewhere test (drop (i + 1) bytes))
at_slice test bytes i lt =
    let all : take (length bytes - i) (drop i bytes) ≡ drop i bytes = take_rest bytes i in
    at_place test bytes i lt ∙ ap (λ (x : List ℕ). test x || somewhere test (drop (i + 1) bytes)) (sym all)

-- the test passes here
pub somewhere_here : (test : List ℕ → Bool) (bytes : List ℕ) (i : ℕ) → i < length bytes
    → test (take (length bytes - i) (drop i bytes)) ≡ true → somewhere test (drop i bytes) ≡ true
somewhere_here test bytes i lt h = at_slice test bytes i lt ∙ ap (λ x. x || somewhere test (drop (i + 1) bytes)) h

-- the test fails here
pub somewhere_later : (test : List ℕ → Bool) (bytes : List ℕ) (i : ℕ) → i < length bytes
    → test (take (length bytes - i) (drop i bytes)) ≡ false → somewhere test (drop (i + 1) bytes) ≡ somewhere test (drop i bytes)
somewhere_later test bytes i lt h = sym (at_slice test bytes i lt ∙ ap (λ x. x || somewhere test (drop (i + 1) bytes)) h)

-- nothing is left
pub somewhere_over : (test : List ℕ → Bool) (bytes : List ℕ) (i : ℕ) → length bytes ≤ i → somewhere test (drop i bytes) ≡ false
somewhere_over test bytes i le = at_drop_all (somewhere test) bytes i le
