-- Names and protocols in lower case.
use Rattle.std.proofs.Common.{◌≡◌, ℕ, Bool, true, false, not, ◌&&◌, ◌||◌, eqb, List, [], ◌∷◌, Bor, refl, sym, ap, ◌∙◌, inl, inr, arith}
use Rattle.std.specs.Prelude.{map}
use Rattle.std.specs.Char.{is_ascii_uppercase, to_ascii_lowercase}
use Rattle.std.specs.List.{list_any}
use Rattle.std.specs.Str.{bytes_eq}
use Rattle.std.proofs.lemmas.Bool.{cases_Bool, ne_eqb}
use Rattle.std.proofs.lemmas.Bool.Decides.{nat_tests}
use Rattle.definition_text.specs.Bytes.{lower, same_caselessly}

lower_kept : (b : ℕ) → is_ascii_uppercase b ≡ false → to_ascii_lowercase b ≡ b
lower_kept b h = grind (arith, nat_tests)

lower_not_upper : (b : ℕ) → is_ascii_uppercase (to_ascii_lowercase b) ≡ false
lower_not_upper b = grind (arith, nat_tests)

and_assoc : (a b c : Bool) → ((a && b) && c) ≡ (a && (b && c))
and_assoc true b c = refl
and_assoc false b c = refl

and_false : (a : Bool) → (a && false) ≡ false
and_false true = refl
and_false false = refl

-- the same but for case, and without upper case, is the same as in lower case
pub same_lower : (protocol name : List ℕ) → (same_caselessly protocol name && not (list_any is_ascii_uppercase protocol)) ≡ bytes_eq protocol (lower name)
same_lower [] [] = refl
same_lower [] (n ∷ ns) = refl
same_lower (p ∷ ps) [] = refl
same_lower (p ∷ ps) (n ∷ ns) =
    let same = same_caselessly ps ns in
    let upper = list_any is_ascii_uppercase ps in
    elim (cases_Bool (is_ascii_uppercase p)) [
      | inl h ↦
          let other : eqb p (to_ascii_lowercase n) ≡ false =
          ne_eqb p (to_ascii_lowercase n) (λ e. let no : true ≡ false = sym h ∙ ap is_ascii_uppercase e ∙ lower_not_upper n in cc) in
          ap (λ u. same_caselessly (p ∷ ps) (n ∷ ns) && not (u || upper)) h
          ∙ and_false (same_caselessly (p ∷ ps) (n ∷ ns))
          ∙ sym (ap (λ e. e && bytes_eq ps (lower ns)) other)
      | inr h ↦
          ap (λ u. same_caselessly (p ∷ ps) (n ∷ ns) && not (u || upper)) h
          ∙ ap (λ l. (eqb l (to_ascii_lowercase n) && same) && not upper) (lower_kept p h)
          ∙ and_assoc (eqb p (to_ascii_lowercase n)) same (not upper)
          ∙ ap (λ rest. eqb p (to_ascii_lowercase n) && rest) (same_lower ps ns)
    ]

-- a test of what references point to
pub any_now : (test : List ℕ → Bool) (texts : List (Bor (List ℕ))) → list_any (λ text. test text.now) texts ≡ list_any test (map (λ text. text.now) texts)
any_now test [] = refl
any_now test (x ∷ xs) = ap (λ rest. test x.now || rest) (any_now test xs)
