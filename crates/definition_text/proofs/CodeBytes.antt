-- A space for each column that is left of a tab, before the bytes of a line.
use Rattle.std.proofs.Common.{◌≡◌, ℕ, ◌<◌, zero, suc, List, [], ◌∷◌, ◌++◌, refl, ap, ◌∙◌, get_or, arith}
use Rattle.std.specs.Prelude.{map, replicate}
use Rattle.std.proofs.lemmas.Bool.{ne_eqb, cond-false}
use Rattle.definition_text.specs.Columns.{code_byte, tab_column, is_tab_column}

pub code_bytes : (text : List ℕ) → ((k : ℕ) → get_or text k 0 < 256) → map code_byte text ≡ text
code_bytes [] h = refl
code_bytes (b ∷ bs) h =
    let byte : b < 256 = h 0 in
    let is : code_byte b ≡ b = cond-false (is_tab_column b) 32 b (ne_eqb b 256 (λ e. omega arith)) in
    ap (λ x. x ∷ map code_byte bs) is ∙ ap (λ xs. b ∷ xs) (code_bytes bs (λ k. h (suc k)))

pub owed_bytes : (n : ℕ) (text : List ℕ) → ((k : ℕ) → get_or text k 0 < 256) → map code_byte (replicate n tab_column ++ text) ≡ replicate n 32 ++ text
owed_bytes zero text h = code_bytes text h
owed_bytes (suc n) text h = ap (λ x. 32 ∷ x) (owed_bytes n text h)
