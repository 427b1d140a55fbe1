-- Runs of one byte, which sequences are.
use Rattle.std.proofs.Common.{◌≡◌, ℕ, ◌<◌, ◌≤◌, Bool, true, ◌&&◌, List, [], ◌∷◌, refl, sym, ap, ap₂, subst, ◌∙◌, take, length, arith}
use Rattle.std.specs.Prelude.{◌==◌}
use Rattle.std.proofs.lemmas.Bool.{eqb-true}
use Rattle.std.proofs.lemmas.List.{length-take-le}
use Rattle.std.proofs.lemmas.List.Sums.{prefix_len-le-length}
use Rattle.parse_lines.proofs.Prelude.{and_parts, list_all}
use Rattle.definition_text.specs.Runs.{run}
use Rattle.event_tokens.specs.Tokens.{fits, is_among, is_run, Run}
use Rattle.parse_lines.proofs.White.{all_prefix}

same_run : (byte : ℕ) (xs : List ℕ) → 0 < length xs → list_all (λ b. b == byte) xs ≡ true → is_run xs ≡ true
same_run byte [] some all = absurd (omega (arith, some))
same_run byte (x ∷ xs) some all =
    let parts = and_parts (x == byte) (list_all (λ b. b == byte) xs) all in
    subst (λ (k : ℕ). list_all (λ b. b == k) xs ≡ true) (sym (eqb-true x byte parts.0)) parts.1

same_among : (marks : List ℕ) (byte : ℕ) (xs : List ℕ) → is_among marks byte ≡ true → list_all (λ b. b == byte) xs ≡ true
    → list_all (is_among marks) xs ≡ true
same_among marks byte [] among all = refl
same_among marks byte (x ∷ xs) among all =
    let parts = and_parts (x == byte) (list_all (λ b. b == byte) xs) all in
    ap₂ (λ (s t : Bool). s && t) (ap (is_among marks) (eqb-true x byte parts.0) ∙ among) (same_among marks byte xs among parts.1)

-- the first of a run, so many
pub run_fits : (marks : List ℕ) (byte : ℕ) (bytes : List ℕ) (k : ℕ) → is_among marks byte ≡ true → 0 < k → k ≤ run byte bytes
    → fits (Run marks) (take k bytes) ≡ true
run_fits marks byte bytes k among some few =
    let all = all_prefix (λ b. b == byte) k bytes few in
    let size : length (take k bytes) ≡ k = length-take-le k bytes (omega (arith, few, prefix_len-le-length (λ (b : ℕ). b == byte) bytes)) in
    ap₂ (λ (s t : Bool). s && t) (same_run byte (take k bytes) (omega (arith, some, size)) all) (same_among marks byte (take k bytes) among all)
