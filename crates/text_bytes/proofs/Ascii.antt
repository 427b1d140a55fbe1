-- Spaces and tabs are below 128, so a text may be cut beside them, as beside each byte that is.
use Rattle.std.proofs.Common.{◌≡◌, ℕ, ◌<◌, ◌≤◌, ◌+◌, inl, inr, true, List, length, get_or, eqb, arith, subst, zero, suc, ◌||◌}
use Rattle.std.proofs.lemmas.Bool.{or_cases, eqb-true}
use Rattle.std.proofs.lemmas.Str.{IsCharBoundary-after_ascii, IsCharBoundary-start}
use Rattle.std.specs.Str.{IsCharBoundary, IsUtf8}
use Rattle.definition_text.specs.Columns.{is_white}

pub space_ascii : (b : ℕ) → b < 256 → is_white b ≡ true → b < 128
space_ascii b byte h =
    elim (or_cases (eqb b 32 || eqb b 9) (eqb b 256) h) [
      | inl p ↦
          elim (or_cases (eqb b 32) (eqb b 9) p) [
            | inl q ↦ let e = eqb-true b 32 q in omega arith
            | inr q ↦ let e = eqb-true b 9 q in omega arith
          ]
      | inr p ↦ let e = eqb-true b 256 p in absurd (omega arith)
    ]

-- a text may be cut at its end, and before a byte below 128
pub boundary_before : (bs : List ℕ) (i : ℕ) → i ≤ length bs → (i < length bs → get_or bs i 0 < 128) → IsCharBoundary bs i
boundary_before bs i le ascii = (le, λ lt high. absurd (omega (arith, ascii lt)))

-- a text may be cut after a byte below 128, and at its start
pub boundary_after : (bs : List ℕ) (i : ℕ) → IsUtf8 bs → i ≤ length bs → ((k : ℕ) → k + 1 ≡ i → get_or bs k 0 < 128) → IsCharBoundary bs i
boundary_after bs zero u le ascii = IsCharBoundary-start bs u
boundary_after bs (suc k) u le ascii =
    let lt : k < length bs = omega arith in
    let e : k + 1 ≡ suc k = omega arith in
    subst (IsCharBoundary bs) e (IsCharBoundary-after_ascii bs k u lt (ascii k e))
