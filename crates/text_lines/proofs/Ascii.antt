-- Bytes that end lines are below 128, so a text may be cut beside them.
use Rattle.std.proofs.Common.{◌≡◌, ℕ, ◌<◌, inl, inr, true, List, eqb, arith, not}
use Rattle.std.proofs.lemmas.Bool.{or_cases, eqb-true}
use Rattle.std.specs.Str.{IsCharBoundary}
use Rattle.std.specs.List.{position_or_len}
use Rattle.std.proofs.lemmas.List.Sums.{prefix_len-le-length, passes_at_first}
use Rattle.definition_text.specs.Lines.{ends_line}
pub use Rattle.text_bytes.proofs.Ascii.{space_ascii, boundary_before, boundary_after}

pub ends_line_ascii : (b : ℕ) → ends_line b ≡ true → b < 128
ends_line_ascii b h =
    elim (or_cases (eqb b 10) (eqb b 13) h) [
      | inl p ↦ let e = eqb-true b 10 p in omega arith
      | inr q ↦ let e = eqb-true b 13 q in omega arith
    ]

-- a text may be cut before its first CR or LF, or at its end where there is none
pub boundary_content : (bs : List ℕ) → IsCharBoundary bs (position_or_len ends_line bs)
boundary_content bs =
    boundary_before bs _ (prefix_len-le-length (λ b. not (ends_line b)) bs) (λ lt. ends_line_ascii _ (passes_at_first ends_line bs 0 lt))
