-- A line ending and the spaces and tabs after it.
use Rattle.std.proofs.Common.{◌≡◌, ℕ, zero, suc, ◌+◌, ◌-◌, ◌<◌, List, true, sym, ap, ◌∙◌, get_or, drop, arith, subst}
use Rattle.std.proofs.lemmas.List.{length-drop, get_or-drop}
use Rattle.definition_text.specs.Columns.{is_white}
use Rattle.inline_leaves.specs.declared.line_ending.Ending.{Ending}
use Rattle.inline_leaves.specs.Leaves.{IsEnd, IsWhite, ReadsEnding}
use Rattle.inline_leaves.proofs.Codes.{end_after}
use Rattle.inline_leaves.proofs.HardBreakTrailingLemmas.{white_byte}

-- a line ending, and white bytes or none
pub ending_white_end : (xs : List ℕ) (found : Ending) (n : ℕ) → ReadsEnding xs found → IsWhite (drop found.size xs) n → ((k : ℕ) → get_or xs k 0 < 256)
    → IsEnd xs (found.size + n)
ending_white_end xs found zero ends white bytes =
    let e : found.size ≡ found.size + 0 = omega arith in
    subst (IsEnd xs) e (record { some = ends.some; within = ends.within; ascii = ends.ascii; cut = ends.cut })
ending_white_end xs found (suc n) ends white bytes =
    let there : get_or (drop found.size xs) n 0 ≡ get_or xs (found.size + n) 0 = get_or-drop found.size xs n 0 in
    let place : found.size + n ≡ found.size + suc n - 1 = omega arith in
    let same : get_or (drop found.size xs) n 0 ≡ get_or xs (found.size + suc n - 1) 0 = there ∙ ap (λ k. get_or xs k 0) place in
    let passes : is_white (get_or xs (found.size + suc n - 1) 0) ≡ true = ap is_white (sym same) ∙ white.passes n (omega arith) in
    let last = white_byte (get_or xs (found.size + suc n - 1) 0) (bytes (found.size + suc n - 1)) passes in
    end_after xs (found.size + suc n) (omega arith) (omega (arith, white.within, ends.within, length-drop found.size xs)) last.0 last.1
