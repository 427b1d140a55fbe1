use Rattle.std.proofs.Common.{◌≡◌, ◌+◌, ◌-◌, ◌<◌, ◌||◌, true, false, inl, inr, eqb, sym, ap, ◌∙◌, length, get_or, drop, arith}
use Rattle.std.proofs.lemmas.Bool.{and_cases, and_parts, or_cases, or_parts, eqb-true, eqb-false, false_from_ne_true}
use Rattle.std.proofs.lemmas.List.{drop_more}
use Rattle.definition_text.specs.Columns.{is_white}
use Rattle.definition_block.specs.ThematicBreak.{is_break_marker}
use Rattle.block_starts.proofs.ThematicBreakLemmas.{has_only, break_holds}
use Rattle.block_starts.proofs.thematic_break.break_tail.Goals as goal
use Rattle.block_starts.proofs.thematic_break.break_tail.Goals.{then-not-is_space_or_tab+else-not-goes_with, else-not-is_space_or_tab}

pub returns-then-not-goes_with : goal.returns-then-not-goes_with
returns-then-not-goes_with c = λ n long.
    let t = c.args.bytes.now in
    let marker = c.loop-n.marker in
    let p = length t - 1 - c.loop-n.n in
    let byte = get_or t p 0 in
    let within : p < length t = omega arith in
    let from : p + 1 ≡ length t - c.loop-n.n = omega arith in
    let dark : is_white byte ≡ false = sym c.is_space_or_tab.ensures ∙ c.if-not-is_space_or_tab.true in
    let other = sym c.goes_with.ensures ∙ c.if-not-goes_with.true in
    false_from_ne_true _ (λ h.
    let held = break_holds t n p (omega arith) within dark h in
    elim (and_cases (is_break_marker byte) (eqb marker 32 || eqb marker byte) other) [
      | inl none ↦ let both : false ≡ true = sym none ∙ held.0 in cc
      | inr two ↦
          let parts = or_parts (eqb marker 32) (eqb marker byte) two in
          let same = c.loop-n.invariant (eqb-false marker 32 parts.0) byte (ap (λ k. has_only byte (drop k t)) (sym from) ∙ held.1) in
          eqb-false marker byte parts.1 (sym same)
    ])

pub loop-n-preserved : goal.loop-n-preserved
loop-n-preserved c = λ some m h.
    let t = c.args.bytes.now in
    let p = length t - 1 - c.loop-n.n in
    let byte = get_or t p 0 in
    let within : p < length t = omega arith in
    let at : length t - (c.loop-n.n + 1) ≡ p = omega arith in
    let from : p + 1 ≡ length t - c.loop-n.n = omega arith in
    let front = ap (λ k. drop k t) at ∙ drop_more t p 0 within in
    let parts = and_parts (eqb byte m || is_white byte) (has_only m (drop (p + 1) t)) (ap (has_only m) (sym front) ∙ h) in
    elim c.if-not-is_space_or_tab.branch [
      | then-not-is_space_or_tab+else-not-goes_with w ↦
          elim (or_cases (eqb byte m) (is_white byte) parts.0) [
            | inl same ↦ sym (eqb-true byte m same) ∙ sym w.marker-is
            | inr white ↦
                let dark = sym c.is_space_or_tab.ensures ∙ w.if-not-is_space_or_tab.true in
                let both : false ≡ true = sym dark ∙ white in cc
          ]
      | else-not-is_space_or_tab w ↦
          c.loop-n.invariant (λ e. some (w.marker-is ∙ e)) m (ap (λ k. has_only m (drop k t)) (sym from) ∙ parts.1) ∙ sym w.marker-is
    ]
