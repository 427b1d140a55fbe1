use Rattle.std.proofs.Common.{◌≡◌, ℕ, zero, suc, ◌<◌, subst, refl, arith}
use Rattle.inline_leaves.specs.Leaves.{IsWhite}
use Rattle.inline_leaves.proofs.HardBreakTrailingLemmas.{white_end}
use Rattle.inline_parser.proofs.scan.after_white.Goals as goal

some_of : (n : ℕ) → (n ≡ 0 → ⊥) → 0 < n
some_of zero h = absurd (h refl)
some_of (suc n) h = omega arith

pub cut_after-requires : goal.cut_after-requires
cut_after-requires c =
    let xs = c.args.text.now in
    let n = c.white_size-size.result in
    white_end xs n (subst (λ s. IsWhite s n) c.as_bytes.ensures.value c.white_size-size.ensures.codes) (some_of n c.if-size-eq0.false)
    (λ k. omega (arith, c.type_inv.text k))
