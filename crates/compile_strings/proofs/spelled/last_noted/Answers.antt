use Rattle.std.proofs.Common.{◌≡◌, ◌∙◌, ◌<◌, ◌+◌, ◌-◌, ℕ, sym, ap, subst, drop, length, arith}
use Rattle.compile_strings.proofs.Prelude.{HoldsAt, targets_by}
use Rattle.compile_strings.proofs.HeldLaw.{held_other}
use Rattle.compile_strings.proofs.PassLaw.{targets_other}
use Rattle.compile_strings.proofs.spelled.last_noted.Goals as goal

pub loop-last-preserved : goal.loop-last-preserved
loop-last-preserved c =
    let events = c.args.events.now in
    let i = c.loop-last.last - 1 in
    let k = c.loop-last.invariant in
    let back : i + 1 ≡ c.loop-last.last = omega (arith, c.loop-last-test.true) in
    let fits : i < length events = omega (arith, c.loop-last-test.true, k.order, c.requires) in
    let no_media = sym c.is_media.ensures ∙ c.if-is_media.false in
    let no_held = sym c.is_held.ensures ∙ c.if-is_held.false in
    record {
      targets =
          λ names bytes leads.
          targets_other events names bytes leads i fits no_media
          ∙ ap (λ (z : ℕ). targets_by names bytes leads (drop z events)) back
          ∙ k.targets names bytes leads;
      held =
          λ inner outer held.
          held_other events i fits inner outer no_media no_held
          (subst (λ (z : ℕ). HoldsAt events (drop z events) inner outer) (sym back) (k.held inner outer held));
      order = omega (arith, k.order);
    }
