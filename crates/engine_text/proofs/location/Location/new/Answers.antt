use Rattle.std.proofs.Common.{List, ℕ, subst, sym}
use Rattle.std.specs.List.Sorted.{IsNonDecreasing}
use Rattle.engine_text.proofs.Starts.{starts_rise}
use Rattle.engine_text.proofs.location.Location.new.Goals as goal

pub invariant_of-result : goal.invariant_of-result
invariant_of-result g c = record {
  fits = c.requires;
  rising = subst (λ (z : List ℕ). IsNonDecreasing z) (sym c.in_ok-line_starts.ensures) (starts_rise c.args.bytes.now 0);
}
