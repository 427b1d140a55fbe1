use Rattle.std.proofs.Common.{◌<◌, ℕ, ap, sym, subst, length, false}
use Rattle.inline_runs.proofs.Prelude.{All-push, AreOpenersAt, FitsAt, IsFloorOf}
use Rattle.std.proofs.lemmas.List.Elements.{All-set}
use Rattle.inline_runs.proofs.Floors.{new_floor}
use Rattle.inline_runs.proofs.openers.Openers.raise.Goals as goal

pub returns-then-is_same-clause-openers : goal.returns-then-is_same-clause-openers
returns-then-is_same-clause-openers g c = ap (λ s. s.openers) c.loop-i.invariant

pub returns-then-is_same-clause-known : goal.returns-then-is_same-clause-known
returns-then-is_same-clause-known g c =
    let s = c.loop-i.self in
    let known : AreOpenersAt s c.args.now = subst (λ t. AreOpenersAt t c.args.now) (sym c.loop-i.invariant) c.requires.known in
    let none : (k : ℕ) → k < length s.openers.items → FitsAt s.openers.items k c.args.want false =
    subst (λ t. (k : ℕ) → k < length t.openers.items → FitsAt t.openers.items k c.args.want false) (sym c.loop-i.invariant) c.requires.none in
    record {
      early = known.early;
      floors = All-set (IsFloorOf s.openers.items c.args.now) s.floors.items c.loop-i.i _ (new_floor s.openers.items c.args.want c.args.now none) known.floors;
    }

pub returns-clause-known : goal.returns-clause-known
returns-clause-known g c =
    let s = c.loop-i.self in
    let known : AreOpenersAt s c.args.now = subst (λ t. AreOpenersAt t c.args.now) (sym c.loop-i.invariant) c.requires.known in
    let none : (k : ℕ) → k < length s.openers.items → FitsAt s.openers.items k c.args.want false =
    subst (λ t. (k : ℕ) → k < length t.openers.items → FitsAt t.openers.items k c.args.want false) (sym c.loop-i.invariant) c.requires.none in
    record {
      early = known.early;
      floors =
          rw c.in_ok-push.ensures.items (All-push (IsFloorOf s.openers.items c.args.now) s.floors.items _ known.floors
          (new_floor s.openers.items c.args.want c.args.now none));
    }
