use Rattle.std.proofs.Common.{◌≡◌, false, ◌-◌, ◌<◌, ◌≤◌, sym, subst, get_or, arith, length}
use Rattle.inline_runs.proofs.Prelude.{get_or_default, Pair}
use Rattle.inline_runs.proofs.Opened.{IsOpened, one_opened, earlier_less}
use Rattle.inline_runs.proofs.spans.OpenedPairs.open_pairs.Goals as goal

pub loop-left-preserved : goal.loop-left-preserved
loop-left-preserved g c =
    let ps = c.args.pairs.now in
    let n = c.loop-left.left in
    let p : Pair = get_or ps (n - 1) (record { opener = 0; closer = 0; double = false; earlier = 0 }) in
    let inside : n ≤ length ps = c.loop-left.invariant.within in
    let is : p ≡ get_or ps (n - 1) p = get_or_default ps (n - 1) _ p (omega arith) in
    let less : p.earlier < n = earlier_less p.opener ps n p c.requires.links c.loop-left-test.true inside is in
    record {
      within = omega arith;
      opened = λ place last.
          subst (λ now. IsOpened place ps c.args.self.now.opened.items now p.earlier) (sym c.in_ok-push.ensures.items)
          (one_opened place ps c.args.self.now.opened.items c.loop-left.self.opened.items n p c.requires.links c.loop-left-test.true inside is
          (c.loop-left.invariant.opened place last));
      laid = c.loop-left.invariant.laid;
    }
