use Rattle.std.proofs.Common.{◌≡◌, length, subst, sym, ◌∙◌}
use Rattle.inline_runs.proofs.Prelude.{AreThreaded}
use Rattle.inline_runs.proofs.Threads.{threaded_finish}
use Rattle.inline_runs.proofs.pairs.Pairs.finish.Goals as goal

pub returns-clause-threaded : goal.returns-clause-threaded
returns-clause-threaded g c =
    let p = c.args.self.now in
    let count : c.len-end.result ≡ length p.pairs.items = c.len-end.ensures ∙ p.pairs.ok.0 in
    subst (λ es. AreThreaded p.pairs.items es c.len-end.result) (sym c.in_ok-push.ensures.items)
    (threaded_finish p.pairs.items p.ends.items p.first c.len-end.result count c.requires)
