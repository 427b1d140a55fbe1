use Rattle.std.proofs.Common.{◌≡◌, ◌++◌, ◌∙◌, OnOk, ap, arith, subst, sym, take}
use Rattle.inline_addresses.proofs.Prelude.{data_rows, rows_view, run_linked}
use Rattle.inline_addresses.proofs.Walks.{inside_run, rows_more}
use Rattle.inline_addresses.proofs.walk.Walk.end_run.Goals as goal

pub returns-then-self-eq0-clause-rows : goal.returns-then-self-eq0-clause-rows
returns-then-self-eq0-clause-rows g c at =
    let walk = c.args.self.now in
    subst (λ run. OnOk c.push_addresses.result (rows_view at c.push_addresses.new.rows.items ≡ rows_view at walk.rows.items ++ run))
    (ap (run_linked 0) c.text_before-run.ensures ∙ ap (λ n. run_linked n (take walk.size walk.text.now)) (sym c.if-self-eq0.true))
    (c.push_addresses.ensures at)

pub returns-in_ok-push-clause-rows : goal.returns-in_ok-push-clause-rows
returns-in_ok-push-clause-rows g c at =
    let walk = c.args.self.now in
    ap (rows_view at) c.in_ok-push.ensures.items
    ∙ rows_more at walk.rows.items _
    ∙ ap (λ l. rows_view at walk.rows.items ++ l)
    (ap data_rows c.text_before-run.ensures ∙ sym (inside_run walk.depth (take walk.size walk.text.now) (omega (arith, c.if-self-eq0.false))))
