use Rattle.std.proofs.Common.{◌≡◌, Bool, codes, sym, ap, ◌∙◌, subst}
use Rattle.compile_raw.proofs.Prelude.{ending_bytes, fenced_close, layout_after, LayoutState, LineEnding, OnOk, page_view, with_fresh}
use Rattle.compile_raw.proofs.code_fenced.push_fenced_end.Goals as goal

pub returns-then-closed-clause-printed : goal.returns-then-closed-clause-printed
returns-then-closed-clause-printed g c = λ options.
    let page = c.args.page.now in
    c.in_ok-say.ensures.printed
    ∙ ap (λ (b : Bool). layout_after options page.default_ending (page_view page) (fenced_close b)) (sym c.if-closed.true)

pub returns-clause-printed : goal.returns-clause-printed
returns-clause-printed g c = λ options.
    let page = c.args.page.now in
    subst (λ (x : LayoutState). OnOk c.fresh.result (page_view c.fresh.new.self ≡ x))
    (ap (λ (d : LineEnding). with_fresh (ending_bytes d) (page_view c.say.new.self)) c.in_ok-say.ensures.default
    ∙ ap (with_fresh (ending_bytes page.default_ending)) c.in_ok-say.ensures.printed
    ∙ ap (λ (b : Bool). layout_after options page.default_ending (page_view page) (fenced_close b)) (sym c.if-closed.false))
    c.fresh.ensures.printed
