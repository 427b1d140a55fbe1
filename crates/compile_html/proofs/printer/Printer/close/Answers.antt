use Rattle.std.proofs.Common.{sym, subst}
use Rattle.std.specs.Result.{OnOk}
use Rattle.compile_html.proofs.Prelude.{closing, holder_view, in_bytes}
use Rattle.html_leaves.specs.Prints.{LaysOut}
use Rattle.compile_levels.specs.declared.level.Holder.{Holder}
use Rattle.compile_html.proofs.printer.Printer.close.Goals as goal

pub returns-in-Quote-clause-printed : goal.returns-in-Quote-clause-printed
returns-in-Quote-clause-printed g c = λ options.
    let p = c.args.self.now in
    subst (λ (h : Holder). OnOk c.leave_quote.result (LaysOut options p.leaves.page c.leave_quote.new.self.leaves.page (in_bytes (closing (holder_view h) p.level.plain))))
    (sym c.in-Quote.is) (c.leave_quote.ensures.printed options)

pub returns-in-List-clause-printed : goal.returns-in-List-clause-printed
returns-in-List-clause-printed g c = λ options.
    let p = c.args.self.now in
    subst (λ (h : Holder). OnOk c.leave_list.result (LaysOut options p.leaves.page c.leave_list.new.self.leaves.page (in_bytes (closing (holder_view h) p.level.plain))))
    (sym c.in-List.is) (c.leave_list.ensures.printed options)

pub returns-in-Footnote-clause-printed : goal.returns-in-Footnote-clause-printed
returns-in-Footnote-clause-printed g c = λ options.
    let p = c.args.self.now in
    subst (λ (h : Holder). OnOk c.leave_footnote.result (LaysOut options p.leaves.page c.leave_footnote.new.self.leaves.page (in_bytes (closing (holder_view h) p.level.plain))))
    (sym c.in-Footnote.is) (c.leave_footnote.ensures.printed options)
