use Rattle.std.proofs.Common.{◌≡◌, Bool, string_bytes, sym, ap, ◌∙◌, subst}
use Rattle.html_page.proofs.Prelude.{ending_bytes, fold, IfOk, last_piece, lay, LayoutState, LineEnding, page_view, with_footnotes}
use Rattle.html_blocks.specs.declared.printer.LeafPrinter.{LeafPrinter}
use Rattle.html_page.proofs.printer.Printer.finish.Goals as goal
use Rattle.html_page.proofs.printer.Printer.finish.Goals.{then-blank+in_ok-fresh, else-blank}

pub returns : goal.returns
returns g c =
    let o = c.args.options.now in
    let page = c.args.self.leaves.page in
    let e = page.default_ending in
    let after = c.if-blank.leaves.page in
    let ends = λ (x : LayoutState) (blank : Bool). fold (lay o (ending_bytes e)) x (last_piece blank) in
    let ended : page_view after ≡ ends (page_view page) c.args.blank = elim c.if-blank.branch [
      | then-blank+in_ok-fresh w ↦
          ap (λ (p : LeafPrinter _). page_view p.page) w.leaves-is ∙ w.in_ok-fresh.ensures.printed ∙ ap (ends (page_view page)) (sym w.if-blank.true)
      | else-blank w ↦ ap (λ (p : LeafPrinter _). page_view p.page) w.leaves-is ∙ ap (ends (page_view page)) (sym w.if-blank.false)
    ] in
    let same_default : after.default_ending ≡ e = elim c.if-blank.branch [
      | then-blank+in_ok-fresh w ↦ ap (λ (p : LeafPrinter _). p.page.default_ending) w.leaves-is ∙ w.in_ok-fresh.ensures.default
      | else-blank w ↦ ap (λ (p : LeafPrinter _). p.page.default_ending) w.leaves-is
    ] in
    subst (λ x. IfOk c.finish.result (λ html. string_bytes html ≡ x))
    (ap (λ (ending : LineEnding). with_footnotes o (ending_bytes ending) (page_view after)) same_default
    ∙ ap (with_footnotes o (ending_bytes e)) ended)
    c.finish.ensures
