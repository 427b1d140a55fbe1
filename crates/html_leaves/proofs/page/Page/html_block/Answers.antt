use Rattle.std.proofs.Common.{◌≡◌, sym, ap, ◌∙◌, subst}
use Rattle.html_leaves.proofs.Prelude.{CompileOptions, ending_bytes, html_of, OnOk, own_lines, page_view, piece_lines, with_bytes, with_fresh}
use Rattle.html_leaves.proofs.LeafLaid.{html_laid}
use Rattle.html_leaves.proofs.page.Page.html_block.Goals as goal

pub returns-clause-printed : goal.returns-clause-printed
returns-clause-printed g c = λ d same.
    let o = d.options.compile in
    let page = c.args.self.now in
    let default = ending_bytes page.default_ending in
    let ls = own_lines (piece_lines c.args.lines.now) in
    subst (λ x. OnOk c.html_lines.result (page_view c.html_lines.new.self ≡ x))
    (ap (λ (of : CompileOptions). with_bytes (html_of of ls) (page_view c.fresh.new.self)) (sym same)
    ∙ ap (with_bytes (html_of o ls)) c.in_ok-fresh.ensures.printed
    ∙ sym (html_laid o default ls (with_fresh default (page_view page))))
    c.html_lines.ensures.printed
