use Rattle.std.proofs.Common.{◌≡◌, sym, ap, ◌∙◌, subst}
use Rattle.compile_raw.proofs.Prelude.{CompileOptions, ending_bytes, html_of, LayoutState, OnOk, page_view, raw_lines, raw_parts, with_bytes, with_fresh}
use Rattle.html_leaves.proofs.LeafLaid.{html_laid}
use Rattle.compile_raw.proofs.html_flow.push_html_flow.Goals as goal

pub returns-clause-printed : goal.returns-clause-printed
returns-clause-printed g c = λ m place ns same are plain e.
    let page = c.args.page.now in
    let default = ending_bytes page.default_ending in
    let ls = raw_lines (raw_parts c.args.bytes.now ns) in
    subst (λ (x : LayoutState). OnOk c.push_html_parts.result (page_view c.push_html_parts.new.page ≡ x))
    (ap (λ (of : CompileOptions). with_bytes (html_of of ls) (page_view c.fresh.new.self)) (sym same)
    ∙ ap (with_bytes (html_of m.compile ls)) c.in_ok-fresh.ensures.printed
    ∙ sym (html_laid m.compile default ls (with_fresh default (page_view page))))
    (c.push_html_parts.ensures.printed ns are plain e)
