use Rattle.std.proofs.Common.{◌≡◌, sym, ap, ◌∙◌, subst, codes}
use Rattle.html_leaves.proofs.Prelude.{code_of, ending_bytes, LineEnding, OnOk, own_lines, page_view, piece_lines, with_bytes, with_tag}
use Rattle.html_leaves.proofs.LeafLaid.{indented_laid}
use Rattle.html_leaves.proofs.page.Page.indented_code.Goals as goal

pub returns-clause-printed : goal.returns-clause-printed
returns-clause-printed g c = λ d.
    let page = c.args.self.now in
    let default = ending_bytes page.default_ending in
    let ls = own_lines (piece_lines c.args.lines.now) in
    subst (λ x. OnOk c.fresh_tag-2.result (page_view c.fresh_tag-2.new.self ≡ x))
    (ap (λ (e : LineEnding). with_tag (ending_bytes e) (codes "</code></pre>") (page_view c.code.new.self))
    (c.in_ok-code.ensures.default ∙ c.in_ok-fresh_tag.ensures.default)
    ∙ ap (with_tag default (codes "</code></pre>")) (c.in_ok-code.ensures.printed ∙ ap (with_bytes (code_of ls)) c.in_ok-fresh_tag.ensures.printed)
    ∙ sym (indented_laid d.options.compile default ls (page_view page)))
    c.fresh_tag-2.ensures.printed
