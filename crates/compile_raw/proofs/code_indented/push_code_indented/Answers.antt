use Rattle.std.proofs.Common.{◌≡◌, sym, ap, ◌∙◌, subst, codes}
use Rattle.compile_raw.proofs.Prelude.{code_of, ending_bytes, LayoutState, LineEnding, OnOk, page_view, raw_lines, raw_parts, with_bytes, with_tag}
use Rattle.html_leaves.proofs.LeafLaid.{indented_laid}
use Rattle.compile_raw.proofs.code_indented.push_code_indented.Goals as goal

pub returns-clause-printed : goal.returns-clause-printed
returns-clause-printed g c = λ m place ns are e.
    let page = c.args.page.now in
    let default = ending_bytes page.default_ending in
    let ls = raw_lines (raw_parts c.args.bytes.now ns) in
    subst (λ (x : LayoutState). OnOk c.fresh_tag-2.result (page_view c.fresh_tag-2.new.self ≡ x))
    (ap (λ (d : LineEnding). with_tag (ending_bytes d) (codes "</code></pre>") (page_view c.push_code.new.page))
    (c.in_ok-push_code.ensures.default ∙ c.in_ok-fresh_tag.ensures.default)
    ∙ ap (with_tag default (codes "</code></pre>")) (c.in_ok-push_code.ensures.printed ns are e ∙ ap (with_bytes (code_of ls)) c.in_ok-fresh_tag.ensures.printed)
    ∙ sym (indented_laid m.compile default ls (page_view page)))
    c.fresh_tag-2.ensures.printed
