use Rattle.std.proofs.Common.{◌++◌, string_bytes, codes, sym, ap, ◌∙◌}
use Rattle.html_footnotes.proofs.Prelude.{arrow, back_tag, count_pieces, pieces_html, start_tag}
use Rattle.html_footnotes.proofs.Parts.{four}
use Rattle.html_footnotes.proofs.Printed.{counted}
use Rattle.html_footnotes.proofs.gfm_footnote_definition.push_back.Goals as goal

pub returns : goal.returns
returns g c =
    let start = string_bytes c.args.out.now in
    let options = c.args.compile.now in
    let label = c.args.label.now in
    let count = c.args.count in
    let tag = start_tag (back_tag options label count) in
    let said = pieces_html (count_pieces count) in
    c.in_ok-push_str-2.ensures.bytes
    ∙ ap (λ x. x ++ codes "</a>")
    (c.in_ok-push_count.ensures ∙ ap (λ x. x ++ said) (c.in_ok-push_str.ensures.bytes ∙ ap (λ x. x ++ arrow) c.in_ok-push_back_tag.ensures))
    ∙ four start tag arrow said (codes "</a>")
    ∙ sym (ap (λ x. start ++ x) (counted options label count))
