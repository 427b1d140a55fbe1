use Rattle.std.proofs.Common.{◌≡◌, ◌++◌, ◌+◌, suc, string_bytes, sym, ap, ◌∙◌, arith}
use Rattle.html_footnotes.proofs.Prelude.{back_pieces, backs_pieces, pieces_html, space_after}
use Rattle.html_footnotes.proofs.Parts.{three}
use Rattle.html_footnotes.proofs.Printed.{one_more}
use Rattle.html_footnotes.proofs.gfm_footnote_definition.push_backs.Goals as goal

pub loop-count-preserved : goal.loop-count-preserved
loop-count-preserved g c =
    let start = string_bytes c.args.out.now in
    let options = c.args.compile.now in
    let label = c.args.label.now in
    let i = c.loop-count.count in
    let next : suc i ≡ i + 1 = omega arith in
    c.in_ok-push_back.ensures
    ∙ ap (λ x. x ++ pieces_html (back_pieces options label (i + 1)))
    (c.in_ok-push_space.ensures ∙ ap (λ x. x ++ pieces_html (space_after i)) c.loop-count.invariant)
    ∙ three start (pieces_html (backs_pieces options label i)) (pieces_html (space_after i)) (pieces_html (back_pieces options label (i + 1)))
    ∙ sym (ap (λ n. start ++ (pieces_html (backs_pieces options label i) ++ pieces_html (space_after i) ++ pieces_html (back_pieces options label n))) next)
    ∙ sym (ap (λ x. start ++ x) (one_more options label i))
    ∙ ap (λ n. start ++ pieces_html (backs_pieces options label n)) next
