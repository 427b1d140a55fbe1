use Rattle.std.proofs.Common.{◌++◌, string_bytes, codes, sym, ap, ◌∙◌}
use Rattle.html_footnotes.proofs.Prelude.{call_id, encode, say_bytes, text_or}
use Rattle.html_footnotes.proofs.Parts.{five}
use Rattle.html_footnotes.proofs.Printed.{back_printed}
use Rattle.html_footnotes.proofs.gfm_footnote_definition.push_back_tag.Goals as goal

pub returns : goal.returns
returns g c =
    let start = string_bytes c.args.out.now in
    let options = c.args.compile.now in
    let label = c.args.label.now in
    let call = say_bytes (call_id options label c.args.count) in
    let text = text_or options.gfm_footnote_back_label (codes "Back to content") in
    let link = codes "<a href=\"#" in
    let between = codes "\" data-footnote-backref=\"\" aria-label=\"" in
    let end = codes "\" class=\"data-footnote-backref\">" in
    c.in_ok-push_str-3.ensures.bytes
    ∙ ap (λ x. x ++ end)
    (c.in_ok-push_encoded.ensures
    ∙ ap (λ t. string_bytes c.push_str-2.new.self ++ encode t) c.text_or.ensures
    ∙ ap (λ x. x ++ encode text) (c.in_ok-push_str-2.ensures.bytes ∙ ap (λ x. x ++ between)
    (c.in_ok-push_call_id.ensures ∙ ap (λ x. x ++ call) c.in_ok-push_str.ensures.bytes)))
    ∙ five start link call between (encode text) end
    ∙ sym (ap (λ x. start ++ x) (back_printed options label c.args.count))
