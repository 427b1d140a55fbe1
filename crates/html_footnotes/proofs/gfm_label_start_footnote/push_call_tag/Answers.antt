use Rattle.std.proofs.Common.{◌++◌, string_bytes, codes, sym, ap, ◌∙◌}
use Rattle.html_footnotes.proofs.Prelude.{call_id, call_view, footnote_id, say_bytes}
use Rattle.html_footnotes.proofs.Parts.{five}
use Rattle.html_footnotes.proofs.Printed.{call_printed}
use Rattle.html_footnotes.proofs.gfm_label_start_footnote.push_call_tag.Goals as goal

pub returns : goal.returns
returns g c =
    let start = string_bytes c.args.out.now in
    let options = c.args.compile.now in
    let label = c.args.call.label.now in
    let id = say_bytes (footnote_id options label) in
    let call = say_bytes (call_id options label c.args.call.count) in
    let link = codes "<a href=\"#" in
    let between = codes "\" id=\"" in
    let end = codes "\" data-footnote-ref=\"\" aria-describedby=\"footnote-label\">" in
    c.in_ok-push_str-3.ensures.bytes
    ∙ ap (λ x. x ++ end)
    (c.in_ok-push_call_id.ensures
    ∙ ap (λ x. x ++ call) (c.in_ok-push_str-2.ensures.bytes ∙ ap (λ x. x ++ between)
    (c.in_ok-push_footnote_id.ensures ∙ ap (λ x. x ++ id) c.in_ok-push_str.ensures.bytes)))
    ∙ five start link id between call end
    ∙ sym (ap (λ x. start ++ x) (call_printed options (call_view c.args.call)))
