use Rattle.std.proofs.Common.{◌≡◌, ◌++◌, string_bytes, codes, sym, ap, ◌∙◌, subst}
use Rattle.html_footnotes.proofs.Prelude.{encode, OnOk, section_heading_name, section_heading_tag, start_tag, text_or}
use Rattle.html_footnotes.proofs.Parts.{five_prints, on_ok}
use Rattle.html_footnotes.proofs.Printed.{heading_said}
use Rattle.html_footnotes.proofs.gfm_footnote_definition.push_heading.Goals as goal

pub returns : goal.returns
returns g c =
    let options = c.args.compile.now in
    let tag = start_tag (section_heading_tag (section_heading_name options) options.gfm_footnote_label_attributes) in
    let text = text_or options.gfm_footnote_label (codes "Footnotes") in
    let name = section_heading_name options in
    let all =
    five_prints (string_bytes c.args.out.now) tag (encode text) (codes "</") name (codes ">") _ _ _ _ c.in_ok-push_heading_tag.ensures
    (c.in_ok-push_encoded.ensures ∙ ap (λ t. string_bytes c.push_heading_tag.new.out ++ encode t) c.text_or.ensures)
    c.in_ok-push_str.ensures.bytes c.in_ok-push_heading_name.ensures
    ∙ sym (ap (λ x. string_bytes c.args.out.now ++ x) (heading_said options)) in
    subst (λ x. OnOk c.push_str-2.result (string_bytes c.push_str-2.new.self ≡ x)) all (on_ok c.push_str-2.result _ _ _ c.push_str-2.ensures.bytes)
