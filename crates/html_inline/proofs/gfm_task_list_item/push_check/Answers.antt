use Rattle.std.proofs.Common.{◌++◌, sym, ap, ◌∙◌, append_assoc, codes, string_bytes}
use Rattle.html_inline.proofs.Prelude.{attribute_bytes, checkable_attributes, done_attributes, flat_map}
use Rattle.html_inline.proofs.TagTexts.{check_printed}
use Rattle.html_inline.proofs.gfm_task_list_item.push_check.Goals as goal

pub returns : goal.returns
returns g c =
    let out = string_bytes c.args.out.now in
    let options = c.args.compile.now in
    let tag = codes "<input type=\"checkbox\"" in
    let attributes = flat_map attribute_bytes (checkable_attributes options.gfm_task_list_item_checkable)
    ++ flat_map attribute_bytes (done_attributes c.args.done) in
    let end = codes " />" in
    c.in_ok-push_str-2.ensures.bytes
    ∙ ap (λ x. x ++ end) (c.in_ok-push_attributes.ensures ∙ ap (λ x. x ++ attributes) c.in_ok-push_str.ensures.bytes ∙ append_assoc out tag attributes)
    ∙ append_assoc out (tag ++ attributes) end
    ∙ ap (λ x. out ++ x) (sym (check_printed options c.args.done))
