use Rattle.std.proofs.Common.{arith, sym, ap, subst, ◌∙◌}
use Rattle.std.specs.List.{prefix_len}
use Rattle.std.specs.Str.{IsCharBoundary}
use Rattle.definition_inline.specs.HtmlTags.{is_tag_name_byte}
use Rattle.html_sanitizer.proofs.Reading.{front_boundary, name_small}
use Rattle.html_sanitizer.proofs.raw.split_name.Goals as goal

pub split_at-requires : goal.split_at-requires
split_at-requires c =
    let text = c.args.text.now in
    subst (IsCharBoundary text) (sym (c.name_size.ensures ∙ ap (prefix_len is_tag_name_byte) c.as_bytes.ensures.value))
    (front_boundary is_tag_name_byte text name_small (λ k. omega (arith, c.type_inv.text k)) c.utf8.text)
