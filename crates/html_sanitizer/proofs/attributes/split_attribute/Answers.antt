use Rattle.std.proofs.Common.{arith, sym, ap, subst, lit<, ◌∙◌}
use Rattle.std.specs.List.{prefix_len}
use Rattle.std.specs.Str.{IsCharBoundary}
use Rattle.std.proofs.lemmas.Str.Pattern.{strip_prefix_char}
use Rattle.definition_inline.specs.HtmlTags.{is_attribute_byte}
use Rattle.html_sanitizer.proofs.Reading.{front_boundary, attribute_small, bare_attribute}
use Rattle.html_sanitizer.proofs.attributes.split_attribute.Goals as goal

pub split_at-requires : goal.split_at-requires
split_at-requires c =
    let text = c.args.text.now in
    subst (IsCharBoundary text) (sym (c.name_size.ensures ∙ ap (prefix_len is_attribute_byte) c.as_bytes.ensures.value))
    (front_boundary is_attribute_byte text attribute_small (λ k. omega (arith, c.type_inv.text k)) c.utf8.text)

pub returns-in_default : goal.returns-in_default
returns-in_default c =
    let other = rw c.in_default.is at (strip_prefix_char 61 c.after_space.result.now c.strip_prefix.result c.strip_prefix.ensures.cases (lit< tt)) in
    bare_attribute c.args.text.now c.split_at.result.0.now c.split_at.result.1.now c.after_space.result.now (record {
      size = c.name_size.result;
      long = c.name_size.ensures ∙ ap (prefix_len is_attribute_byte) c.as_bytes.ensures.value;
      is_name = c.split_at.ensures.front;
      is_after = c.split_at.ensures.back;
      is_spaced = c.after_space.ensures;
    }) other
