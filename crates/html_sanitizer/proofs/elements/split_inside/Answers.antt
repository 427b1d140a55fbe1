use Rattle.std.proofs.Common.{arith, sym, ap, subst, ◌∙◌}
use Rattle.std.specs.List.{prefix_len}
use Rattle.std.specs.Str.{IsCharBoundary}
use Rattle.definition_html.specs.PageParts.{is_in_tag}
use Rattle.html_sanitizer.proofs.Nameless.{tag_boundary}
use Rattle.html_sanitizer.proofs.elements.split_inside.Goals as goal

pub split_at-requires : goal.split_at-requires
split_at-requires c =
    let text = c.args.text.now in
    subst (IsCharBoundary text) (sym (c.inside_size.ensures ∙ ap (prefix_len is_in_tag) c.as_bytes.ensures.value))
    (tag_boundary text (λ k. omega (arith, c.type_inv.text k)) c.utf8.text)
