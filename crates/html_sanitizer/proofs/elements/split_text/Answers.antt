use Rattle.std.proofs.Common.{arith, sym, ap, subst, ◌∙◌}
use Rattle.std.specs.List.{prefix_len}
use Rattle.std.specs.Str.{IsCharBoundary}
use Rattle.definition_html.specs.PageParts.{is_in_text}
use Rattle.html_sanitizer.proofs.Nameless.{text_boundary}
use Rattle.html_sanitizer.proofs.elements.split_text.Goals as goal

pub split_at-requires : goal.split_at-requires
split_at-requires c =
    let text = c.args.text.now in
    subst (IsCharBoundary text) (sym (c.text_size.ensures ∙ ap (prefix_len is_in_text) c.as_bytes.ensures.value))
    (text_boundary text (λ k. omega (arith, c.type_inv.text k)) c.utf8.text)
