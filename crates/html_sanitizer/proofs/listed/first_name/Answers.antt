use Rattle.std.proofs.Common.{arith, sym, ap, subst, ◌∙◌}
use Rattle.std.specs.List.{prefix_len}
use Rattle.std.specs.Str.{IsCharBoundary}
use Rattle.definition_text.specs.Bytes.{is_letter_or_digit}
use Rattle.html_sanitizer.proofs.Nameless.{name_boundary}
use Rattle.html_sanitizer.proofs.listed.first_name.Goals as goal

pub split_at-requires : goal.split_at-requires
split_at-requires c =
    let text = c.args.text.now in
    subst (IsCharBoundary text) (sym (c.name_size.ensures ∙ ap (prefix_len is_letter_or_digit) c.as_bytes.ensures.value))
    (name_boundary text (λ k. omega (arith, c.type_inv.text k)) c.utf8.text)
