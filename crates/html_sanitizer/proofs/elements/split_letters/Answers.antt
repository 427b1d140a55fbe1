use Rattle.std.proofs.Common.{arith, sym, ap, subst, ◌∙◌}
use Rattle.std.specs.List.{prefix_len}
use Rattle.std.specs.Str.{IsCharBoundary}
use Rattle.html_sanitizer.specs.Elements.{is_letter}
use Rattle.html_sanitizer.proofs.Nameless.{letter_boundary}
use Rattle.html_sanitizer.proofs.elements.split_letters.Goals as goal

pub split_at-requires : goal.split_at-requires
split_at-requires c =
    let text = c.args.text.now in
    subst (IsCharBoundary text) (sym (c.letters_size.ensures ∙ ap (prefix_len is_letter) c.as_bytes.ensures.value))
    (letter_boundary text (λ k. omega (arith, c.type_inv.text k)) c.utf8.text)
