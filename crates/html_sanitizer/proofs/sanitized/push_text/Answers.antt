use Rattle.std.proofs.Common.{arith, sym, ap, subst, ◌∙◌}
use Rattle.std.specs.List.{position_or_len}
use Rattle.std.specs.Str.{IsCharBoundary}
use Rattle.html_sanitizer.specs.Sanitized.{is_mark}
use Rattle.html_sanitizer.proofs.Rests.{mark_boundary}
use Rattle.html_sanitizer.proofs.sanitized.push_text.Goals as goal

pub split_at-requires : goal.split_at-requires
split_at-requires g c =
    let text = c.args.text.now in
    subst (IsCharBoundary text) (sym (c.text_size.ensures ∙ ap (position_or_len is_mark) c.as_bytes.ensures.value))
    (mark_boundary text (λ k. omega (arith, c.type_inv.text k)) c.utf8.text)
