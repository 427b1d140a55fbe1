use Rattle.std.proofs.Common.{arith, sym, ap, subst, ◌∙◌}
use Rattle.std.specs.List.{prefix_len}
use Rattle.std.specs.Str.{IsCharBoundary}
use Rattle.definition_text.specs.Lines.{ends_line}
use Rattle.html_sanitizer.proofs.Nameless.{line_boundary}
use Rattle.html_sanitizer.proofs.elements.split_lines.Goals as goal

pub split_at-requires : goal.split_at-requires
split_at-requires c =
    let text = c.args.text.now in
    subst (IsCharBoundary text) (sym (c.lines_size.ensures ∙ ap (prefix_len ends_line) c.as_bytes.ensures.value))
    (line_boundary text (λ k. omega (arith, c.type_inv.text k)) c.utf8.text)
