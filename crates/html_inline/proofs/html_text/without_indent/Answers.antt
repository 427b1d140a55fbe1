use Rattle.std.proofs.Common.{ap, arith, ◌∙◌}
use Rattle.html_inline.proofs.Prelude.{indent}
use Rattle.html_inline.proofs.KeptText.{white_boundary}
use Rattle.html_inline.proofs.html_text.without_indent.Goals as goal

pub range_from-requires : goal.range_from-requires
range_from-requires c = λ some.
    white_boundary c.args.text.now c.white_size-size.result (λ k. omega (arith, c.type_inv.text k)) c.utf8.text
    (c.white_size-size.ensures.size ∙ ap indent c.as_bytes.ensures.value) some
