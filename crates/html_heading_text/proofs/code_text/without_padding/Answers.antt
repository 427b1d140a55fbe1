use Rattle.std.proofs.Common.{◌≡◌, ap, arith, sym, ◌∙◌, true}
use Rattle.std.proofs.lemmas.Str.{IsCharBoundary-after_ascii}
use Rattle.definition_inline.specs.CodeText.{is_padded}
use Rattle.html_heading_text.proofs.InLine.{padded_start}
use Rattle.html_heading_text.proofs.code_text.without_padding.Goals as goal

pub range-requires-clause-start_boundary : goal.range-requires-clause-start_boundary
range-requires-clause-start_boundary c = λ some.
    let xs = c.args.text.now in
    let padded : is_padded xs ≡ true = ap is_padded (sym c.as_bytes.ensures.value) ∙ sym c.is_padded.ensures ∙ c.if-is_padded.true in
    IsCharBoundary-after_ascii xs 0 c.utf8.text (omega (arith, c.if-text-gt1.true)) (omega (arith, padded_start xs padded))
