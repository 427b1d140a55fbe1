use Rattle.std.proofs.Common.{◌≡◌, ◌++◌, false, string_bytes, sym, ap, ◌∙◌, append_assoc, arith, drop, take, length}
use Rattle.definition_inline.specs.Strings.{begins_with_eol}
use Rattle.definition_text.specs.Content.{content_codes}
use Rattle.html_heading_text.specs.CodeBytes.{is_in_line, spaces_for_endings}
use Rattle.std.proofs.lemmas.List.{length-drop}
use Rattle.std.specs.List.{prefix_len}
use Rattle.html_heading_text.proofs.InLine.{line_boundary, line_some, line_spaced}
use Rattle.html_heading_text.proofs.code_text.push_spaced_piece.Goals as goal

pub text_before-requires : goal.text_before-requires
text_before-requires g c =
    let xs = c.args.code.now in
    line_boundary xs c.line_size-size.result (c.line_size-size.ensures ∙ ap (prefix_len is_in_line) c.as_bytes-2.ensures.value)

pub range_from-requires : goal.range_from-requires
range_from-requires g c = λ some.
    let xs = c.args.code.now in
    line_boundary xs c.line_size-size.result (c.line_size-size.ensures ∙ ap (prefix_len is_in_line) c.as_bytes-2.ensures.value)

pub returns-clause-printed : goal.returns-clause-printed
returns-clause-printed g c =
    let xs = c.args.code.now in
    let n = c.line_size-size.result in
    let size : n ≡ prefix_len is_in_line xs = c.line_size-size.ensures ∙ ap (prefix_len is_in_line) c.as_bytes-2.ensures.value in
    let out = string_bytes c.args.out.now in
    ap (λ s. s ++ spaces_for_endings c.range_from.result.now) c.in_ok-push_str-2.ensures.bytes
    ∙ append_assoc out c.text_before.result.now (spaces_for_endings c.range_from.result.now)
    ∙ ap (λ s. out ++ (s ++ spaces_for_endings c.range_from.result.now)) c.text_before.ensures
    ∙ ap (λ s. out ++ (take n xs ++ spaces_for_endings s)) c.range_from.ensures.value
    ∙ ap (λ s. out ++ s) (sym (line_spaced n xs (λ k. omega (arith, c.type_inv.code k)) (omega (arith, size))))

pub returns-clause-shorter : goal.returns-clause-shorter
returns-clause-shorter g c =
    let xs = c.args.code.now in
    let n = c.line_size-size.result in
    let size : n ≡ prefix_len is_in_line xs = c.line_size-size.ensures ∙ ap (prefix_len is_in_line) c.as_bytes-2.ensures.value in
    let none : begins_with_eol (content_codes xs) ≡ false = ap (λ s. begins_with_eol (content_codes s)) (sym c.as_bytes.ensures.value) ∙ c.in_default.ensures in
    let some = line_some xs c.requires none in
    let rest : length c.range_from.result.now ≡ length (drop n xs) = ap length c.range_from.ensures.value in
    omega (arith, some, size, rest, length-drop n xs, c.requires)
