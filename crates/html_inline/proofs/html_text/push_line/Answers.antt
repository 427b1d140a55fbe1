use Rattle.std.proofs.Common.{◌++◌, string_bytes, ap, ◌∙◌, arith, subst}
use Rattle.html_inline.proofs.Prelude.{is_in_line, prefix_len, PrintsEnding, raw_bytes}
use Rattle.html_heading_text.proofs.InLine.{line_boundary}
use Rattle.html_inline.proofs.HtmlLines.{line_printed, line_shorter}
use Rattle.html_inline.proofs.html_text.push_line.Goals as goal

pub text_before-requires : goal.text_before-requires
text_before-requires g c =
    line_boundary c.args.html.now c.line_size-size.result (c.line_size-size.ensures ∙ ap (prefix_len is_in_line) c.as_bytes.ensures.value)

pub range_from-requires : goal.range_from-requires
range_from-requires g c = λ some.
    line_boundary c.args.html.now c.line_size-size.result (c.line_size-size.ensures ∙ ap (prefix_len is_in_line) c.as_bytes.ensures.value)

pub returns-clause-printed : goal.returns-clause-printed
returns-clause-printed g c =
    let out = string_bytes c.args.out.now in
    let printed = subst (λ s. PrintsEnding s c.in_ok-rest.rest.now (string_bytes c.push_html.new.out) (string_bytes c.push_ending.new.out))
    c.range_from.ensures.value c.in_ok-rest.ensures in
    (line_printed c.args.described c.args.compile.now c.args.html.now c.in_ok-rest.rest.now out (string_bytes c.push_html.new.out)
    (string_bytes c.push_ending.new.out) c.line_size-size.result (λ k. omega (arith, c.type_inv.html k))
    (c.line_size-size.ensures ∙ ap (prefix_len is_in_line) c.as_bytes.ensures.value)
    (c.in_ok-push_html.ensures ∙ ap (λ s. out ++ raw_bytes c.args.described c.args.compile.now s) c.text_before.ensures) printed).0

pub returns-clause-rest : goal.returns-clause-rest
returns-clause-rest g c =
    let out = string_bytes c.args.out.now in
    let printed = subst (λ s. PrintsEnding s c.in_ok-rest.rest.now (string_bytes c.push_html.new.out) (string_bytes c.push_ending.new.out))
    c.range_from.ensures.value c.in_ok-rest.ensures in
    (line_printed c.args.described c.args.compile.now c.args.html.now c.in_ok-rest.rest.now out (string_bytes c.push_html.new.out)
    (string_bytes c.push_ending.new.out) c.line_size-size.result (λ k. omega (arith, c.type_inv.html k))
    (c.line_size-size.ensures ∙ ap (prefix_len is_in_line) c.as_bytes.ensures.value)
    (c.in_ok-push_html.ensures ∙ ap (λ s. out ++ raw_bytes c.args.described c.args.compile.now s) c.text_before.ensures) printed).1

pub returns-clause-within : goal.returns-clause-within
returns-clause-within g c =
    let printed = subst (λ s. PrintsEnding s c.in_ok-rest.rest.now (string_bytes c.push_html.new.out) (string_bytes c.push_ending.new.out))
    c.range_from.ensures.value c.in_ok-rest.ensures in
    (line_shorter c.args.html.now c.in_ok-rest.rest.now (string_bytes c.push_html.new.out) (string_bytes c.push_ending.new.out) c.line_size-size.result
    (c.line_size-size.ensures ∙ ap (prefix_len is_in_line) c.as_bytes.ensures.value) printed).0

pub returns-clause-shorter : goal.returns-clause-shorter
returns-clause-shorter g c =
    let printed = subst (λ s. PrintsEnding s c.in_ok-rest.rest.now (string_bytes c.push_html.new.out) (string_bytes c.push_ending.new.out))
    c.range_from.ensures.value c.in_ok-rest.ensures in
    (line_shorter c.args.html.now c.in_ok-rest.rest.now (string_bytes c.push_html.new.out) (string_bytes c.push_ending.new.out) c.line_size-size.result
    (c.line_size-size.ensures ∙ ap (prefix_len is_in_line) c.as_bytes.ensures.value) printed).1
