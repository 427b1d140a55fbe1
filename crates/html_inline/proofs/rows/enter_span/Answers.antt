use Rattle.std.proofs.Common.{◌≡◌, ◌++◌, List, true, false, string_bytes, sym, ap, ◌∙◌, refl}
use Rattle.html_inline.proofs.Prelude.{is_described, map, new_part, opened_view, OpenPart, output_view, reverse}
use Rattle.inline_runs.specs.View.{span_view}
use Rattle.html_inline.specs.declared.stack.OpenPart.TheVariants as open_part
use Rattle.html_inline.specs.Printed.{span_start, span_end}
use Rattle.html_inline.proofs.OpenStack.{entered, entered_silent}
use Rattle.html_inline.proofs.rows.enter_span.Goals as goal

pub returns-then-is_described : goal.returns-then-is_described
returns-then-is_described g c = λ meaning at rows.
    let view = opened_view meaning at rows in
    let items = c.args.scratch.now.stack.items in
    let h : is_described (map view (reverse items)) ≡ true =
    ap (λ (s : List OpenPart). is_described (map view (reverse s))) (sym c.as_slice.ensures.value) ∙ sym (c.is_described.ensures meaning at rows)
    ∙ c.if-is_described.true in
    entered_silent view (span_start (span_view c.args.span)) (new_part false (span_end (span_view c.args.span)))
    (output_view c.args.out.now) items c.push.new.self.items refl c.in_ok-push.ensures.items h

pub returns : goal.returns
returns g c = λ meaning at rows.
    let view = opened_view meaning at rows in
    let items = c.args.scratch.now.stack.items in
    let out = output_view c.args.out.now in
    let h : is_described (map view (reverse items)) ≡ false =
    ap (λ (s : List OpenPart). is_described (map view (reverse s))) (sym c.as_slice.ensures.value) ∙ sym (c.is_described.ensures meaning at rows)
    ∙ c.if-is_described.false in
    entered view (span_start (span_view c.args.span)) (new_part false (span_end (span_view c.args.span))) out
    (string_bytes c.push_str.new.self) items c.push-2.new.self.items
    (open_part.Span c.args.span) refl c.in_ok-push-2.ensures.items h (c.in_ok-push_str.ensures.bytes ∙ ap (λ s. out.text ++ s) c.span_start.ensures)
