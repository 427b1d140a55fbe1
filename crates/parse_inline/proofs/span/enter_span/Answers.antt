use Rattle.std.proofs.Common.{◌≡◌, [], ◌∷◌, ◌++◌, drop, length, sym, ap, ap₂, subst, ◌∙◌}
use Rattle.parse_inline.proofs.Prelude.{AreHeld, Entered, leave_all, sequence_size, SpanNames, still_open}
use Rattle.parse_inline.specs.declared.opened.Open.TheVariants as held
use Rattle.parse_inline.proofs.Calls.{DoesEnter, DoesText, span_entered}
use Rattle.parse_inline.proofs.Held.{more, span_text_row}
use Rattle.parse_inline.proofs.span.enter_span.Goals as goal

pub enter-requires-2-clause-row : goal.enter-requires-2-clause-row
enter-requires-2-clause-row g c = span_text_row c.args.span c.span_names-names.result c.span_names-names.ensures

pub returns-clause-open : goal.returns-clause-open
returns-clause-open g c =
    ap (λ os. leave_all os (still_open c.enter-2.new.self)) c.in_ok-push.ensures.items
    ∙ (more c.args.open.now.items (held.Span c.args.span c.sequence_size-size.result) (still_open c.args.walk.now) (still_open c.enter-2.new.self)
    c.requires.held
    (c.in_ok-enter-2.ensures.open ∙ ap (λ ms. Entered c.span_names-names.result.text ∷ ms) (c.in_ok-text.ensures.open ∙ c.in_ok-enter.ensures.open)
    ∙ ap (λ (names : SpanNames). Entered names.text ∷ Entered names.event ∷ still_open c.args.walk.now) c.span_names-names.ensures)).around

pub returns-clause-held : goal.returns-clause-held
returns-clause-held g c =
    subst (λ os. AreHeld os (still_open c.enter-2.new.self)) (sym c.in_ok-push.ensures.items)
    (more c.args.open.now.items (held.Span c.args.span c.sequence_size-size.result) (still_open c.args.walk.now) (still_open c.enter-2.new.self) c.requires.held
    (c.in_ok-enter-2.ensures.open ∙ ap (λ ms. Entered c.span_names-names.result.text ∷ ms) (c.in_ok-text.ensures.open ∙ c.in_ok-enter.ensures.open)
    ∙ ap (λ (names : SpanNames). Entered names.text ∷ Entered names.event ∷ still_open c.args.walk.now) c.span_names-names.ensures)).held

pub returns-clause-written : goal.returns-clause-written
returns-clause-written g c text front content stop ahead sized dark may st whole =
    let s = c.args.span in
    let size = c.sequence_size-size.result in
    let are = c.span_names-names.ensures in
    let is : size ≡ length front =
    c.sequence_size-size.ensures
    ∙ ap (sequence_size s) (c.bytes_from-bytes.ensures.rest ∙ ap₂ drop c.place.ensures c.as_bytes.ensures.value ∙ sym ahead) ∙ sym sized in (
      span_entered text stop c.args.walk.now c.enter.new.self c.text.new.self c.enter-2.new.self s size front content is dark may
          (subst (λ (names : SpanNames). DoesEnter names.event c.args.walk.now c.enter.new.self) are
          (c.in_ok-enter.ensures.stays, c.in_ok-enter.ensures.written))
          (subst (λ (names : SpanNames). DoesText names.sequence size c.enter.new.self c.text.new.self) are
          (c.in_ok-text.ensures.stays, c.in_ok-text.ensures.written))
          (subst (λ (names : SpanNames). DoesEnter names.text c.text.new.self c.enter-2.new.self) are
          (c.in_ok-enter-2.ensures.stays, c.in_ok-enter-2.ensures.written)) st whole,
      c.in_ok-push.ensures.items ∙ ap (λ n. c.args.open.now.items ++ held.Span s n ∷ []) is,
    )
