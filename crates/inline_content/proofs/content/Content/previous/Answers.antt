use Rattle.std.proofs.Common.{◌-◌, Some, get_or, length, sym, ap, ◌∙◌, subst, arith, inl, inr}
use Rattle.inline_content.proofs.Prelude.{IsUtf8}
use Rattle.inline_content.proofs.Utf8Bytes.{utf8_bytes}
use Rattle.inline_content.proofs.PreviousCodes.{none_after, some_after}
use Rattle.inline_content.proofs.content.Content.previous.Goals as goal

pub returns-then-last-eq13 : goal.returns-then-last-eq13
returns-then-last-eq13 c =
    let text = c.args.self.text.now in
    let place = length text - length c.args.rest.now in
    none_after place text (omega (arith, c.if-place-eq0.false)) (omega arith)
    (elim c.if-last-eq13.either [
      | inl feed ↦ inl (ap (λ l. get_or l (place - 1) 0) (sym c.as_bytes.ensures.value) ∙ feed)
      | inr return ↦ inr (ap (λ l. get_or l (place - 1) 0) (sym c.as_bytes.ensures.value) ∙ return.1)
    ])

pub returns-else-last-eq13 : goal.returns-else-last-eq13
returns-else-last-eq13 c =
    let text = c.args.self.text.now in
    let place = length text - length c.args.rest.now in
    let value = c.as_bytes.ensures.value in
    ap (λ l. Some (get_or l (place - 1) 0)) value
    ∙ some_after place text (omega (arith, c.if-place-eq0.false)) (omega arith) (utf8_bytes text (subst IsUtf8 value c.as_bytes.ensures.utf8) (place - 1))
    (λ e. grind (arith, ap (λ l. get_or l (place - 1) 0) value, e)) (λ e. grind (arith, ap (λ l. get_or l (place - 1) 0) value, e))
