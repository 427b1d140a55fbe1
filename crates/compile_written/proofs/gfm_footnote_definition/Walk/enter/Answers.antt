use Rattle.std.proofs.Common.{◌∙◌, ap, sym, refl, subst}
use Rattle.compile_written.proofs.Prelude.{begun, HasNotes, Held, label_at, notes}
use Rattle.compile_written.proofs.FootnoteLoops.{enters}
use Rattle.compile_written.proofs.gfm_footnote_definition.Walk.enter.Goals as goal

pub returns-in_ok-enter_content-clause-notes : goal.returns-in_ok-enter_content-clause-notes
returns-in_ok-enter_content-clause-notes g c = λ bytes events s h.
    subst (HasNotes bytes events c.enter_content.new.self)
    (enters c.args.name (label_at bytes events c.args.index) s c.args.self.now.inner.awaited (sym h.skipped ∙ c.if-self-eq0.true)
    (ap (λ (z : Held). z.awaited) h.inner) (sym c.has_begun.ensures ∙ c.if-has_begun.true))
    (c.in_ok-enter_content.ensures.notes bytes events (notes s.ended (begun s.inner) s.outer s.skipped)
    (record { has_labels = h.has_labels; counted = h.counted; inner = ap begun h.inner; outer = h.outer; skipped = h.skipped }) refl)
