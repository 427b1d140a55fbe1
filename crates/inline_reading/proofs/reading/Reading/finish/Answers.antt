use Rattle.std.proofs.Common.{[], refl, sym, subst, reverse}
use Rattle.inline_rows.specs.Container.{IsContainer}
use Rattle.definition_inline.specs.Scan.{whole_text}
use Rattle.inline_reading.proofs.Readings as readings
use Rattle.inline_reading.proofs.reading.Reading.finish.Goals as goal

pub returns : goal.returns
returns g c = record {
  read = λ leads at r h.
      let s = c.args.self in
      let all = readings.shows_whole leads at (reverse s.labels.items) s.rows.items s.runs.items s.slots.items r.open_labels r.now h.by in
      let told = c.in_ok-tell_inner.ensures.told leads at [] s.rows.items (whole_text r).tokens refl
      (subst (λ x. IsContainer leads at s.rows.items 0 x c.deref-2.result.now (whole_text r).tokens) (sym c.deref.ensures.value)
      (subst (λ x. IsContainer leads at s.rows.items 0 s.runs.items x (whole_text r).tokens) (sym c.deref-2.ensures.value) all)) in
      told.told;
}
