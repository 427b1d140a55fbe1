use Rattle.std.proofs.Common.{◌≡◌, ◌+◌, ◌-◌, arith, [], ◌∷◌, ◌++◌, sym, ap, ◌∙◌, length, subst, reverse, take, drop, set}
use Rattle.std.specs.Prelude.{vec_len}
use Rattle.std.proofs.lemmas.List.{append-nil, length-append, length-set}
use Rattle.inline_rows.specs.declared.row.InlineRow.TheVariants.{Exit}
use Rattle.inline_rows.specs.Container.{IsContainer, AreWithin}
use Rattle.inline_reading.specs.Shows.{ShowsBy, AreOutside, start_view}
use Rattle.definition_inline.specs.LabelEnd.{Leads}
use Rattle.definition_inline.specs.Scan.{makes_link}
use Rattle.inline_reading.proofs.Sound as sound
use Rattle.inline_reading.proofs.Formed as forming
use Rattle.inline_reading.proofs.Changes as changes
use Rattle.inline_reading.proofs.reading.Reading.form.Goals as goal

pub returns-in_default-clause-read : goal.returns-in_default-clause-read
returns-in_default-clause-read g c leads at r e there h =
    let s = c.args.self.now in
    let none = changes.nothing_there s.labels.items (vec_len s.labels) s.labels.ok.0 c.in_default.ensures.variant.1 in
    let rest : c.pop.new.self.items ≡ [] = sym (append-nil c.pop.new.self.items) ∙ sym c.in_default.ensures.items ∙ none in
    let shown =
    changes.none_formed leads at s.rows.items s.runs.items s.slots.items s.labels.items c.pop.new.self.items r.open_labels r.now (Leads e) s.holds_link
    none rest h.holds_link h.by in
    record { by = shown.by; holds_link = shown.holds_link_is }

pub tell_inner-requires : goal.tell_inner-requires
tell_inner-requires g c =
    let s = c.args.self.now in
    let k = c.in-Some.label.runs in
    (subst (λ x. AreWithin x (take (length c.deref-2.result.now - k) (drop k c.deref-2.result.now)) (length s.rows.items))
    (sym (changes.slice_from c.deref.result.now s.runs.items k c.deref.ensures.value))
    (subst (λ x. AreWithin (drop k s.runs.items) x (length s.rows.items)) (sym
    (changes.slice_from c.deref-2.result.now s.slots.items k c.deref-2.ensures.value))
    (sound.within_drop s.runs.items s.slots.items (length s.rows.items) k c.requires.sound.within)))

pub returns-clause-sound : goal.returns-clause-sound
returns-clause-sound g c =
    let s = c.args.self.now in
    let o = c.in-Some.label in
    let pushed : c.push.new.self.items ≡ set c.tell_inner.new.rows.items o.row c.enter_row.result ++ Exit ∷ [] = c.in_ok-push.ensures.items in
    let size : length c.push.new.self.items ≡ length s.rows.items + 1 =
    ap length pushed ∙ length-append (set c.tell_inner.new.rows.items o.row c.enter_row.result) (Exit ∷ [])
    ∙ ap (λ n. n + 1) (length-set c.tell_inner.new.rows.items o.row c.enter_row.result ∙ c.in_ok-tell_inner.ensures.length) in
    let out = changes.sound_popped s.rows.items s.runs.items s.slots.items s.labels.items c.pop.new.self.items o c.in-Some.ensures.items
    c.requires.sound.outside in
    let kept = changes.sound_formed s.rows.items c.push.new.self.items s.runs.items s.slots.items o (reverse c.pop.new.self.items)
    (omega (arith, size, out.0)) out in
    record {
      within =
          subst (λ x. AreWithin x c.truncate-2.new.self.items (length c.push.new.self.items)) (sym c.truncate.ensures.items)
          (subst (λ x. AreWithin (take o.runs s.runs.items) x (length c.push.new.self.items)) (sym c.truncate-2.ensures.items) kept.within);
      outside =
          subst (λ x. AreOutside (reverse c.pop.new.self.items) (length c.push.new.self.items) x c.truncate-2.new.self.items) (sym c.truncate.ensures.items)
          (subst (AreOutside (reverse c.pop.new.self.items) (length c.push.new.self.items) (take o.runs s.runs.items))
          (sym c.truncate-2.ensures.items) kept.outside);
    }

pub returns-clause-read : goal.returns-clause-read
returns-clause-read g c leads at r e there h =
    let s = c.args.self.now in
    let o = c.in-Some.label in
    let inner = forming.is_inner leads at s.rows.items s.runs.items s.slots.items o (reverse c.pop.new.self.items) r.open_labels r.now.tokens
    (subst (λ os. ShowsBy leads at s.rows.items s.runs.items s.slots.items os r.open_labels r.now.tokens)
    (changes.popped s.labels.items c.pop.new.self.items o c.in-Some.ensures.items) h.by) in
    let runs = changes.slice_from c.deref.result.now s.runs.items o.runs c.deref.ensures.value in
    let slots = changes.slice_from c.deref-2.result.now s.slots.items o.runs c.deref-2.ensures.value in
    let told = c.in_ok-tell_inner.ensures.told leads at inner.outer_rows inner.inner_rows r.now.tokens inner.rows_are
    (subst (λ x. IsContainer leads at inner.inner_rows (length inner.outer_rows) x
    (take (length c.deref-2.result.now - o.runs) (drop o.runs c.deref-2.result.now)) r.now.tokens) (sym runs)
    (subst (λ x. IsContainer leads at inner.inner_rows (length inner.outer_rows) (drop o.runs s.runs.items) x r.now.tokens) (sym slots) inner.inner)) in
    let pushed : c.push.new.self.items ≡ set c.tell_inner.new.rows.items o.row c.enter_row.result ++ Exit ∷ [] = c.in_ok-push.ensures.items in
    let shown =
    changes.last_formed leads at s.rows.items c.tell_inner.new.rows.items c.push.new.self.items s.runs.items c.truncate.new.self.items s.slots.items
    c.truncate-2.new.self.items o (reverse c.pop.new.self.items)
    r.open_labels r.now c.args.target e c.around_holds_link-self.result c.enter_row.result c.makes_link.result inner there told pushed c.enter_row.ensures
    c.truncate.ensures.items c.truncate-2.ensures.items
    c.around_holds_link-self.ensures (c.makes_link.ensures ∙ ap (makes_link (start_view o.start)) h.holds_link) in
    record { by = shown.by; holds_link = shown.holds_link_is }
