use Rattle.std.proofs.Common.{◌≡◌, ◌+◌, [], ◌∷◌, ◌++◌, refl, sym, ap, ◌∙◌, arith, length, subst, reverse, take}
use Rattle.std.specs.Prelude.{vec_len}
use Rattle.std.proofs.lemmas.List.{append-nil, length-append, length-take-le}
use Rattle.definition_text.specs.Content.{content_codes}
use Rattle.definition_inline.specs.LabelEnd.{Calls}
use Rattle.definition_inline.specs.Scan.{makes_link}
use Rattle.inline_rows.specs.declared.row.InlineRow.TheVariants.{Call}
use Rattle.inline_rows.specs.Container.{AreWithin}
use Rattle.inline_reading.specs.Shows.{ShowsBy, AreOutside, start_view}
use Rattle.inline_reading.proofs.Formed as forming
use Rattle.inline_reading.proofs.Changes as changes
use Rattle.inline_reading.proofs.reading.Reading.call.Goals as goal

pub returns-in_default-clause-read : goal.returns-in_default-clause-read
returns-in_default-clause-read g c leads at r h =
    let s = c.args.self.now in
    let none = changes.nothing_there s.labels.items (vec_len s.labels) s.labels.ok.0 c.in_default.ensures.variant.1 in
    let rest : c.pop.new.self.items ≡ [] = sym (append-nil c.pop.new.self.items) ∙ sym c.in_default.ensures.items ∙ none in
    let shown =
    changes.none_formed leads at s.rows.items s.runs.items s.slots.items s.labels.items c.pop.new.self.items r.open_labels r.now
    (Calls (content_codes c.args.name.now)) s.holds_link
    none rest h.holds_link h.by in
    record { by = shown.by; holds_link = shown.holds_link_is }

pub returns-clause-sound : goal.returns-clause-sound
returns-clause-sound g c =
    let s = c.args.self.now in
    let o = c.in-Some.label in
    let out = changes.sound_popped s.rows.items s.runs.items s.slots.items s.labels.items c.pop.new.self.items o c.in-Some.ensures.items
    c.requires.sound.outside in
    let pushed : c.push.new.self.items ≡ take o.row s.rows.items ++ Call c.args.name ∷ [] =
    c.in_ok-push.ensures.items ∙ ap (λ xs. xs ++ Call c.args.name ∷ []) c.truncate.ensures.items in
    let size : length c.push.new.self.items ≡ o.row + 1 =
    ap length pushed ∙ length-append (take o.row s.rows.items) (Call c.args.name ∷ [])
    ∙ ap (λ n. n + 1) (length-take-le o.row s.rows.items (omega (arith, out.0))) in
    let kept = changes.sound_formed s.rows.items c.push.new.self.items s.runs.items s.slots.items o (reverse c.pop.new.self.items) (omega (arith, size)) out in
    record {
      within =
          subst (λ x. AreWithin x c.truncate-3.new.self.items (length c.push.new.self.items)) (sym c.truncate-2.ensures.items)
          (subst (λ x. AreWithin (take o.runs s.runs.items) x (length c.push.new.self.items)) (sym c.truncate-3.ensures.items) kept.within);
      outside =
          subst (λ x. AreOutside (reverse c.pop.new.self.items) (length c.push.new.self.items) x c.truncate-3.new.self.items) (sym c.truncate-2.ensures.items)
          (subst (AreOutside (reverse c.pop.new.self.items) (length c.push.new.self.items) (take o.runs s.runs.items))
          (sym c.truncate-3.ensures.items) kept.outside);
    }

pub returns-clause-read : goal.returns-clause-read
returns-clause-read g c leads at r h =
    let s = c.args.self.now in
    let o = c.in-Some.label in
    let inner = forming.is_inner leads at s.rows.items s.runs.items s.slots.items o (reverse c.pop.new.self.items) r.open_labels r.now.tokens
    (subst (λ os. ShowsBy leads at s.rows.items s.runs.items s.slots.items os r.open_labels r.now.tokens)
    (changes.popped s.labels.items c.pop.new.self.items o c.in-Some.ensures.items) h.by) in
    let pushed : c.push.new.self.items ≡ take o.row s.rows.items ++ Call c.args.name ∷ [] =
    c.in_ok-push.ensures.items ∙ ap (λ xs. xs ++ Call c.args.name ∷ []) c.truncate.ensures.items in
    let shown =
    changes.last_called leads at s.rows.items c.push.new.self.items s.runs.items c.truncate-2.new.self.items s.slots.items c.truncate-3.new.self.items o
    (reverse c.pop.new.self.items)
    r.open_labels r.now (Call c.args.name) (content_codes c.args.name.now) c.around_holds_link-self.result c.makes_link.result inner refl pushed
    c.truncate-2.ensures.items c.truncate-3.ensures.items
    c.around_holds_link-self.ensures (c.makes_link.ensures ∙ ap (makes_link (start_view o.start)) h.holds_link) in
    record { by = shown.by; holds_link = shown.holds_link_is }
