use Rattle.std.proofs.Common.{◌≡◌, [], sym, ◌∙◌, reverse}
use Rattle.std.specs.Prelude.{vec_len}
use Rattle.std.proofs.lemmas.List.{append-nil}
use Rattle.inline_reading.proofs.Changes as changes
use Rattle.inline_reading.proofs.reading.Reading.unform.Goals as goal

pub returns-in-Some-clause-sound : goal.returns-in-Some-clause-sound
returns-in-Some-clause-sound g c =
    let s = c.args.self.now in
    let kept = changes.sound_unformed s.rows.items s.runs.items s.slots.items c.in-Some.label (reverse c.pop.new.self.items) c.requires.sound.within
    (changes.sound_popped s.rows.items s.runs.items s.slots.items s.labels.items c.pop.new.self.items c.in-Some.label c.in-Some.ensures.items
    c.requires.sound.outside) in
    record { within = kept.within; outside = kept.outside }

pub returns-in-Some-clause-read : goal.returns-in-Some-clause-read
returns-in-Some-clause-read g c leads at r h =
    let s = c.args.self.now in
    let shown =
    changes.last_unformed leads at s.rows.items s.runs.items s.slots.items s.labels.items c.pop.new.self.items c.in-Some.label r.open_labels r.now s.holds_link
    c.in-Some.ensures.items h.holds_link h.by in
    record { by = shown.by; holds_link = c.around_holds_link-self.ensures ∙ shown.holds_link_is }

pub returns-in_default-clause-read : goal.returns-in_default-clause-read
returns-in_default-clause-read g c leads at r h =
    let s = c.args.self.now in
    let none = changes.nothing_there s.labels.items (vec_len s.labels) s.labels.ok.0 c.in_default.ensures.variant.1 in
    let rest : c.pop.new.self.items ≡ [] = sym (append-nil c.pop.new.self.items) ∙ sym c.in_default.ensures.items ∙ none in
    let shown =
    changes.none_unformed leads at s.rows.items s.runs.items s.slots.items s.labels.items c.pop.new.self.items r.open_labels r.now s.holds_link
    none rest h.holds_link h.by in
    record { by = shown.by; holds_link = shown.holds_link_is }
