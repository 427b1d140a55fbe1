use Rattle.std.proofs.Common.{refl, ap, ◌∙◌}
use Rattle.inline_rows.specs.View.{data_rows}
use Rattle.inline_reading.specs.Shows.{start_view}
use Rattle.inline_reading.proofs.Changes as changes
use Rattle.inline_reading.proofs.reading.Reading.start.Goals as goal

pub returns-clause-sound : goal.returns-clause-sound
returns-clause-sound g c =
    let s = c.args.self.now in
    let kept =
    changes.sound_started s.rows.items c.push-2.new.self.items _ s.runs.items s.slots.items s.labels.items c.push.new.self.items _ c.in_ok-push-2.ensures.items
    c.in_ok-push.ensures.items
    (c.len.ensures ∙ s.rows.ok.0) (c.len-2.ensures ∙ s.runs.ok.0) c.requires.sound.within c.requires.sound.outside in
    record { within = kept.within; outside = kept.outside }

pub returns-clause-read : goal.returns-clause-read
returns-clause-read g c leads at r h =
    let s = c.args.self.now in
    record {
      by =
          changes.start_pushed leads at s.rows.items c.push-2.new.self.items _ s.runs.items s.slots.items s.labels.items c.push.new.self.items _
          (record { start = start_view c.args.start; from = _; outer = r.now }) r.open_labels c.in_ok-push-2.ensures.items c.in_ok-push.ensures.items
          (record { start = refl; row = c.len.ensures ∙ s.rows.ok.0; runs = c.len-2.ensures ∙ s.runs.ok.0; from = refl; holds_link = h.holds_link })
          (ap data_rows c.requires.text) h.by;
      holds_link = refl;
    }
