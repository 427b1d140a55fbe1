use Rattle.std.proofs.Common.{map, refl, reverse}
use Rattle.inline_rows.specs.View.{line_leaf}
use Rattle.inline_reading.proofs.Changes as changes
use Rattle.inline_reading.proofs.reading.Reading.verbatim.Goals as goal

pub returns-clause-sound : goal.returns-clause-sound
returns-clause-sound g c =
    let s = c.args.self.now in
    let kept = changes.sound_pushed s.rows.items c.push.new.self.items _ s.runs.items s.slots.items
    (reverse s.labels.items) c.in_ok-push.ensures.items c.requires.sound.within c.requires.sound.outside in
    record { within = kept.within; outside = kept.outside }

pub returns-clause-read : goal.returns-clause-read
returns-clause-read g c leads at r h =
    let s = c.args.self.now in
    record {
      by = changes.leaves_pushed leads at s.rows.items c.push.new.self.items _ s.runs.items s.slots.items (reverse s.labels.items) r.open_labels r.now.tokens
          (map line_leaf c.args.verbatim.text.now) c.in_ok-push.ensures.items h.by refl;
      holds_link = h.holds_link;
    }
