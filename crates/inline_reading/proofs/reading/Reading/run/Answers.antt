use Rattle.std.proofs.Common.{[], ◌∷◌, ◌++◌, ap, ◌∙◌, reverse}
use Rattle.std.specs.Prelude.{replicate}
use Rattle.std.proofs.lemmas.List.{length-replicate}
use Rattle.inline_rows.specs.declared.row.InlineRow.TheVariants.{Text}
use Rattle.inline_reading.proofs.Changes as changes
use Rattle.inline_reading.proofs.reading.Reading.run.Goals as goal

pub returns-clause-sound : goal.returns-clause-sound
returns-clause-sound g c =
    let s = c.args.self.now in
    let r = c.args.run in
    let kept =
    changes.sound_run s.rows.items c.push_copies.new.rows.items (replicate r.size (Text c.args.byte)) r s.runs.items c.push-2.new.self.items s.slots.items
    c.push.new.self.items (reverse s.labels.items)
    c.in_ok-push_copies.ensures (length-replicate r.size (Text c.args.byte)) c.in_ok-push-2.ensures.items
    (c.in_ok-push.ensures.items ∙ ap (λ n. s.slots.items ++ n ∷ []) (c.len.ensures ∙ s.rows.ok.0))
    c.requires.sound.within c.requires.sound.outside in
    record { within = kept.within; outside = kept.outside }

pub returns-clause-read : goal.returns-clause-read
returns-clause-read g c leads at r h =
    let s = c.args.self.now in
    record {
      by =
          changes.run_pushed leads at s.rows.items c.push_copies.new.rows.items
          (Text c.args.byte) c.args.run s.runs.items c.push-2.new.self.items s.slots.items c.push.new.self.items (reverse s.labels.items)
          r.open_labels r.now.tokens c.in_ok-push_copies.ensures c.requires.byte c.in_ok-push-2.ensures.items
          (c.in_ok-push.ensures.items ∙ ap (λ n. s.slots.items ++ n ∷ []) (c.len.ensures ∙ s.rows.ok.0)) h.by;
      holds_link = h.holds_link;
    }
