use Rattle.std.proofs.Common.{◌≡◌, ◌≤◌, ◌+◌, ◌++◌, ℕ, length}
use Rattle.compile_rows.proofs.Prelude.{AreLeft, AreSpelled, LinkTexts, place, raws_by, rows_by, rows_view, Target, targets_by}
use Rattle.compile_rows.specs.declared.rows.Mode.TheVariants.{Text}
use Rattle.compile_rows.proofs.rows.text_rows.Given as goal

-- the rows so far, with those of the events that are left, are all
abbrev pub invariant-loop-event : goal.invariant-loop-event
invariant-loop-event g l =
    let names = g.T.Tables.reference_of l.texts.tables.now in
    let bytes = l.texts.bytes.now in
    record {
      skipped : l.walk.place.skipped + length l.rest ≤ length l.events;
      links : l.walk.place.links + length l.rest ≤ length l.events;
      targets : l.walk.targets + length l.rest ≤ length l.events;
      raw_texts : l.walk.raw_texts + length l.rest ≤ length l.events;
      left : (leads : Target → LinkTexts) (at : ℕ → LinkTexts) → AreSpelled names bytes leads at l.strings l.events
          → AreLeft at l.strings l.walk (targets_by names bytes leads l.rest) (raws_by bytes l.rest);
      read : (leads : Target → LinkTexts) (at : ℕ → LinkTexts) → AreSpelled names bytes leads at l.strings l.events
          → rows_view at l.walk.rows.items ++ rows_by names bytes leads l.texts.linked l.walk.place l.rest
          ≡ rows_by names bytes leads l.texts.linked (place Text 0 0) l.events;
    }

abbrev pub decreases-loop-event : goal.decreases-loop-event
decreases-loop-event g l = length l.rest
