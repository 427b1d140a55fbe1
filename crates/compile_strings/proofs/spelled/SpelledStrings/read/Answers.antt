use Rattle.std.proofs.Common.{◌∙◌}
use Rattle.compile_strings.proofs.Prelude.{leads_to, linked_at, linked_by, raws_by, targets_by}
use Rattle.compile_strings.proofs.JoinedLaw.{targets_view_is, raws_view_is, no_raws}
use Rattle.compile_strings.proofs.spelled.SpelledStrings.read.Goals as goal

pub returns-clause-spelled : goal.returns-clause-spelled
returns-clause-spelled g c = λ ds at labels fits.
    let names = g.T.Tables.reference_of c.args.texts.now.tables.now in
    let bytes = c.args.texts.now.bytes.now in
    let events = c.args.events.now in
    let raws = raws_by bytes events in
    record {
      targets =
          targets_view_is c.find_targets.new.self (linked_at ds) (targets_by names bytes (leads_to (linked_by ds)) events)
          (c.in_ok-find_targets.ensures.targets ds at labels fits (c.in_ok-join_raw_texts.ensures.targets ∙ c.new-2.ensures.items));
      raws =
          raws_view_is c.find_targets.new.self raws
          (c.in_ok-find_targets.ensures.raws ds at raws labels fits (c.in_ok-join_raw_texts.ensures.raws raws (no_raws _ raws c.new-3.ensures.items)));
    }
