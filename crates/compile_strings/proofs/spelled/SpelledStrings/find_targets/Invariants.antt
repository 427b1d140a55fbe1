use Rattle.std.proofs.Common.{◌≡◌, ◌≤◌, ℕ, List, [], drop, length}
use Rattle.compile_strings.proofs.Prelude.{AreHeld, Definition, HaveRaws, HaveTargets, labels_of, leads_to, linked_at, linked_by, PlacesFit, Spot, targets_by}
use Rattle.inline_labels.specs.Table.{HasLabels}
use Rattle.compile_strings.proofs.spelled.SpelledStrings.find_targets.Given as goal

-- the last events were read
abbrev pub invariant-loop-end : goal.invariant-loop-end
invariant-loop-end g l =
    record {
      held : AreHeld l.events (drop l.end l.events) l.open;
      targets : (ds : List Definition) (at : Spot) → HasLabels l.texts.definitions.now (labels_of ds) → PlacesFit l.texts.bytes.now at l.events →
          l.initial.self.targets.items ≡ [] →
          HaveTargets (linked_at ds) l.self
          (targets_by (g.T.Tables.reference_of l.texts.tables.now) l.texts.bytes.now (leads_to (linked_by ds)) (drop l.end l.events));
      raws : (ds : List Definition) (at : Spot) (raws : List (List ℕ)) → HasLabels l.texts.definitions.now (labels_of ds) →
          PlacesFit l.texts.bytes.now at l.events → HaveRaws l.initial.self [] raws → HaveRaws l.self [] raws;
      within : l.end ≤ length l.events;
    }

abbrev pub decreases-loop-end : goal.decreases-loop-end
decreases-loop-end g l = l.end
