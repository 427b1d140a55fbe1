use Rattle.std.proofs.Common.{◌≡◌, [], length}
use Rattle.event_references.proofs.Prelude.{lost_from, map, media_view, new_media, reverse, texts_of}
use Rattle.engine_events.specs.declared.event.Name.TheVariants as names
use Rattle.event_references.specs.Views.{AreLabels}
use Rattle.event_references.proofs.Loops.{run_marks, AreBelow}
use Rattle.event_references.proofs.lost.first_lost.Given as goal

-- what leads nowhere first among the events that are left does so among all
abbrev pub invariant-loop-mark : goal.invariant-loop-mark
invariant-loop-mark g l =
    let links = texts_of l.bytes names.DefinitionLabelString l.events in
    let footnotes = texts_of l.bytes names.GfmFootnoteDefinitionLabelString l.events in
    record {
      rest : run_marks l.bytes links footnotes l.events (media_view l.bytes l.events l.open.inner)
          (map (media_view l.bytes l.events) (reverse l.open.outer.items)) l.left
          ≡ lost_from l.bytes links footnotes new_media [] 0 l.events;
      below : AreBelow l.bytes links footnotes l.events (length l.events) l.left;
      links : AreLabels l.bytes l.events names.DefinitionLabelString l.definitions.links;
      footnotes : AreLabels l.bytes l.events names.GfmFootnoteDefinitionLabelString l.definitions.footnotes;
    }

abbrev pub decreases-loop-mark : goal.decreases-loop-mark
decreases-loop-mark g l = length l.left
