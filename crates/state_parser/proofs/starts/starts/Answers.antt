use Rattle.std.proofs.Common.{◌∙◌, List, sym, arith}
use Rattle.std.specs.List.{fold}
use Rattle.std.proofs.lemmas.List.{at_drop_all}
use Rattle.engine_events.specs.declared.event.Event.{Event}
use Rattle.state_parser.specs.Starts.{marked, start_indices}
use Rattle.state_parser.proofs.MarksLaws.{fold_marks}
use Rattle.state_parser.proofs.starts.starts.Goals as goal

pub returns-clause-starts : goal.returns-clause-starts
returns-clause-starts g c =
    let events = c.args.events.now in
    let marks = c.loop-index.marks.items in
    fold_marks (start_indices events) marks
    (sym (at_drop_all (λ (es : List Event). fold marked marks (start_indices es)) events c.loop-index.index (omega arith)) ∙ c.loop-index.invariant)
