use Rattle.std.proofs.Common.{◌+◌, ◌≤◌, rules}
use Rattle.engine_edits.proofs.Steps.{next_within}
use Rattle.engine_edits.proofs.edit_map.EditMap.is_ordered.Goals as goal

pub returns-then-not-ends_within-clause-no : goal.returns-then-not-ends_within-clause-no
returns-then-not-ends_within-clause-no g c e o =
    let h = next_within c.edits.from c.args.count c.edits.at-iterator c.next.new.self (
      c.in-Some.at.now,
      c.in-Some.edit.now,
    ) c.in-Some.ensures.steps (c.edits.invariant.2 o) in
    let high : c.in-Some.at.now + c.in-Some.edit.now.remove ≤ c.args.count = h.1 in
    search (rules, high)
