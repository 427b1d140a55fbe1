use Rattle.std.proofs.Common.{◌≡◌}
use Rattle.state_label_ends.specs.Definitions.{label_text}
use Rattle.state_label_ends.proofs.definitions.label_text.Given as goal

-- the text of the events so far
abbrev pub invariant-loop-index : goal.invariant-loop-index
invariant-loop-index g l = l.text.items ≡ label_text l.bytes l.events l.from l.index
