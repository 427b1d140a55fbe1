use Rattle.std.proofs.Common.{◌∙◌, ℕ, sym, ap}
use Rattle.event_grammar.specs.Phases.{is_column_by}
use Rattle.event_faults.proofs.place.known_at.Goals as goal

pub returns-then-is_column-clause-answer : goal.returns-then-is_column-clause-answer
returns-then-is_column-clause-answer c =
    sym (ap (λ (z : ℕ). is_column_by c.args.bytes.now c.args.to z) (sym c.phase_after-next.ensures.phase) ∙ (sym c.is_column.ensures ∙ c.if-is_column.true))

pub returns-else-is_column-clause-answer : goal.returns-else-is_column-clause-answer
returns-else-is_column-clause-answer c =
    sym (ap (λ (z : ℕ). is_column_by c.args.bytes.now c.args.to z) (sym c.phase_after-next.ensures.phase) ∙ (sym c.is_column.ensures ∙ c.if-is_column.false))
