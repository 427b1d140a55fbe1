use Rattle.std.proofs.Common.{◌∙◌, ◌≤◌, length, ap, arith}
use Rattle.compile_strings.proofs.Prelude.{phase_at}
use Rattle.compile_strings.proofs.ColumnsLaw.{end_phase}
use Rattle.compile_strings.proofs.columns.Columns.reach.Goals as goal

pub returns-clause-counted : goal.returns-clause-counted
returns-clause-counted c =
    let within : c.min-end.result ≤ length c.args.bytes.now = omega (arith, c.min-end.ensures) in
    record { within = within; phase = c.phase_after.ensures.phase }

pub returns-clause-phase : goal.returns-clause-phase
returns-clause-phase c = c.phase_after.ensures.phase ∙ ap (phase_at c.args.bytes.now) c.min-end.ensures ∙ end_phase c.args.bytes.now c.args.index
