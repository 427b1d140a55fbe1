use Rattle.event_faults.proofs.check.Check.step.Goals as goal

pub returns-in-Enter-clause-step : goal.returns-in-Enter-clause-step
returns-in-Enter-clause-step g c = c.step_in.ensures.step (g.T.Tables.reference_of c.args.tables.now)
