use Rattle.markdown_engine.specs.Machine.{config}
use Rattle.engine_programs.specs.Rounds.{exited_kept, exited_outer, on_ok}
use Rattle.engine_programs.proofs.around.leave.Goals as goal

pub returns-clause-open_events : goal.returns-clause-open_events
returns-clause-open_events g c = on_ok c.exit.result _ _ (λ h. exited_outer c.args.name (config c.args.tokenizer.now) (config c.exit.new.self) h.config)
    c.exit.ensures.became

pub returns-clause-kept : goal.returns-clause-kept
returns-clause-kept g c = on_ok c.exit.result _ _ (λ h. exited_kept c.args.name (config c.args.tokenizer.now) (config c.exit.new.self) h.config)
    c.exit.ensures.became
