use Rattle.markdown_engine.specs.Machine.{config}
use Rattle.engine_programs.specs.Rounds.{entered_over, on_ok}
use Rattle.engine_programs.proofs.around.begin.Goals as goal

pub returns-clause-open_events : goal.returns-clause-open_events
returns-clause-open_events g c = on_ok c.enter.result _ _ (λ h. entered_over c.args.name (config c.args.tokenizer.now) (config c.enter.new.self) h.config)
    c.enter.ensures.became
