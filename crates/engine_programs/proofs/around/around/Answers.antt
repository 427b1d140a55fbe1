use Rattle.std.proofs.Common.{None}
use Rattle.markdown_engine.specs.Machine.{config}
use Rattle.engine_programs.specs.Rounds.{around_innermost, around_opened, on_ok}
use Rattle.engine_programs.proofs.around.around.Goals as goal

pub exit-requires : goal.exit-requires
exit-requires g c = around_innermost c.args.name None (config c.args.tokenizer.now) _ _ c.in_ok-enter.ensures.became.config c.consume.ensures.config

pub returns-clause-open_events : goal.returns-clause-open_events
returns-clause-open_events g c =
    on_ok c.exit.result _ _ (λ h. around_opened c.args.name None (config c.args.tokenizer.now) (config c.enter.new.self) (config c.consume.new.self)
    (config c.exit.new.self) c.in_ok-enter.ensures.became.config c.consume.ensures.config h.config) c.exit.ensures.became
