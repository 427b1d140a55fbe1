use Rattle.markdown_engine.specs.Machine.{config}
use Rattle.engine_programs.specs.Rounds.{around_innermost}
use Rattle.state_labels.specs.Chunk.{part_link}
use Rattle.state_labels.proofs.chunk.around_part.Goals as goal

pub exit-requires : goal.exit-requires
exit-requires g c = around_innermost c.args.name (part_link (config c.args.tokenizer.now))
    (config c.args.tokenizer.now) _ _ c.in_ok-enter_part.ensures.became.config c.consume.ensures.config
