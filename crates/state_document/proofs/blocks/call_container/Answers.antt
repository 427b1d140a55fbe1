use Rattle.markdown_engine.specs.Machine.{read_with}
use Rattle.state_document.specs.ViewLaws.{container_sees}
use Rattle.state_document.proofs.blocks.call_container.Goals as goal

pub returns : goal.returns
returns g c = container_sees (λ machine. g.R.LineReader.seen machine.reader) c.args.tokenizer.now c.call.new.tokenizer c.call.result
    (read_with c.args.tokenizer.now) c.args.state c.call.ensures
