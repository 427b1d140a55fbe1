use Rattle.markdown_engine.specs.Machine.{read_with}
use Rattle.state_document.specs.ViewLaws.{leaf_sees}
use Rattle.state_document.proofs.blocks.call_leaf.Goals as goal

pub returns : goal.returns
returns g c = leaf_sees (λ machine. g.R.LineReader.seen machine.reader) c.args.tokenizer.now c.call.new.tokenizer c.call.result
    (read_with c.args.tokenizer.now) c.args.state c.call.ensures
