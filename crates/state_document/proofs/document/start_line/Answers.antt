use Rattle.std.proofs.Common.{refl}
use Rattle.state_document.specs.Document.{start_line}
use Rattle.state_document.specs.ViewLaws.{sees}
use Rattle.state_document.proofs.document.start_line.Goals as goal

pub returns : goal.returns
returns g c = sees (λ machine. g.R.LineReader.seen machine.reader) c.args.tokenizer.now c.begin_line.new.tokenizer c.begin_line.result
    start_line start_line refl refl c.begin_line.ensures
