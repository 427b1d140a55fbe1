use Rattle.inline_text.proofs.LetterRuns.{run_from}
use Rattle.inline_text.proofs.letters.run_in.Goals as goal

pub returns : goal.returns
returns c = run_from c.args.stops c.args.bytes.now c.args.at c.lanes_before.result c.lanes_before.ensures
