use Rattle.std.proofs.Common.{refl}
use Rattle.state_reader.specs.Flow.{flow_seen}
use Rattle.state_reader.proofs.Ranges.{has_finished}
use Rattle.state_reader.proofs.flow.finish.Goals as goal

pub returns-clause-finished : goal.returns-clause-finished
returns-clause-finished g c =
    let k = c.resume-tokenizer.ensures in
    has_finished c.resume-tokenizer.result.0 c.flush.new.self c.resume-tokenizer.result.1 c.args.parse_state.now (flow_seen c.args.flow) (flow_seen c.pause.result)
    k.halt k.skips k.parse_state k.end (c.in_ok-flush.ensures.halts refl) c.pause.ensures.halt c.pause.ensures.skips c.pause.ensures.end
