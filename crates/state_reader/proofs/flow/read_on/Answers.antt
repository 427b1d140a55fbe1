use Rattle.state_reader.specs.Flow.{flow_seen}
use Rattle.state_reader.proofs.Ranges.{has_read, not_refused}
use Rattle.state_reader.proofs.flow.read_on.Goals as goal

pub returns-clause-read : goal.returns-clause-read
returns-clause-read g c =
    let k = c.resume-tokenizer.ensures in
    has_read c.resume-tokenizer.result.0 c.push-next.new.self c.resume-tokenizer.result.1 c.args.parse_state.now
    (flow_seen c.args.flow) (flow_seen c.pause.result) k.halt k.skips k.parse_state c.args.from c.args.to c.push-next.result c.push-next.ensures.halts
    (λ failed. not_refused c.push-next.result c.in_default.not-Error (c.push-next.ensures.refused failed))
    c.pause.ensures.halt c.pause.ensures.skips c.pause.ensures.end
