use Rattle.std.proofs.lemmas.Result.{IfOk-weaker}
use Rattle.state_parser.specs.LastLinesLaws.{last_lines_are}
use Rattle.state_parser.proofs.containers.last_lines.Goals as goal

pub returns : goal.returns
returns g c = IfOk-weaker c.raised_lines.result _ _ (λ last h. last_lines_are c.args.lines.now c.args.spans.now last.items c.requires h) c.raised_lines.ensures
