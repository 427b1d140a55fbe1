use Rattle.state_verdicts.proofs.FlowChoiceReads.{flow_indent_choice}
use Rattle.state_verdicts.proofs.flow.flow_indent_choice.Goals as goal

pub returns : goal.returns
returns g c = flow_indent_choice _
