use Rattle.state_verdicts.proofs.TaskCheckReads.{task_check_verdict}
use Rattle.state_verdicts.proofs.gfm_task_list_item.gfm_task_list_item_verdict.Goals as goal

pub returns : goal.returns
returns g c = task_check_verdict _
