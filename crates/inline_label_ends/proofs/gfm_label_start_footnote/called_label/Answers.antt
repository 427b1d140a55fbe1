use Rattle.std.proofs.Common.{sym}
use Rattle.inline_label_ends.proofs.Calls.{none_called}
use Rattle.inline_label_ends.specs.Ends.{is_among}
use Rattle.inline_label_ends.proofs.gfm_label_start_footnote.called_label.Goals as goal

pub returns-in-None : goal.returns-in-None
returns-in-None g c notes has = sym (none_called c.args.on.now (is_among notes) c.args.text.now c.in-None.ensures.cases)
