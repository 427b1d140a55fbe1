use Rattle.std.proofs.Common.{◌∙◌}
use Rattle.parse_output.proofs.Plain.{plain_to}
use Rattle.parse_output.proofs.pass.pass_to.Goals as goal

pub returns-then-spot-ge-MARK_MAX-clause-same : goal.returns-then-spot-ge-MARK_MAX-clause-same
returns-then-spot-ge-MARK_MAX-clause-same c =
    c.pass_plain.ensures
    ∙ plain_to c.args.text.now c.args.spot c.args.plain c.args.index c.if-spot-ge-MARK_MAX.true c.requires.plain c.requires.after c.if-index-plain.true
    c.requires.within
