use Rattle.std.proofs.Common.{◌∙◌}
use Rattle.markdown_engine.proofs.ChainSteps.{place_read}
use Rattle.markdown_engine.proofs.chains.place_at.Goals as goal

pub returns : goal.returns
returns c = c.point.ensures ∙ place_read c.args.events.now c.args.index _ c.requires
