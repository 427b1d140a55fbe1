use Rattle.std.proofs.Common.{◌∙◌, sym}
use Rattle.compile_levels.proofs.Last.{last_name, no_name}
use Rattle.compile_levels.proofs.node.ends_in.Goals as goal

pub returns-in-None : goal.returns-in-None
returns-in-None c = λ ns k x. no_name c.args.name ns c.args.events.now x (sym c.in-None.ensures.value)

pub returns-in-Some : goal.returns-in-Some
returns-in-Some c = λ ns k x. c.eq.ensures ∙ last_name c.args.name ns k c.args.events.now x c.in-Some.event.now (sym c.in-Some.ensures.value)
