use Rattle.std.proofs.Common.{sym, ap, ◌∙◌}
use Rattle.compile_raw.proofs.Prelude.{events_of}
use Rattle.compile_raw.proofs.Children.{no_child_before}
use Rattle.compile_raw.proofs.code_fenced.up_to_fence.Goals as goal

pub returns-in-None-clause-lines : goal.returns-in-None-clause-lines
returns-in-None-clause-lines c = λ ns k e.
    e ∙ sym (ap events_of (no_child_before c.args.fence ns (c.in-None.ensures.nodes ns k e)))
