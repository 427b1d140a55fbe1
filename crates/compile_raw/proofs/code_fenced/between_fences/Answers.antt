use Rattle.std.proofs.Common.{sym, ap, is_some}
use Rattle.compile_raw.proofs.Prelude.{after_child, before_child, child, events_of, Nodes}
use Rattle.compile_raw.proofs.Children.{first_none}
use Rattle.compile_raw.proofs.Pieces.{after_nodes}
use Rattle.compile_raw.proofs.code_fenced.between_fences.Goals as goal

pub returns-in-None-clause-closed : goal.returns-in-None-clause-closed
returns-in-None-clause-closed c = λ ns k e.
    sym (ap (λ (x : Nodes). is_some (child c.args.fence x)) (first_none c.args.fence ns (c.in-None.ensures.nodes ns k e)).1)

pub returns-in-None-clause-lines : goal.returns-in-None-clause-lines
returns-in-None-clause-lines c = λ ns k e.
    sym (ap (λ (x : Nodes). events_of (before_child c.args.fence x)) (first_none c.args.fence ns (c.in-None.ensures.nodes ns k e)).1)

pub returns-in-Some-clause-closed : goal.returns-in-Some-clause-closed
returns-in-Some-clause-closed c = λ ns k e.
    let f = c.in-Some.ensures.nodes ns k e in
    c.up_to_fence.ensures.closed (after_child c.args.fence ns) (after_nodes c.args.fence ns k) f.after

pub returns-in-Some-clause-lines : goal.returns-in-Some-clause-lines
returns-in-Some-clause-lines c = λ ns k e.
    let f = c.in-Some.ensures.nodes ns k e in
    c.up_to_fence.ensures.lines (after_child c.args.fence ns) (after_nodes c.args.fence ns k) f.after
