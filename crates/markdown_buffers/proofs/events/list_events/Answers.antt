use Rattle.std.proofs.Common.{◌<◌, arith}
use Rattle.markdown_c_options.specs.Flags.{AreFlags, ReadByFlags}
use Rattle.markdown_buffers.proofs.Listed.{events_meant}
use Rattle.markdown_buffers.proofs.Statuses.{known_options}
use Rattle.markdown_buffers.proofs.events.list_events.Goals as goal

pub returns-clause-cause : goal.returns-clause-cause
returns-clause-cause g c =
    let known : c.args.flags < 2048 = omega (arith, c.if-flags-gt-ALL.false) in
    known_options (AreFlags c.args.flags) c.args.text.now c.list_by.result known c.list_by.ensures.cause

pub returns-clause-events : goal.returns-clause-events
returns-clause-events g c =
    events_meant (ReadByFlags c.args.flags) c.flagged_parse_options-options.result c.args.text.now c.args.array.now _ _ _
    c.flagged_parse_options-options.ensures.options c.list_by.ensures.events
