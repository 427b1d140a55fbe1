use Rattle.std.proofs.Common.{rules, ◌<◌, arith}
use Rattle.markdown_c_options.specs.Flags.{AreFlags, MeanFlags}
use Rattle.markdown_buffers.proofs.Pages.{page_meant}
use Rattle.markdown_buffers.proofs.Statuses.{known_options}
use Rattle.markdown_buffers.proofs.convert.convert.Goals as goal

pub returns-clause-cause : goal.returns-clause-cause
returns-clause-cause g c =
    let known : c.args.flags < 2048 = omega (arith, c.if-flags-gt-ALL.false) in
    known_options (AreFlags c.args.flags) c.args.text.now c.convert_by.result known c.convert_by.ensures.cause

pub returns-clause-page : goal.returns-clause-page
returns-clause-page g c =
    let means : MeanFlags c.args.flags c.deref.result.now = search rules in
    page_meant (MeanFlags c.args.flags) c.deref.result.now c.args.text.now c.args.buffer.now _ _ _ means c.convert_by.ensures.page
