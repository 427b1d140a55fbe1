use Rattle.std.proofs.Common.{rules}
use Rattle.markdown_c_options.specs.Switches.{AreNumbers, MeanNumbers}
use Rattle.markdown_buffers.proofs.Pages.{page_meant}
use Rattle.markdown_buffers.proofs.Statuses.{known_options}
use Rattle.markdown_buffers.proofs.convert.convert_by_numbers.Goals as goal

pub returns-clause-cause : goal.returns-clause-cause
returns-clause-cause g c =
    let known : AreNumbers c.args.constructs c.args.switches c.args.line_ending = search rules in
    known_options (AreNumbers c.args.constructs c.args.switches c.args.line_ending) c.args.text.now c.convert_by.result known c.convert_by.ensures.cause

pub returns-clause-page : goal.returns-clause-page
returns-clause-page g c =
    let means : MeanNumbers c.args.constructs c.args.switches c.args.line_ending c.deref.result.now = search rules in
    page_meant (MeanNumbers c.args.constructs c.args.switches c.args.line_ending) c.deref.result.now c.args.text.now c.args.buffer.now _ _ _
    means c.convert_by.ensures.page
