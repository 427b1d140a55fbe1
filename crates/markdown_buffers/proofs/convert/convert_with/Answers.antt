use Rattle.std.proofs.Common.{rules}
use Rattle.markdown_c_options.specs.FlatOptions.{IsKnown, StandsFor}
use Rattle.markdown_buffers.proofs.Pages.{page_meant}
use Rattle.markdown_buffers.proofs.Statuses.{known_options}
use Rattle.markdown_buffers.proofs.convert.convert_with.Goals as goal

pub returns-in-Ok-clause-cause : goal.returns-in-Ok-clause-cause
returns-in-Ok-clause-cause g c =
    let known : IsKnown c.args.options.now = search rules in
    known_options (IsKnown c.args.options.now) c.args.text.now c.convert_by.result known c.convert_by.ensures.cause

pub returns-in-Ok-clause-page : goal.returns-in-Ok-clause-page
returns-in-Ok-clause-page g c =
    page_meant (StandsFor c.args.options.now) c.in-Ok.options c.args.text.now c.args.buffer.now _ _ _ c.in-Ok.ensures.options c.convert_by.ensures.page
