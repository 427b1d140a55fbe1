use Rattle.std.proofs.Common.{rules}
use Rattle.markdown_c_options.specs.FlatOptions.{IsKnown, ReadsBy}
use Rattle.markdown_buffers.proofs.ListedOutline.{outline_meant}
use Rattle.markdown_buffers.proofs.Statuses.{known_options}
use Rattle.markdown_buffers.proofs.outline.list_outline_with.Goals as goal

pub returns-clause-cause : goal.returns-clause-cause
returns-clause-cause g c =
    let known : IsKnown c.args.options.now = search rules in
    known_options (IsKnown c.args.options.now) c.args.text.now c.list_by.result known c.list_by.ensures.cause

pub returns-clause-outline : goal.returns-clause-outline
returns-clause-outline g c =
    outline_meant (ReadsBy c.args.options.now) c.parse_options_of-options.result c.args.text.now c.args.array.now _ _ c.args.buffer.now _ _ _
    c.parse_options_of-options.ensures.options c.list_by.ensures.outline
