use Rattle.std.proofs.Common.{rules, ◌≡◌, subst}
use Rattle.markdown_c_options.specs.FlatOptions.{IsKnown}
use Rattle.markdown_buffers.specs.Sanitized.{compile_options_of, StoresSanitized}
use Rattle.markdown_buffers.proofs.Statuses.{known_options}
use Rattle.markdown_buffers.proofs.sanitize.sanitize_with.Goals as goal

pub returns-clause-cause : goal.returns-clause-cause
returns-clause-cause g c =
    let known : IsKnown c.args.options.now = search rules in
    known_options (IsKnown c.args.options.now) c.args.html.now c.sanitize_by.result known c.sanitize_by.ensures.cause

pub returns-clause-page : goal.returns-clause-page
returns-clause-page g c =
    let same : c.deref.result.now.compile ≡ compile_options_of c.args.options.now = search rules in
    subst (λ it. StoresSanitized it c.args.html.now c.args.buffer.now c.sanitize_by.new.buffer c.sanitize_by.new.size c.sanitize_by.result) same
    c.sanitize_by.ensures.page
