use Rattle.std.proofs.Common.{◌≡◌, ap, ◌∙◌, subst, length}
use Rattle.markdown_buffers.specs.Pages.{HoldsPage}
use Rattle.markdown_buffers.specs.Sanitized.{kept}
use Rattle.markdown_buffers.proofs.Sanitized.{page_written}
use Rattle.markdown_buffers.proofs.sanitize.sanitize_by.Goals as goal

pub returns-clause-page : goal.returns-clause-page
returns-clause-page g c =
    let page = kept c.args.options.now c.args.html.now in
    let same : c.as_str.result.now ≡ page =
    c.as_str.ensures.value ∙ c.in-Ok-sanitized_html.ensures.page ∙ ap (kept c.args.options.now) c.in-Ok.ensures.cases.0 in
    page_written c.args.options.now c.args.html.now c.args.buffer.now _ _ _ c.write_text.ensures.statuses
    (λ e. subst (λ it. HoldsPage it c.args.buffer.now c.write_text.new.buffer) same (c.write_text.ensures.ok e)) c.write_text.ensures.unchanged
    (c.write_text.ensures.stored ∙ ap length same) c.write_text.ensures.room.0 c.write_text.ensures.room.1
