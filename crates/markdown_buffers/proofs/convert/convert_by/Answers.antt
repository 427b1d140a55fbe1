use Rattle.std.proofs.Common.{rules, ◌≡◌, ◌<◌, ◌≤◌, ap, ◌∙◌, refl, length, string_bytes}
use Rattle.markdown_definition.specs.Html.{html}
use Rattle.markdown_tables.specs.Builtin.{builtin_tables}
use Rattle.markdown_buffers.proofs.Pages.{page_in_buffer, page_without_room}
use Rattle.markdown_buffers.proofs.convert.convert_by.Goals as goal

pub returns-then-size-buffer-clause-page : goal.returns-then-size-buffer-clause-page
returns-then-size-buffer-clause-page g c =
    let page = string_bytes c.in-Ok-page_of.page in
    let said : c.len.result ≡ length page = search rules in
    let more : length c.args.buffer.now < c.len.result = search rules in
    page_without_room c.args.options.now c.args.text.now page c.args.buffer.now _ c.len.result 1
    (c.in-Ok-page_of.ensures ∙ ap (λ text. html builtin_tables text c.args.options.now) c.in-Ok.ensures.cases.0) refl refl said more

pub returns-clause-page : goal.returns-clause-page
returns-clause-page g c =
    let page = string_bytes c.in-Ok-page_of.page in
    let said : c.len.result ≡ length page = search rules in
    let fits : c.len.result ≤ length c.args.buffer.now = search rules in
    page_in_buffer c.args.options.now c.args.text.now page c.args.buffer.now _ c.len.result 0
    (c.in-Ok-page_of.ensures ∙ ap (λ text. html builtin_tables text c.args.options.now) c.in-Ok.ensures.cases.0) refl (search rules) said fits
