use Rattle.std.proofs.Common.{◌++◌, ap, string_bytes, sym, ◌∙◌}
use Rattle.definition_html.specs.State.{entered, says}
use Rattle.html_sanitizer.specs.Elements.{in_brackets}
use Rattle.html_sanitizer.specs.Page.{levels_of, page_state}
use Rattle.html_sanitizer.proofs.Plain.{end_plain, void_plain, start_plain}
use Rattle.html_sanitizer.proofs.listed.pass_own.Goals as goal

pub returns-then-is_end : goal.returns-then-is_end
returns-then-is_end g c = λ run.
    let page = c.args.page.now in
    let inside = c.args.inside.now in
    ap (says (run ++ in_brackets inside)) c.leave.ensures
    ∙ end_plain run inside (string_bytes page.out) page.level.in_heading (levels_of page.around.items) page.level.names.items c.requires
    (sym c.is_end.ensures ∙ c.if-is_end.true)

pub returns-then-is_void : goal.returns-then-is_void
returns-then-is_void g c = λ run.
    let page = c.args.page.now in
    void_plain run c.args.inside.now (string_bytes page.out) page.level.in_heading (levels_of page.around.items) page.level.names.items c.requires
    (sym c.is_end.ensures ∙ c.if-is_end.false) (sym c.is_void.ensures ∙ c.if-is_void.true)

pub returns : goal.returns
returns g c = λ run.
    let page = c.args.page.now in
    let inside = c.args.inside.now in
    ap (says (run ++ in_brackets inside)) (c.in_ok-enter.ensures ∙ ap (λ name. entered name (page_state page)) c.first_name.ensures)
    ∙ start_plain run inside (string_bytes page.out) page.level.in_heading (levels_of page.around.items) page.level.names.items c.requires
    (sym c.is_end.ensures ∙ c.if-is_end.false) (sym c.is_void.ensures ∙ c.if-is_void.false)
