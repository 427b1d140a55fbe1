use Rattle.std.proofs.Common.{[], ◌++◌, ap, string_bytes, ◌∙◌}
use Rattle.std.specs.Prelude.{unwrap_or}
use Rattle.html_safe_page.specs.Reader.{read_text}
use Rattle.html_sanitizer.specs.Elements.{run_at}
use Rattle.html_sanitizer.specs.Page.{page_state}
use Rattle.html_sanitizer.specs.Sanitized.{page_after}
use Rattle.html_sanitizer.proofs.Nameless.{run_inside, raw_passed}
use Rattle.html_sanitizer.proofs.listed.push_marked.Goals as goal

pub returns-clause-printed : goal.returns-clause-printed
returns-clause-printed g c =
    let names = g.T.Tables.reference_of c.args.tables.now in
    let options = c.args.options.now in
    let rest = c.args.rest.now in
    let first = run_inside rest c.requires in
    let run = run_at rest in
    raw_passed names options (page_state c.args.page.now) (page_state c.push_raw.new.page) rest first.0 (string_bytes c.push_elements.new.out)
    (string_bytes c.push_read.new.out) c.in_ok-after.after.now first.1
    (c.in_ok-after.ensures.text ∙ ap (λ x. x ++ run.text) c.new-text.ensures.bytes)
    c.in_ok-after.ensures.rest
    (c.in_ok-push_read.ensures ∙ ap (λ x. unwrap_or (read_text x) []) c.as_str.ensures.value)
    (c.in_ok-push_raw.ensures ∙ ap (page_after names options (page_state c.args.page.now)) c.as_str-2.ensures.value)
