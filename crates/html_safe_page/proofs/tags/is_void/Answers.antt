use Rattle.std.proofs.Common.{◌∙◌, ◌||◌, ap, sym}
use Rattle.std.specs.Option.{is_some}
use Rattle.html_safe_page.specs.Table.{more_void_rows, void_rows_of}
use Rattle.html_safe_page.specs.SafePage.{void_end}
use Rattle.html_safe_page.specs.Reader.{read_tag}
use Rattle.html_safe_page.proofs.Follow.{same_some}
use Rattle.html_safe_page.proofs.Frequent.{void_read}
use Rattle.html_safe_page.proofs.tags.is_void.Goals as goal

pub returns-then-basic : goal.returns-then-basic
returns-then-basic c =
    let tag = c.args.tag.now in
    let more = is_some (read_tag more_void_rows void_end tag) in
    c.if-basic.true
    ∙ sym (ap (λ t. t || more) (sym c.is_basic_void-basic.ensures ∙ c.if-basic.true))
    ∙ void_read tag
    ∙ sym (ap (λ t. is_some (read_tag (void_rows_of t) void_end tag)) c.in-Extended.is)

pub returns-else-basic : goal.returns-else-basic
unfolding more_void_rows
returns-else-basic c =
    let tag = c.args.tag.now in
    let more = is_some (read_tag more_void_rows void_end tag) in
    c.is_some.ensures
    ∙ same_some c.tag_name.result (read_tag more_void_rows void_end tag) c.tag_name.ensures
    ∙ sym (ap (λ t. t || more) (sym c.is_basic_void-basic.ensures ∙ c.if-basic.false))
    ∙ void_read tag
    ∙ sym (ap (λ t. is_some (read_tag (void_rows_of t) void_end tag)) c.in-Extended.is)
