use Rattle.std.proofs.Common.{◌∙◌, ap, sym}
use Rattle.html_safe_page.specs.Table.{more_start_rows}
use Rattle.html_safe_page.proofs.Frequent.{name_by, basic_kept, more_kept}
use Rattle.html_safe_page.proofs.tags.start_name.Goals as goal

pub returns-then-is_some : goal.returns-then-is_some
returns-then-is_some c =
    basic_kept c.args.table c.args.tag.now c.basic_name-basic.result (sym c.is_some.ensures ∙ c.if-is_some.true) c.basic_name-basic.ensures

pub returns-else-is_some : goal.returns-else-is_some
unfolding more_start_rows
returns-else-is_some c =
    more_kept c.args.tag.now c.basic_name-basic.result c.tag_name.result
    (sym c.is_some.ensures ∙ c.if-is_some.false) c.basic_name-basic.ensures c.tag_name.ensures
    ∙ sym (ap (λ t. name_by t c.args.tag.now) c.in-Extended.is)
