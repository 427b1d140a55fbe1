use Rattle.std.proofs.Common.{◌∙◌, sym}
use Rattle.html_safe_page.specs.Table.{start_rows}
use Rattle.html_safe_page.proofs.Frequent.{link_read}
use Rattle.html_safe_page.proofs.tags.basic_name.Goals as goal

pub returns-then-starts_with : goal.returns-then-starts_with
unfolding start_rows
returns-then-starts_with c = c.tag_name.ensures ∙ link_read c.args.tag.now (sym c.starts_with.ensures.value ∙ c.if-starts_with.true)

pub returns : goal.returns
unfolding start_rows
returns c = c.tag_name-2.ensures
