use Rattle.std.proofs.Common.{◌∙◌}
use Rattle.html_safe_page.specs.Table.{void_rows}
use Rattle.html_safe_page.specs.SafePage.{void_end}
use Rattle.html_safe_page.specs.Reader.{read_tag}
use Rattle.html_safe_page.proofs.Follow.{same_some}
use Rattle.html_safe_page.proofs.tags.is_basic_void.Goals as goal

pub returns : goal.returns
unfolding void_rows
returns c = c.is_some.ensures ∙ same_some c.tag_name.result (read_tag void_rows void_end c.args.tag.now) c.tag_name.ensures
