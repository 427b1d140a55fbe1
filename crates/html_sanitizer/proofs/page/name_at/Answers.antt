use Rattle.inline_references.proofs.Table.{now_at}
use Rattle.html_sanitizer.proofs.page.name_at.Goals as goal

pub returns : goal.returns
returns c = now_at c.args.names.now c.args.place _ c.requires
