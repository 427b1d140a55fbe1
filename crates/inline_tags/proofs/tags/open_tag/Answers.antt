use Rattle.std.proofs.Common.{◌∙◌, sym}
use Rattle.inline_tags.proofs.Grammar.{open_tag_reads}
use Rattle.inline_tags.proofs.tags.open_tag.Goals as goal

pub returns : goal.returns
returns c = c.rest_after.ensures ∙ open_tag_reads c.args.bytes.now (sym c.starts_with.ensures.value ∙ c.if-not-starts_with.false)
