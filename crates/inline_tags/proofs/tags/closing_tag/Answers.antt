use Rattle.std.proofs.Common.{◌∙◌, sym}
use Rattle.inline_tags.proofs.Grammar.{closing_tag_reads}
use Rattle.inline_tags.proofs.tags.closing_tag.Goals as goal

pub returns : goal.returns
returns c = c.rest_after.ensures ∙ closing_tag_reads c.args.bytes.now (sym c.starts_with.ensures.value ∙ c.if-not-starts_with.false)
