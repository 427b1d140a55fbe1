use Rattle.std.proofs.Common.{sym, ◌∙◌}
use Rattle.inline_reading.proofs.LabelStarts.{image_starts, link_starts}
use Rattle.inline_reading.proofs.label_start.label_start_at.Goals as goal

pub returns-then-starts_image-clause-front : goal.returns-then-starts_image-clause-front
returns-then-starts_image-clause-front c = image_starts c.args.on.now c.args.rest.now (sym c.starts_image.ensures ∙ c.if-starts_image.true)

pub returns-then-starts_link-clause-front : goal.returns-then-starts_link-clause-front
returns-then-starts_link-clause-front c = link_starts c.args.on.now c.args.rest.now (sym c.starts_link.ensures ∙ c.if-starts_link.true)
