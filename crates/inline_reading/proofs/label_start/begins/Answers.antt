use Rattle.std.proofs.Common.{sym, ◌∙◌}
use Rattle.std.proofs.lemmas.Str.Pattern.{starts_text}
use Rattle.inline_reading.proofs.LabelStarts.{begins_codes}
use Rattle.inline_reading.proofs.label_start.begins.Goals as goal

pub returns : goal.returns
returns c = starts_text c.starts_with.result c.args.front.now c.args.rest.now c.starts_with.ensures.cases
    ∙ sym (begins_codes c.args.front.now c.requires c.args.rest.now)
