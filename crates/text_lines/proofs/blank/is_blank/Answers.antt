use Rattle.std.proofs.Common.{sym, ap, ◌∙◌}
use Rattle.std.specs.List.{list_all}
use Rattle.definition_text.specs.Columns.{is_white}
use Rattle.text_lines.proofs.Codes.{blank_codes}
use Rattle.text_lines.proofs.blank.is_blank.Goals as goal

pub returns : goal.returns
returns c = c.is_blank.ensures ∙ ap (list_all is_white) c.as_bytes.ensures.value ∙ sym (blank_codes c.args.text.now)
