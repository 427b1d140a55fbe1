use Rattle.std.proofs.Common.{ap, ◌∙◌}
use Rattle.parse_output.proofs.Prelude.{is_plain, prefix_len}
use Rattle.std.proofs.lemmas.List.{take_rest}
use Rattle.parse_output.proofs.Plain.{searched}
use Rattle.parse_output.proofs.pass.plain_end.Goals as goal

pub returns-else-index-known : goal.returns-else-index-known
returns-else-index-known c =
    searched c.args.text.now c.args.index c.plain_size.result
    (c.plain_size.ensures.size ∙ ap (prefix_len is_plain) (take_rest c.args.text.now c.args.index))
