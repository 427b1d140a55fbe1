use Rattle.std.proofs.Common.{◌<◌, length, get_or, ap, ◌∙◌, arith}
use Rattle.std.specs.List.{prefix_len}
use Rattle.std.proofs.lemmas.List.{get_or-take}
use Rattle.std.proofs.lemmas.List.Folds.{length-prefix_len}
use Rattle.std.proofs.lemmas.List.Sums.{prefix_len_passes}
use Rattle.definition_block.specs.ListItem.{is_digit}
use Rattle.block_starts.specs.View.{rest_of}
use Rattle.block_starts.proofs.list_item.read_marker.Goals as goal

pub number_of-requires-clause-digits : goal.number_of-requires-clause-digits
number_of-requires-clause-digits c = λ k d lt.
    let rest = rest_of c.args.rest in
    let n = prefix_len is_digit rest in
    let same = c.split_digits.ensures.digits in
    let within : k < n = omega (arith, ap length same, length-prefix_len is_digit rest) in
    ap (λ bs. is_digit (get_or bs k d)) same ∙ ap is_digit (get_or-take n rest k d within) ∙ prefix_len_passes is_digit rest k d within
