use Rattle.std.proofs.Common.{arith, refl, ◌∙◌, not}
use Rattle.std.proofs.lemmas.List.Sums.{prefix_len-le-length}
use Rattle.text_search.specs.Sets.{holds}
use Rattle.text_search.proofs.Sets.{run_by}
use Rattle.parse_output.proofs.Prelude.{is_plain}
use Rattle.parse_output.specs.declared.pass.TheConstants.{CONTROLS}
use Rattle.parse_output.proofs.pass.plain_size.Goals as goal

pub returns-clause-size : goal.returns-clause-size
returns-clause-size c = c.next_of.ensures ∙ run_by (holds CONTROLS) is_plain c.args.bytes.now refl c.type_inv.bytes

pub returns-clause-within : goal.returns-clause-within
returns-clause-within c = omega (arith, c.next_of.ensures, prefix_len-le-length (λ b. not (holds CONTROLS b)) c.args.bytes.now)
