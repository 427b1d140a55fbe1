use Rattle.std.proofs.Common.{not, refl, ◌∙◌, arith}
use Rattle.inline_links.proofs.Prelude.{is_plain, prefix_len-le-length, run_by}
use Rattle.text_search.specs.Classes.{is_outside}
use Rattle.inline_links.specs.declared.destination.TheConstants.{PLAIN}
use Rattle.inline_links.proofs.destination.plain_size.Goals as goal

pub returns-clause-size : goal.returns-clause-size
returns-clause-size c = c.run_of.ensures ∙ run_by (is_outside PLAIN) is_plain c.args.bytes.now refl c.type_inv.bytes

pub returns-clause-within : goal.returns-clause-within
returns-clause-within c = omega (arith, c.run_of.ensures, prefix_len-le-length (λ b. not (is_outside PLAIN b)) c.args.bytes.now)
