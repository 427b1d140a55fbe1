use Rattle.std.proofs.Common.{not, refl, ◌∙◌, arith}
use Rattle.std.proofs.lemmas.List.Sums.{prefix_len-le-length}
use Rattle.text_search.specs.Classes.{is_outside}
use Rattle.text_search.proofs.Sets.{run_by}
use Rattle.html_escape.specs.declared.url.TheConstants.{PLAIN}
use Rattle.html_escape.specs.Tools.{is_plain_byte}
use Rattle.html_escape.proofs.url.plain_size.Goals as goal

pub returns-clause-size : goal.returns-clause-size
returns-clause-size c = c.run_of.ensures ∙ run_by (is_outside PLAIN) is_plain_byte c.args.bytes.now refl c.type_inv.bytes

pub returns-clause-within : goal.returns-clause-within
returns-clause-within c = omega (arith, c.run_of.ensures, prefix_len-le-length (λ b. not (is_outside PLAIN b)) c.args.bytes.now)
