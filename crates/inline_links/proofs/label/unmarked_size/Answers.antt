use Rattle.std.proofs.Common.{not, refl, ◌∙◌, arith}
use Rattle.inline_links.proofs.Prelude.{is_unmarked, prefix_len-le-length, run_by}
use Rattle.text_search.specs.Sets.{holds}
use Rattle.inline_links.specs.declared.label.TheConstants.{MARKS}
use Rattle.inline_links.proofs.label.unmarked_size.Goals as goal

pub returns-clause-size : goal.returns-clause-size
returns-clause-size c = c.next_of.ensures ∙ run_by (holds MARKS) is_unmarked c.args.bytes.now refl c.type_inv.bytes

pub returns-clause-within : goal.returns-clause-within
returns-clause-within c = omega (arith, c.next_of.ensures, prefix_len-le-length (λ b. not (holds MARKS b)) c.args.bytes.now)
