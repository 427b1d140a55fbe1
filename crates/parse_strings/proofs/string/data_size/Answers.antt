use Rattle.std.proofs.Common.{refl, ◌∙◌}
use Rattle.text_search.specs.Sets.{holds}
use Rattle.text_search.proofs.Sets.{run_by}
use Rattle.parse_strings.proofs.Prelude.{is_ink}
use Rattle.parse_strings.specs.declared.string.TheConstants.{STARTS}
use Rattle.parse_strings.proofs.string.data_size.Goals as goal

pub returns : goal.returns
returns c = c.next_of.ensures ∙ run_by (holds STARTS) is_ink c.args.bytes.now refl c.type_inv.bytes
