use Rattle.std.proofs.Common.{◌∙◌, ap, refl, nat_lt, length}
use Rattle.block_starts.specs.declared.html_flow.TheConstants.{GREATER_THAN}
use Rattle.block_starts.specs.HtmlFlow.{is_greater_than}
use Rattle.text_search.specs.Pairs.{is_of_pair}
use Rattle.text_search.proofs.Sets.{first_by}
use Rattle.block_starts.proofs.HtmlEnds.{any_place}
use Rattle.block_starts.proofs.html_flow.holds_greater_than.Goals as goal

pub returns : goal.returns
returns c =
    ap (λ n. nat_lt n (length c.args.line.now)) (c.next_of.ensures ∙ first_by (is_of_pair GREATER_THAN) is_greater_than c.args.line.now refl c.type_inv.line)
    ∙ any_place is_greater_than c.args.line.now
