use Rattle.std.proofs.Common.{◌∙◌, ap, ltb}
use Rattle.std.proofs.Common.{length}
use Rattle.inline_addresses.proofs.AtSigns.{any_before_end}
use Rattle.inline_addresses.proofs.links.holds_at_sign.Goals as goal

pub returns : goal.returns
returns c = ap (λ n. ltb n (length c.args.bytes.now)) c.next_of.ensures ∙ any_before_end c.args.bytes.now
