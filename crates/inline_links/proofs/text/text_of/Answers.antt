use Rattle.std.proofs.Common.{arith}
use Rattle.inline_links.proofs.Texts.{is_utf8}
use Rattle.inline_links.proofs.text.text_of.Goals as goal

pub from_utf8_unchecked-requires : goal.from_utf8_unchecked-requires
from_utf8_unchecked-requires c = is_utf8 c.args.bytes.now (λ k. omega (arith, c.type_inv.bytes k)) c.requires
