use Rattle.std.proofs.Common.{arith, false, sym}
use Rattle.std.proofs.lemmas.Bool.{le-leb}
use Rattle.inline_links.proofs.Prelude.{content_codes, label_size}
use Rattle.inline_links.proofs.Unmarked.{size_of_bytes}
use Rattle.inline_links.proofs.label.is_short.Goals as goal

pub returns-then-text-le-LINK_REFERENCE_SIZE_MAX : goal.returns-then-text-le-LINK_REFERENCE_SIZE_MAX
returns-then-text-le-LINK_REFERENCE_SIZE_MAX c = let bytes = c.args.text.now in
    sym (le-leb (label_size false (content_codes bytes)) 999 (omega (arith, size_of_bytes bytes)))
