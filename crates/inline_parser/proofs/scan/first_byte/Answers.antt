use Rattle.inline_parser.proofs.Prelude.{IsCharBoundary-after_ascii}
use Rattle.inline_parser.proofs.scan.first_byte.Goals as goal

pub text_before-requires : goal.text_before-requires
text_before-requires c = IsCharBoundary-after_ascii c.args.text.now 0 c.utf8.text c.requires.some c.requires.ascii
