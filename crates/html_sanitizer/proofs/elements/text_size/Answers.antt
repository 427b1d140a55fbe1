use Rattle.std.proofs.Common.{◌∙◌}
use Rattle.html_sanitizer.proofs.Nameless.{one_byte}
use Rattle.html_sanitizer.proofs.elements.text_size.Goals as goal

pub returns : goal.returns
returns c = c.next_of.ensures ∙ one_byte 60 c.args.bytes.now
