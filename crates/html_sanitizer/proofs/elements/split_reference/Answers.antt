use Rattle.html_sanitizer.proofs.Nameless.{stray_read}
use Rattle.html_sanitizer.proofs.elements.split_reference.Goals as goal

pub returns-in-None-clause-read : goal.returns-in-None-clause-read
returns-in-None-clause-read c =
    stray_read c.args.text.now c.requires c.in_default.ensures.cases c.in_default-strip_prefix.ensures.cases c.in_default-strip_prefix-2.ensures.cases
    c.in-None.ensures.cases
