use Rattle.std.proofs.Common.{ap, sym, lit<}
use Rattle.std.proofs.lemmas.Str.Pattern.{strip_prefix_char}
use Rattle.definition_text.specs.Bytes.{without_slash}
use Rattle.html_sanitizer.proofs.Rests.{no_slash}
use Rattle.html_sanitizer.proofs.raw.without_slash.Goals as goal

pub returns-in-Some : goal.returns-in-Some
returns-in-Some c =
    let is = rw c.in-Some.is at (strip_prefix_char 47 c.args.text.now c.strip_prefix.result c.strip_prefix.ensures.cases (lit< tt)) in
    sym (ap without_slash is)

pub returns-in-None : goal.returns-in-None
returns-in-None c =
    let none = rw c.in-None.is at (strip_prefix_char 47 c.args.text.now c.strip_prefix.result c.strip_prefix.ensures.cases (lit< tt)) in
    no_slash c.args.text.now none
