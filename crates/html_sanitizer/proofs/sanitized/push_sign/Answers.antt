use Rattle.std.proofs.Common.{lit<}
use Rattle.std.proofs.lemmas.Str.Pattern.{strip_prefix_char}
use Rattle.html_sanitizer.proofs.Rests.{sign_there}
use Rattle.html_sanitizer.proofs.sanitized.push_sign.Goals as goal

pub returns-in_default-clause-printed : goal.returns-in_default-clause-printed
returns-in_default-clause-printed g c =
    let none = rw c.in_default.is at (strip_prefix_char 60 c.args.text.now c.strip_prefix.result c.strip_prefix.ensures.cases (lit< tt)) in
    absurd (sign_there c.args.text.now c.requires none)

pub returns-in_default-clause-rest : goal.returns-in_default-clause-rest
returns-in_default-clause-rest g c =
    let none = rw c.in_default.is at (strip_prefix_char 60 c.args.text.now c.strip_prefix.result c.strip_prefix.ensures.cases (lit< tt)) in
    absurd (sign_there c.args.text.now c.requires none)
