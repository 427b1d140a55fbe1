use Rattle.std.proofs.Common.{ap, sym, drop, lit<}
use Rattle.std.proofs.lemmas.Str.Pattern.{strip_prefix_char}
use Rattle.html_sanitizer.proofs.Rests.{sign_there}
use Rattle.html_sanitizer.proofs.raw.after_sign.Goals as goal

pub returns-in-Some : goal.returns-in-Some
returns-in-Some c = λ begins.
    let is = rw c.in-Some.is at (strip_prefix_char 60 c.args.text.now c.strip_prefix.result c.strip_prefix.ensures.cases (lit< tt)) in
    sym (ap (drop 1) is)

pub returns-in-None : goal.returns-in-None
returns-in-None c = λ begins.
    let none = rw c.in-None.is at (strip_prefix_char 60 c.args.text.now c.strip_prefix.result c.strip_prefix.ensures.cases (lit< tt)) in
    absurd (sign_there c.args.text.now begins none)
