use Rattle.std.proofs.Common.{ap, sym, drop, lit<, ◌∙◌}
use Rattle.std.proofs.lemmas.Str.Pattern.{strip_prefix_char}
use Rattle.html_sanitizer.proofs.Nameless.{no_end}
use Rattle.html_sanitizer.proofs.elements.split_tag.Goals as goal

pub returns-in-Some-clause-after : goal.returns-in-Some-clause-after
returns-in-Some-clause-after c =
    let end = c.split_inside.result.1.now in
    let is = rw c.in-Some.is at (strip_prefix_char 62 end c.strip_prefix.result c.strip_prefix.ensures.cases (lit< tt)) in
    sym (ap (drop 1) is) ∙ ap (drop 1) c.split_inside.ensures.end

pub returns-in-None-clause-after : goal.returns-in-None-clause-after
returns-in-None-clause-after c =
    let end = c.split_inside.result.1.now in
    let none = rw c.in-None.is at (strip_prefix_char 62 end c.strip_prefix.result c.strip_prefix.ensures.cases (lit< tt)) in
    no_end c.args.text.now (λ rest e. none rest (c.split_inside.ensures.end ∙ e))
