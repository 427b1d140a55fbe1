use Rattle.std.proofs.Common.{Some, lit<, sym, ◌∙◌}
use Rattle.std.proofs.lemmas.Str.Pattern.{strip_prefix_char}
use Rattle.html_sanitizer.proofs.Plain.{own_tag}
use Rattle.html_sanitizer.proofs.listed.split_own.Goals as goal

pub returns : goal.returns
returns c =
    let inside = c.split_inside.result.0.now in
    let end = c.split_inside.result.1.now in
    own_tag c.args.text.now c.in_ok-tag.tag.now inside end c.in_ok-after.after.now
    (strip_prefix_char 60 c.args.text.now (Some c.in_ok-tag.tag) c.in_ok-tag.ensures.cases (lit< tt))
    c.split_inside.ensures.inside c.split_inside.ensures.end
    (strip_prefix_char 62 end (Some c.in_ok-after.after) c.in_ok-after.ensures.cases (lit< tt))
    (sym c.is_empty.ensures ∙ c.if-is_empty.false)
