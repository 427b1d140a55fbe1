use Rattle.std.proofs.Common.{ap, arith, codes, length, lit<, sym, ◌∙◌}
use Rattle.std.proofs.lemmas.Str.Pattern.{strip_prefix_char}
use Rattle.definition_text.specs.Bytes.{begins_with}
use Rattle.html_sanitizer.specs.Page.{page_state}
use Rattle.html_sanitizer.proofs.Nameless.{own_passed, tag_no_longer}
use Rattle.html_sanitizer.proofs.Rests.{sign_there}
use Rattle.html_sanitizer.proofs.listed.push_tag.Goals as goal

pub returns-in_default-clause-printed : goal.returns-in_default-clause-printed
returns-in_default-clause-printed g c =
    let none = rw c.in_default.is at (strip_prefix_char 60 c.args.rest.now c.strip_prefix.result c.strip_prefix.ensures.cases (lit< tt)) in
    absurd (sign_there c.args.rest.now c.requires none)

pub returns-clause-printed : goal.returns-clause-printed
returns-clause-printed g c =
    let rest = c.args.rest.now in
    let is = rw c.in-Some.is at (strip_prefix_char 60 rest c.strip_prefix.result c.strip_prefix.ensures.cases (lit< tt)) in
    let own = ap (begins_with (codes "<>")) (sym c.as_bytes.ensures.value) ∙ sym c.starts_with.ensures.value ∙ c.if-starts_with.false in
    own_passed (g.T.Tables.reference_of c.args.tables.now) c.args.options.now (page_state c.args.page.now) (page_state c.push_own.new.page) rest
    c.in-Some.text.now c.split_tag.result.0.now c.split_tag.result.1.now own is c.split_tag.ensures.inside c.split_tag.ensures.after c.in_ok-push_own.ensures

pub returns-clause-shorter : goal.returns-clause-shorter
returns-clause-shorter g c =
    let is = rw c.in-Some.is at (strip_prefix_char 60 c.args.rest.now c.strip_prefix.result c.strip_prefix.ensures.cases (lit< tt)) in
    let long = ap length is in
    let same = ap length c.split_tag.ensures.after in
    let less = tag_no_longer c.in-Some.text.now in
    omega (arith, long, same, less)
