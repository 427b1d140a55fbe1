use Rattle.std.proofs.Common.{sym, subst, take, lit<}
use Rattle.std.proofs.lemmas.Str.Pattern.{find_char}
use Rattle.html_listed_page.specs.Tags.{IsCut}
use Rattle.html_listed_page.proofs.Cuts.{cut_at, cut_after}
use Rattle.html_listed_page.proofs.tags.split_name.Goals as goal

pub split_at-requires : goal.split_at-requires
split_at-requires c = (rw c.in-Some.is at c.find.ensures.cases).3

pub returns-in-Some : goal.returns-in-Some
returns-in-Some c =
    let tag = c.args.tag.now in
    let place = c.in-Some.place in
    let found = rw c.in-Some.is at (find_char 32 tag c.find.result c.find.ensures.cases (lit< tt)) in
    subst (λ x. IsCut 32 tag x c.split_at.result.1.now) (sym c.split_at.ensures.front)
    (subst (λ x. IsCut 32 tag (take place tag) x) (sym c.split_at.ensures.back) (cut_at 32 tag place found.0 found.1 found.2))

pub returns-in-None : goal.returns-in-None
returns-in-None c =
    let tag = c.args.tag.now in
    cut_after 32 tag (rw c.in-None.is at (find_char 32 tag c.find.result c.find.ensures.cases (lit< tt)))
