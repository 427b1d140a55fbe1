use Rattle.std.proofs.Common.{◌↔◌, IsTrue, [], refl, sym, ◌∙◌}
use Rattle.std.proofs.lemmas.Bool.{true≢false}
use Rattle.html_safe_page.specs.SafePage.{is_tag_of}
use Rattle.html_safe_page.specs.Table.{start_rows_of}
use Rattle.html_listed.specs.ListedPage.{is_listed_start, is_start}
use Rattle.html_listed_page.specs.Tags.{IsTagOf}
use Rattle.html_listed_page.proofs.Outcomes.{both_ways, from_ok}
use Rattle.html_listed_page.proofs.TagTests.{first_of, or_second}
use Rattle.html_listed_page.proofs.tags.is_start.Goals as goal

pub returns-then-branch : goal.returns-then-branch
returns-then-branch g c =
    let tag = c.args.tag.now in
    let safe = is_tag_of (start_rows_of c.args.table) in
    ((λ _. first_of is_listed_start safe tag (c.in_ok-is_listed_start.ensures.0 c.if-branch.true)), λ _. refl)

pub returns : goal.returns
returns g c =
    let tag = c.args.tag.now in
    let safe = is_tag_of (start_rows_of c.args.table) in
    from_ok c.is_safe_start.result (λ yes. IsTrue yes ↔ IsTagOf safe [] tag) (λ yes. IsTrue yes ↔ IsTagOf (is_start c.args.table) [] tag)
    (λ yes p. both_ways p (or_second is_listed_start safe tag (λ v. true≢false (sym (c.in_ok-is_listed_start.ensures.1 v) ∙ c.if-branch.false))))
    c.is_safe_start.ensures
