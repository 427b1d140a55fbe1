use Rattle.std.proofs.Common.{◌↔◌, IsTrue, [], refl, sym, ◌∙◌}
use Rattle.std.proofs.lemmas.Bool.{true≢false}
use Rattle.html_safe_page.specs.SafePage.{is_tag_of}
use Rattle.html_safe_page.specs.Table.{void_rows_of}
use Rattle.html_listed.specs.ListedPage.{is_listed_void, is_void}
use Rattle.html_listed_page.specs.Tags.{IsTagOf}
use Rattle.html_listed_page.proofs.Outcomes.{both_ways, from_ok}
use Rattle.html_listed_page.proofs.TagTests.{first_of, or_second}
use Rattle.html_listed_page.proofs.tags.is_void.Goals as goal

pub returns-then-branch : goal.returns-then-branch
returns-then-branch g c =
    let tag = c.args.tag.now in
    let safe = is_tag_of (void_rows_of c.args.table) in
    ((λ _. first_of is_listed_void safe tag (c.in_ok-is_listed_void.ensures.0 c.if-branch.true)), λ _. refl)

pub returns : goal.returns
returns g c =
    let tag = c.args.tag.now in
    let safe = is_tag_of (void_rows_of c.args.table) in
    from_ok c.is_safe_void.result (λ yes. IsTrue yes ↔ IsTagOf safe [] tag) (λ yes. IsTrue yes ↔ IsTagOf (is_void c.args.table) [] tag)
    (λ yes p. both_ways p (or_second is_listed_void safe tag (λ v. true≢false (sym (c.in_ok-is_listed_void.ensures.1 v) ∙ c.if-branch.false))))
    c.is_safe_void.ensures
