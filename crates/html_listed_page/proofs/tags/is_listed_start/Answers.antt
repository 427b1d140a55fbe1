use Rattle.std.proofs.Common.{◌↔◌, IsTrue, [], sym, ◌∙◌}
use Rattle.std.proofs.lemmas.Bool.{false≢true}
use Rattle.definition_html.specs.Listing.{void_names}
use Rattle.html_listed.specs.ListedPage.{is_listed_tag, is_listed_start}
use Rattle.html_listed_page.specs.Tags.{IsTagOf}
use Rattle.html_listed_page.proofs.Outcomes.{both_ways, from_ok}
use Rattle.html_listed_page.proofs.TagTests.{start_listed, no_start_listed}
use Rattle.html_listed_page.proofs.tags.is_listed_start.Goals as goal

pub returns-then-is_in : goal.returns-then-is_in
unfolding void_names
returns-then-is_in g c = (
  (λ e. absurd (false≢true e)),
  λ v. absurd (no_start_listed c.args.tag.now c.name_of.result.now c.name_of.ensures.0 c.name_of.ensures.1 (sym c.is_in.ensures ∙ c.if-is_in.true) v),
)

pub returns : goal.returns
unfolding void_names
returns g c =
    from_ok c.is_listed_tag.result (λ yes. IsTrue yes ↔ IsTagOf is_listed_tag [] c.args.tag.now) (λ yes. IsTrue yes ↔ IsTagOf is_listed_start [] c.args.tag.now)
    (λ yes p. both_ways p
    (start_listed c.args.tag.now c.name_of.result.now c.name_of.ensures.0 c.name_of.ensures.1 (sym c.is_in.ensures ∙ c.if-is_in.false)))
    c.is_listed_tag.ensures
