use Rattle.std.proofs.Common.{◌↔◌, IsTrue, [], sym, ◌∙◌}
use Rattle.std.proofs.lemmas.Bool.{false≢true}
use Rattle.definition_html.specs.Listing.{void_names}
use Rattle.html_listed.specs.ListedPage.{is_listed_tag, is_listed_void}
use Rattle.html_listed_page.specs.Tags.{IsTagOf}
use Rattle.html_listed_page.proofs.Outcomes.{both_ways, from_ok}
use Rattle.html_listed_page.proofs.TagTests.{void_listed, no_void_listed}
use Rattle.html_listed_page.proofs.tags.is_listed_void.Goals as goal

pub returns-then-not-is_in : goal.returns-then-not-is_in
unfolding void_names
returns-then-not-is_in g c = (
  (λ e. absurd (false≢true e)),
  λ v. absurd (no_void_listed c.args.tag.now c.name_of.result.now c.name_of.ensures.0 c.name_of.ensures.1 (sym c.is_in.ensures ∙ c.if-not-is_in.true) v),
)

pub returns : goal.returns
unfolding void_names
returns g c =
    from_ok c.is_listed_tag.result (λ yes. IsTrue yes ↔ IsTagOf is_listed_tag [] c.args.tag.now) (λ yes. IsTrue yes ↔ IsTagOf is_listed_void [] c.args.tag.now)
    (λ yes p. both_ways p
    (void_listed c.args.tag.now c.name_of.result.now c.name_of.ensures.0 c.name_of.ensures.1 (sym c.is_in.ensures ∙ c.if-not-is_in.false)))
    c.is_listed_tag.ensures
