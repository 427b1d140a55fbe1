use Rattle.std.proofs.Common.{◌↔◌, IsTrue, [], sym, ◌∙◌}
use Rattle.std.proofs.lemmas.Bool.{true≢false, false≢true}
use Rattle.html_listed.specs.ListedPage.{attribute_names, is_listed_tag}
use Rattle.html_listed_page.specs.Tags.{HasAttributes, IsTagOf}
use Rattle.html_listed_page.proofs.Outcomes.{from_ok}
use Rattle.html_listed_page.proofs.TagTests.{listed_tag, listed_name, listed_attributes_of}
use Rattle.html_listed_page.proofs.tags.is_listed_tag.Goals as goal

pub returns-then-not-is_listed : goal.returns-then-not-is_listed
returns-then-not-is_listed g c =
    let name = c.split_name.result.0.now in
    let attributes = c.split_name.result.1.now in (
      (λ e. absurd (false≢true e)),
      λ v. absurd (true≢false (sym (listed_name c.args.tag.now name attributes c.split_name.ensures v) ∙ sym c.is_listed.ensures ∙ c.if-not-is_listed.true)),
    )

pub returns : goal.returns
returns g c =
    let tag = c.args.tag.now in
    let name = c.split_name.result.0.now in
    let attributes = c.split_name.result.1.now in
    let cut = c.split_name.ensures in
    from_ok c.has_attributes.result (λ yes. IsTrue yes ↔ HasAttributes (attribute_names name) attributes) (λ yes. IsTrue yes ↔ IsTagOf is_listed_tag [] tag)
    (λ yes p. (
      (λ e. listed_tag tag name attributes cut (sym c.is_listed.ensures ∙ c.if-not-is_listed.false) (p.0 e)),
      λ v. p.1 (listed_attributes_of tag name attributes cut v),
    ))
    c.has_attributes.ensures
