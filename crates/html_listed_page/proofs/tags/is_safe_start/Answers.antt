use Rattle.std.proofs.Common.{◌≡◌, ◌↔◌, ◌++◌, ◌∷◌, IsTrue, [], ap, sym, subst, append_assoc, codes, ◌∙◌}
use Rattle.html_safe_page.specs.SafePage.{is_tag_of, IsSafePageBy}
use Rattle.html_safe_page.specs.Table.{start_rows_of}
use Rattle.html_listed_page.specs.Rest.{in_tag}
use Rattle.html_listed_page.specs.Tags.{IsTagOf, empty_element, lacks}
use Rattle.html_listed_page.proofs.Outcomes.{from_ok}
use Rattle.html_listed_page.proofs.Cuts.{lacks_front}
use Rattle.html_listed_page.proofs.TagTests.{safe_start, start_safe}
use Rattle.html_listed_page.proofs.tags.is_safe_start.Goals as goal

pub returns : goal.returns
returns g c =
    let table = c.args.table in
    let tag = c.args.tag.now in
    let name = c.name_of.result.now in
    let cut = c.name_of.ensures.1 in
    let spelled : c.as_str.result.now ≡ in_tag tag (in_tag (47 ∷ name) []) =
    c.as_str.ensures.value ∙ c.in_ok-push_element.ensures ∙ ap (λ x. x ++ empty_element tag name) c.new-element.ensures.bytes
    ∙ ap (λ z. 60 ∷ z) (append_assoc (tag ++ codes "></") name (62 ∷ []) ∙ append_assoc tag (codes "></") (name ++ (62 ∷ []))) in
    from_ok c.is_safe_page_by.result (λ yes. IsTrue yes ↔ IsSafePageBy table c.as_str.result.now)
    (λ yes. IsTrue yes ↔ IsTagOf (is_tag_of (start_rows_of table)) [] tag)
    (λ yes p. (
      (λ e. safe_start table tag name c.requires (lacks_front 62 name c.name_of.ensures.0 (ap (lacks 62) cut.parts ∙ c.requires))
          (subst (IsSafePageBy table) spelled (p.0 e))),
      λ v. p.1 (subst (IsSafePageBy table) (sym spelled) (start_safe table tag name c.name_of.ensures.0 cut v)),
    ))
    c.is_safe_page_by.ensures
