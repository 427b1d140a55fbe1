use Rattle.std.proofs.Common.{◌≡◌, ◌↔◌, ◌++◌, ◌∷◌, IsTrue, [], ap, sym, subst, append_assoc, ◌∙◌}
use Rattle.html_safe_page.specs.SafePage.{is_tag_of, void_end, IsSafePageBy}
use Rattle.html_safe_page.specs.Table.{void_rows_of}
use Rattle.html_listed_page.specs.Rest.{in_tag}
use Rattle.html_listed_page.specs.Tags.{IsTagOf, void_tag}
use Rattle.html_listed_page.proofs.Outcomes.{from_ok}
use Rattle.html_listed_page.proofs.TagTests.{safe_void, void_safe}
use Rattle.html_listed_page.proofs.tags.is_safe_void.Goals as goal

pub returns : goal.returns
returns g c =
    let table = c.args.table in
    let tag = c.args.tag.now in
    let spelled : c.as_str.result.now ≡ in_tag (tag ++ void_end) [] =
    c.as_str.ensures.value ∙ c.in_ok-push_void.ensures ∙ ap (λ x. x ++ void_tag tag) c.new-page.ensures.bytes
    ∙ ap (λ z. 60 ∷ z) (sym (append_assoc tag void_end (62 ∷ []))) in
    from_ok c.is_safe_page_by.result (λ yes. IsTrue yes ↔ IsSafePageBy table c.as_str.result.now)
    (λ yes. IsTrue yes ↔ IsTagOf (is_tag_of (void_rows_of table)) [] tag)
    (λ yes p. (
      (λ e. safe_void table tag c.requires (subst (IsSafePageBy table) spelled (p.0 e))),
      λ v. p.1 (subst (IsSafePageBy table) (sym spelled) (void_safe table tag v)),
    ))
    c.is_safe_page_by.ensures
