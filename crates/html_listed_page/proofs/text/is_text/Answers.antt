use Rattle.std.proofs.Common.{◌↔◌, IsTrue, sym, ◌∙◌, lit<}
use Rattle.std.proofs.lemmas.Bool.{true≢false, false≢true}
use Rattle.std.proofs.lemmas.Str.Pattern.{contains_char}
use Rattle.html_safe_page.specs.SafePage.{IsSafePage}
use Rattle.html_listed_page.specs.Tags.{IsText}
use Rattle.html_listed_page.proofs.Outcomes.{both_ways, from_ok}
use Rattle.html_listed_page.proofs.Cuts.{lacks_by_places, not_at}
use Rattle.html_listed_page.proofs.TagTests.{text_safe, text_no_less}
use Rattle.html_listed_page.proofs.text.is_text.Goals as goal

pub returns-then-contains : goal.returns-then-contains
returns-then-contains g c =
    let text = c.args.text.now in
    let there = (contains_char 60 text c.contains.result c.contains.ensures.cases (lit< tt)).0 c.if-contains.true in
    ((λ e. absurd (false≢true e)), λ t. absurd (not_at 60 text there.0 (text_no_less text t) there.1 there.2))

pub returns : goal.returns
returns g c =
    let text = c.args.text.now in
    let absent = (contains_char 60 text c.contains.result c.contains.ensures.cases (lit< tt)).1 in
    from_ok c.is_safe_page.result (λ safe. IsTrue safe ↔ IsSafePage text) (λ yes. IsTrue yes ↔ IsText text)
    (λ yes p. both_ways p (text_safe text (lacks_by_places 60 text (λ i l e. true≢false (sym (absent i l e) ∙ c.if-contains.false)))))
    c.is_safe_page.ensures
