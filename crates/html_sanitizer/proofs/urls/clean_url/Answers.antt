use Rattle.std.proofs.Common.{◌≡◌, ◌∷◌, [], ℕ, List, string_bytes, arith, sym, ap, subst, ◌∙◌}
use Rattle.std.specs.Prelude.{OnOk}
use Rattle.definition_html.specs.Attributes.{url_bytes}
use Rattle.html_sanitizer.specs.Urls.{replaced}
use Rattle.html_sanitizer.proofs.UrlTexts.{url_replaced}
use Rattle.html_sanitizer.proofs.Printing.{bytes_own}
use Rattle.html_sanitizer.proofs.Marks.{are_bytes}
use Rattle.html_sanitizer.proofs.urls.clean_url.Goals as goal

pub returns : goal.returns
returns g c =
    let text = c.args.text.now in
    let second = ap (replaced 10 []) (c.as_str.ensures.value ∙ c.in_ok-push_replaced.ensures) in
    let third = ap (replaced 13 []) (c.as_str-2.ensures.value ∙ c.in_ok-push_replaced-2.ensures ∙ second) in
    let fourth = ap (replaced 0 (239 ∷ 191 ∷ 189 ∷ [])) (c.as_str-3.ensures.value ∙ c.in_ok-push_replaced-3.ensures ∙ third) in
    subst (λ (s : List ℕ). OnOk c.push_replaced-4.result (string_bytes c.push_replaced-4.new.out ≡ s))
    (fourth ∙ url_replaced text ∙ ap url_bytes (sym (bytes_own text (are_bytes text (λ k. omega (arith, c.type_inv.text k)))))) c.push_replaced-4.ensures
