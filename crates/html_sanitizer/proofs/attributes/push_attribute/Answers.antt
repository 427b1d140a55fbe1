use Rattle.std.proofs.Common.{◌≡◌, ◌++◌, ℕ, List, string_bytes, ap, subst, ◌∙◌}
use Rattle.std.specs.Prelude.{OnOk}
use Rattle.definition_inline.specs.Decoded.{decode}
use Rattle.definition_page.specs.Tags.{attribute, attribute_bytes}
use Rattle.definition_html.specs.Attributes.{code_bytes}
use Rattle.html_sanitizer.proofs.attributes.push_attribute.Goals as goal

pub returns : goal.returns
returns g c =
    let names = g.T.Tables.reference_of c.args.tables.now in
    let is : c.as_str.result.now ≡ decode names c.args.value.now =
    c.as_str.ensures.value ∙ c.in_ok-push_decoded.ensures ∙ ap (λ x. x ++ decode names c.args.value.now) c.clear.ensures.bytes in
    subst (λ (s : List ℕ). OnOk c.push_text_attribute.result (string_bytes c.push_text_attribute.new.out
    ≡ string_bytes c.args.out.now ++ attribute_bytes (attribute c.args.name.now (code_bytes s)))) is c.push_text_attribute.ensures
