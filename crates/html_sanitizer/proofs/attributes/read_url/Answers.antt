use Rattle.std.proofs.Common.{◌≡◌, ◌++◌, ℕ, List, string_bytes, ap, subst, ◌∙◌}
use Rattle.std.specs.Prelude.{OnOk}
use Rattle.definition_inline.specs.Decoded.{decode}
use Rattle.definition_html.specs.Attributes.{code_bytes, url_bytes}
use Rattle.html_sanitizer.proofs.attributes.read_url.Goals as goal

pub returns : goal.returns
returns g c =
    let names = g.T.Tables.reference_of c.args.tables.now in
    let is : c.as_str.result.now ≡ decode names c.args.value.now =
    c.as_str.ensures.value ∙ c.in_ok-push_decoded.ensures ∙ ap (λ x. x ++ decode names c.args.value.now) c.clear.ensures.bytes in
    subst (λ (s : List ℕ). OnOk c.clean_url.result (string_bytes c.clean_url.new.url ≡ url_bytes (code_bytes s))) is c.clean_url.ensures
