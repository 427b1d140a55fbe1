use Rattle.std.proofs.Common.{◌≡◌, ◌++◌, ◌∷◌, [], string_bytes, sym, ap, ◌∙◌, arith, refl}
use Rattle.std.proofs.lemmas.Grind.{common_steps}
use Rattle.definition_page.specs.Tags.{attribute, attribute_bytes}
use Rattle.definition_html.specs.Attributes.{code_bytes}
use Rattle.html_sanitizer.proofs.Printing.{attribute_printed, bytes_own}
use Rattle.html_sanitizer.proofs.Marks.{are_bytes}
use Rattle.html_sanitizer.proofs.attributes.push_text_attribute.Goals as goal

pub returns : goal.returns
returns g c =
    let name = c.args.name.now in
    let text = c.args.text.now in
    let own : code_bytes text ≡ text = bytes_own text (are_bytes text (λ k. omega (arith, c.type_inv.text k))) in
    let all : string_bytes c.push_encoded.new.out ++ (34 ∷ []) ≡ string_bytes c.args.out.now ++ attribute_bytes (attribute name (code_bytes text)) =
    attribute_printed (string_bytes c.args.out.now) (string_bytes c.push_start.new.out) (string_bytes c.push_encoded.new.out) _ name text
    c.in_ok-push_start.ensures c.in_ok-push_encoded.ensures refl
    ∙ ap (λ x. string_bytes c.args.out.now ++ attribute_bytes (attribute name x)) (sym own) in
    grind (arith, common_steps)
