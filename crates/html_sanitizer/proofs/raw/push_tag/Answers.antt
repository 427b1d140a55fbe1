use Rattle.std.proofs.Common.{◌≡◌, ◌++◌, ◌∷◌, [], ℕ, List, string_bytes, ap, subst, append_assoc, ◌∙◌}
use Rattle.std.specs.Prelude.{OnOk, map}
use Rattle.std.specs.List.{flat_map}
use Rattle.definition_page.specs.Tags.{attribute_bytes}
use Rattle.definition_html.specs.Attributes.{kept}
use Rattle.html_sanitizer.specs.Attributes.{attributes_of, read_attribute}
use Rattle.html_sanitizer.proofs.raw.push_tag.Goals as goal

pub returns : goal.returns
returns g c =
    let names = g.T.Tables.reference_of c.args.tables.now in
    let name = c.args.name.now in
    let options = c.args.options.now in
    let before = string_bytes c.args.out.now ++ (60 ∷ []) in
    let others = flat_map attribute_bytes (kept options name (map (read_attribute names) (attributes_of c.args.scratch.now.written.items))) in
    subst (λ (s : List ℕ). OnOk c.push_attributes.result (string_bytes c.push_attributes.new.out ≡ s))
    (ap (λ ws. string_bytes c.push_str-2.new.self ++ flat_map attribute_bytes (kept options name (map (read_attribute names) (attributes_of ws))))
    c.as_slice.ensures.value
    ∙ ap (λ x. x ++ others) (c.in_ok-push_str-2.ensures.bytes ∙ ap (λ x. x ++ name) c.in_ok-push_str.ensures.bytes) ∙ append_assoc before name others)
    c.push_attributes.ensures
