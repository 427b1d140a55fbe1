use Rattle.std.proofs.Common.{◌≡◌, ◌++◌, ℕ, List, string_bytes, sym, ap, subst, append_assoc, ◌∙◌}
use Rattle.std.specs.Prelude.{OnOk, map}
use Rattle.std.specs.List.{flat_map}
use Rattle.definition_page.specs.Tags.{attribute_bytes}
use Rattle.definition_html.specs.Listing.{listed_attributes}
use Rattle.definition_html.specs.Attributes.{url_attributes}
use Rattle.html_sanitizer.specs.Attributes.{attributes_of, named_attributes, read_attribute}
use Rattle.html_sanitizer.proofs.Printing.{kept_printed}
use Rattle.html_sanitizer.proofs.attributes.push_attributes.Goals as goal

pub returns : goal.returns
unfolding listed_attributes
returns g c =
    let names = g.T.Tables.reference_of c.args.tables.now in
    let options = c.args.options.now in
    let name = c.args.name.now in
    let ws = map (read_attribute names) (attributes_of c.args.written.now) in
    let url = flat_map attribute_bytes (url_attributes options name ws) in
    let others = flat_map attribute_bytes (named_attributes listed_attributes ws) in
    subst (λ (s : List ℕ). OnOk c.push_listed.result (string_bytes c.push_listed.new.out ≡ s))
    (ap (λ x. x ++ others) c.in_ok-push_url_attribute.ensures ∙ append_assoc (string_bytes c.args.out.now) url others
    ∙ ap (λ x. string_bytes c.args.out.now ++ x) (sym (kept_printed options name ws))) c.push_listed.ensures
