use Rattle.std.proofs.Common.{◌↔◌, ◌++◌, [], ap, subst, ◌∙◌}
use Rattle.definition_html.specs.Listing.{listed_attributes}
use Rattle.html_listed_page.specs.Tags.{HasAttributes, are_names}
use Rattle.html_listed_page.proofs.Taking.{all_taken, all_fit, others_fit}
use Rattle.html_listed_page.proofs.attributes.has_attributes.Goals as goal

pub returns : goal.returns
unfolding listed_attributes
returns g c =
    let name = c.args.name.now in
    let text = c.args.text.now in
    let rest = c.in_ok-rest.rest.now in
    let urls = c.url_names.ensures in
    let first = c.in_ok-rest.ensures listed_attributes (ap (λ ns. are_names (ns ++ listed_attributes)) urls ∙ all_fit name) in
    all_taken name text rest c.in_ok-end.end.now c.is_empty.result
    (subst (λ ns. HasAttributes (ns ++ listed_attributes) text ↔ HasAttributes listed_attributes rest) urls first)
    (c.in_ok-end.ensures [] others_fit)
    c.is_empty.ensures
