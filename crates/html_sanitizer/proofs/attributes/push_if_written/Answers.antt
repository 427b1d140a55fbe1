use Rattle.std.proofs.Common.{◌≡◌, ◌++◌, ℕ, List, string_bytes, sym, ap, subst, ◌∙◌}
use Rattle.std.specs.Prelude.{OnOk}
use Rattle.std.specs.List.{flat_map}
use Rattle.std.proofs.lemmas.List.{append-nil}
use Rattle.definition_page.specs.Tags.{attribute_bytes}
use Rattle.definition_html.specs.Attributes.{if_written}
use Rattle.html_sanitizer.specs.Attributes.{attributes_of}
use Rattle.html_sanitizer.proofs.Printing.{if_some, if_none}
use Rattle.html_sanitizer.proofs.attributes.push_if_written.Goals as goal

pub returns-in-Some : goal.returns-in-Some
returns-in-Some g c =
    let names = g.T.Tables.reference_of c.args.tables.now in
    subst (λ (s : List ℕ). OnOk c.push_attribute.result (string_bytes c.push_attribute.new.out ≡ string_bytes c.args.out.now ++ s))
    (sym (if_some names c.args.name.now (attributes_of c.args.written.now) c.first_of.result c.in-Some.value c.first_of.ensures c.in-Some.is))
    c.push_attribute.ensures

pub returns-in-None : goal.returns-in-None
returns-in-None g c =
    let names = g.T.Tables.reference_of c.args.tables.now in
    sym (ap (λ o. string_bytes c.args.out.now ++ flat_map attribute_bytes (if_written c.args.name.now o))
    (if_none names c.args.name.now (attributes_of c.args.written.now) c.first_of.result c.first_of.ensures c.in-None.is)
    ∙ append-nil (string_bytes c.args.out.now))
