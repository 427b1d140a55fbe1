use Rattle.std.proofs.Common.{◌≡◌, ◌++◌, ◌∷◌, [], string_bytes, sym, ap, ◌∙◌, arith, refl}
use Rattle.std.specs.Prelude.{map}
use Rattle.std.specs.List.{flat_map}
use Rattle.std.proofs.lemmas.Grind.{common_steps}
use Rattle.std.proofs.lemmas.List.{append-nil}
use Rattle.definition_page.specs.InlinePieces.{permitted_url}
use Rattle.definition_text.specs.Encode.{encode}
use Rattle.definition_page.specs.Tags.{attribute_bytes}
use Rattle.definition_html.specs.Attributes.{decoded, first_of, url_bytes}
use Rattle.html_safe_page.specs.Views.{names_of}
use Rattle.html_sanitizer.specs.Attributes.{attributes_of, read_attribute}
use Rattle.html_sanitizer.specs.Urls.{url_if_written}
use Rattle.html_sanitizer.proofs.Printing.{attribute_printed, if_none, if_found, url_some, url_none}
use Rattle.html_sanitizer.proofs.attributes.push_url.Goals as goal

pub returns-in_default : goal.returns-in_default
returns-in_default g c =
    let names = g.T.Tables.reference_of c.args.tables.now in
    let items = attributes_of c.args.written.now in
    let name = c.args.name.now in
    sym (ap (λ x. string_bytes c.args.out.now ++ x) (url_none c.args.all (names_of c.args.protocols.now) name (first_of name (map (read_attribute names) items))
    (if_none names name items c.first_of.result c.first_of.ensures c.in_default.is))
    ∙ append-nil (string_bytes c.args.out.now))

pub returns : goal.returns
returns g c =
    let names = g.T.Tables.reference_of c.args.tables.now in
    let items = attributes_of c.args.written.now in
    let name = c.args.name.now in
    let found = first_of name (map (read_attribute names) items) in
    let protocols = names_of c.args.protocols.now in
    let url = url_bytes (decoded names c.in-Some.value.now) in
    let text : c.as_str.result.now ≡ url = c.as_str.ensures.value ∙ c.in_ok-read_url.ensures in
    let printed : string_bytes c.push_permitted_url.new.out ≡ string_bytes c.push_start.new.out ++ encode (permitted_url c.args.all protocols url) =
    c.in_ok-push_permitted_url.ensures ∙ ap (λ x. string_bytes c.push_start.new.out ++ encode (permitted_url c.args.all protocols x)) text in
    let all : string_bytes c.push_permitted_url.new.out ++ (34 ∷ []) ≡ string_bytes c.args.out.now
    ++ flat_map attribute_bytes (url_if_written c.args.all protocols name found) =
    attribute_printed (string_bytes c.args.out.now) (string_bytes c.push_start.new.out) (string_bytes c.push_permitted_url.new.out) _ name
    (permitted_url c.args.all protocols url)
    c.in_ok-push_start.ensures printed refl
    ∙ ap (λ x. string_bytes c.args.out.now ++ x) (sym (url_some c.args.all protocols name (decoded names c.in-Some.value.now) found
    (if_found names name items c.first_of.result c.in-Some.value c.first_of.ensures c.in-Some.is))) in
    grind (arith, common_steps)
