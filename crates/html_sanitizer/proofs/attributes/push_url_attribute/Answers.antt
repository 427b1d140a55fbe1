use Rattle.std.proofs.Common.{◌≡◌, ◌++◌, ◌||◌, Bool, List, ℕ, codes, map, string_bytes, ap, sym, subst, ◌∙◌}
use Rattle.std.specs.Prelude.{OnOk}
use Rattle.std.specs.List.{flat_map}
use Rattle.definition_page.specs.Tags.{attribute_bytes}
use Rattle.definition_page.specs.Urls.{href_protocols, src_protocols}
use Rattle.definition_html.specs.Attributes.{first_of, url_attributes}
use Rattle.html_sanitizer.specs.Attributes.{attributes_of, read_attribute}
use Rattle.html_sanitizer.specs.Urls.{url_if_written}
use Rattle.html_sanitizer.proofs.attributes.push_url_attribute.Goals as goal
use Rattle.html_sanitizer.proofs.attributes.push_url_attribute.Goals.{then-options, else-options}

pub returns-in-a : goal.returns-in-a
unfolding href_protocols
returns-in-a g c =
    let ws = map (read_attribute (g.T.Tables.reference_of c.args.tables.now)) (attributes_of c.args.written.now) in
    subst (λ (name : List ℕ). OnOk c.push_url.result (string_bytes c.push_url.new.out
    ≡ string_bytes c.args.out.now ++ flat_map attribute_bytes (url_attributes c.args.options.now name ws)))
    (sym c.in-a.is) c.push_url.ensures

pub returns-after-options : goal.returns-after-options
unfolding src_protocols
returns-after-options g c =
    let options = c.args.options.now in
    let ws = map (read_attribute (g.T.Tables.reference_of c.args.tables.now)) (attributes_of c.args.written.now) in
    let all : c.if-options.all ≡ (options.allow_any_img_src || options.allow_dangerous_protocol) = elim c.if-options.branch [
      | then-options w ↦ w.all-is ∙ w.if-options.true ∙ sym (ap (λ t. t || options.allow_dangerous_protocol) w.if-options.true)
      | else-options w ↦ w.all-is ∙ sym (ap (λ t. t || options.allow_dangerous_protocol) w.if-options.false)
    ] in
    subst (λ (name : List ℕ). OnOk c.push_url-in-img.result (string_bytes c.push_url-in-img.new.out
    ≡ string_bytes c.args.out.now ++ flat_map attribute_bytes (url_attributes options name ws)))
    (sym c.in-img.is)
    (subst (λ (t : Bool). OnOk c.push_url-in-img.result (string_bytes c.push_url-in-img.new.out
    ≡ string_bytes c.args.out.now ++ flat_map attribute_bytes (url_if_written t src_protocols (codes "src") (first_of (codes "src") ws))))
    all c.push_url-in-img.ensures)
