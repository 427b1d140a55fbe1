use Rattle.std.proofs.Common.{◌∙◌, ap, sym}
use Rattle.definition_page.specs.Urls.{permits, href_protocols, src_protocols}
use Rattle.html_listed.specs.ListedPage.{is_listed_value}
use Rattle.html_listed_page.proofs.attributes.is_value.Goals as goal

pub returns-in-href : goal.returns-in-href
unfolding href_protocols
returns-in-href c =
    c.is_permitted.ensures
    ∙ ap (permits href_protocols) c.as_bytes.ensures.value
    ∙ sym (ap (λ n. is_listed_value n c.args.value.now) c.in-href.is)

pub returns-in-src : goal.returns-in-src
unfolding src_protocols
returns-in-src c =
    c.is_permitted-in-src.ensures
    ∙ ap (permits src_protocols) c.as_bytes-in-src.ensures.value
    ∙ sym (ap (λ n. is_listed_value n c.args.value.now) c.in-src.is)
