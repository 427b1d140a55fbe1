use Rattle.std.proofs.Common.{◌∙◌, ap, sym}
use Rattle.std.specs.List.{list_any}
use Rattle.std.specs.Str.{bytes_eq}
use Rattle.definition_page.specs.Urls.{href_protocols, src_protocols}
use Rattle.html_safe_page.specs.SafePage.{empty_names, is_value}
use Rattle.html_safe_page.proofs.Values.{other_value}
use Rattle.html_safe_page.proofs.tags.is_allowed.Goals as goal

pub returns-in-href : goal.returns-in-href
unfolding href_protocols
returns-in-href c = c.is_permitted.ensures ∙ sym (ap (λ n. is_value c.args.tag.now n c.args.value.now) c.in-href.is)

pub returns-in-src : goal.returns-in-src
unfolding src_protocols
returns-in-src c = c.is_permitted-in-src.ensures ∙ sym (ap (λ n. is_value c.args.tag.now n c.args.value.now) c.in-src.is)

pub returns-else-is_empty : goal.returns-else-is_empty
returns-else-is_empty c =
    let other = c.in_default in
    other_value c.args.tag.now c.args.name.now c.args.value.now c.is_empty.result c.is_one_of-else-is_empty.result other.not-href other.not-src
    other.not-class other.not-type other.not-align other.not-loading c.is_empty.ensures c.if-is_empty.false
    (c.is_one_of-else-is_empty.ensures
    ∙ ap (λ it. list_any (λ n. bytes_eq n it) empty_names) c.as_bytes-else-is_empty.ensures.value)
