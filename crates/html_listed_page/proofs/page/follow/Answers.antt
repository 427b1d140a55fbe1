use Rattle.std.proofs.Common.{◌↔◌, ◌++◌, [], true, IsTrue, ap, sym, subst, lit<, ◌∙◌}
use Rattle.std.proofs.lemmas.Bool.{true≢false}
use Rattle.std.proofs.lemmas.Str.Pattern.{strip_prefix_char}
use Rattle.html_safe_page.specs.SafePage.{void_end}
use Rattle.html_safe_page.specs.Views.{open_names}
use Rattle.html_safe_page.proofs.Follow.{open_push}
use Rattle.html_listed.specs.ListedPage.{is_void}
use Rattle.html_listed_page.specs.Rest.{Leads}
use Rattle.html_listed_page.specs.Tags.{IsTagOf, lacks}
use Rattle.html_listed_page.proofs.Outcomes.{from_ok}
use Rattle.html_listed_page.proofs.Cuts.{lacks_front}
use Rattle.html_listed_page.proofs.Pages.{void_leads, start_leads, no_start_leads}
use Rattle.html_listed_page.proofs.page.follow.Goals as goal

pub end_element-requires : goal.end_element-requires
end_element-requires g c =
    ap (lacks 62) (sym (rw c.in-Some.is at (strip_prefix_char 47 c.args.tag.now c.strip_prefix.result c.strip_prefix.ensures.cases (lit< tt)))) ∙ c.requires

pub returns-in-Some : goal.returns-in-Some
returns-in-Some g c =
    let is = rw c.in-Some.is at (strip_prefix_char 47 c.args.tag.now c.strip_prefix.result c.strip_prefix.ensures.cases (lit< tt)) in
    subst (λ x. Leads c.args.table c.end_element.result x (open_names c.args.names.now.items) (open_names c.end_element.new.names.items)) (sym is)
    (c.end_element.ensures c.args.table)

pub is_void-requires : goal.is_void-requires
is_void-requires g c =
    let found = rw c.in-Some-strip_suffix.is at c.strip_suffix.ensures.cases in
    let is = found.1.1 ∙ ap (λ z. z ++ void_end) (sym found.2) in
    lacks_front 62 c.in-Some-strip_suffix.inside.now void_end (ap (lacks 62) (sym is) ∙ c.requires)

pub returns-in-Some-strip_suffix : goal.returns-in-Some-strip_suffix
returns-in-Some-strip_suffix g c =
    let table = c.args.table in
    let tag = c.args.tag.now in
    let inside = c.in-Some-strip_suffix.inside.now in
    let ns = open_names c.args.names.now.items in
    let found = rw c.in-Some-strip_suffix.is at c.strip_suffix.ensures.cases in
    let no_end = rw c.in_default.is at (strip_prefix_char 47 tag c.strip_prefix.result c.strip_prefix.ensures.cases (lit< tt)) in
    from_ok c.is_void.result (λ yes. IsTrue yes ↔ IsTagOf (is_void table) [] inside) (λ t. Leads table t tag ns ns)
    (λ t p. void_leads table ns tag inside t c.requires no_end (found.1.1 ∙ ap (λ z. z ++ void_end) (sym found.2)) p)
    c.is_void.ensures

pub returns-then-not-starts : goal.returns-then-not-starts
returns-then-not-starts g c =
    let tag = c.args.tag.now in
    let ns = open_names c.args.names.now.items in
    no_start_leads c.args.table ns ns tag c.requires
    (rw c.in_default.is at (strip_prefix_char 47 tag c.strip_prefix.result c.strip_prefix.ensures.cases (lit< tt)))
    (rw c.in_default-strip_suffix.is at c.strip_suffix.ensures.cases)
    (λ v. true≢false (sym (c.in_ok-starts.ensures.1 v) ∙ c.if-not-starts.true))

pub returns : goal.returns
returns g c =
    let tag = c.args.tag.now in
    let old = c.args.names.now.items in
    let name = c.name_of.result in
    subst (λ ms. Leads c.args.table true tag (open_names old) ms) (sym (ap open_names c.in_ok-push.ensures.items ∙ open_push old name))
    (start_leads c.args.table (open_names old) tag name.now c.name_of.ensures.0 c.requires
    (rw c.in_default.is at (strip_prefix_char 47 tag c.strip_prefix.result c.strip_prefix.ensures.cases (lit< tt)))
    (rw c.in_default-strip_suffix.is at c.strip_suffix.ensures.cases)
    c.name_of.ensures.1 (c.in_ok-starts.ensures.0 c.if-not-starts.false))
