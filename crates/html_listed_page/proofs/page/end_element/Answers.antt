use Rattle.std.proofs.Common.{◌∷◌, false, ap, sym, subst, ◌∙◌}
use Rattle.html_safe_page.specs.Views.{open_names}
use Rattle.html_safe_page.proofs.Follow.{open_push, open_none}
use Rattle.html_listed_page.specs.Rest.{Leads}
use Rattle.html_listed_page.proofs.Pages.{end_leads, unopened}
use Rattle.html_listed_page.proofs.page.end_element.Goals as goal

pub returns-in-Some : goal.returns-in-Some
returns-in-Some g c =
    let name = c.args.name.now in
    let open_now = c.in-Some.open in
    let new = c.pop.new.self.items in
    λ table. subst (λ ns. Leads table c.eq.result (47 ∷ name) ns (open_names new)) (sym (ap open_names c.in-Some.ensures.items ∙ open_push new open_now))
    (end_leads table name open_now.now (open_names new) c.eq.result c.eq.ensures c.requires)

pub returns-in-None : goal.returns-in-None
returns-in-None g c =
    let name = c.args.name.now in
    let old = c.args.names.now in
    let new = c.pop.new.self.items in
    λ table. subst (λ ns. Leads table false (47 ∷ name) ns (open_names new)) (sym (open_none old.items (sym old.ok.0 ∙ c.in-None.ensures.cases.0)))
    (unopened table name (open_names new) c.requires)
