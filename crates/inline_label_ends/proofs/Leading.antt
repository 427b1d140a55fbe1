-- Where the target of a label end leads.
use Rattle.std.proofs.Common.{◌≡◌, ℕ, List, [], None, ap, sym, ◌∙◌, subst}
use Rattle.std.specs.Option.{option_map, unwrap_or}
use Rattle.definition_inline.specs.Inline.{Target, LinkTexts, link_texts}
use Rattle.definition_inline.specs.Inline as inline
use Rattle.definition_inline.specs.Targets.{leads_to}
use Rattle.definition_inline.specs.Definition.{Definition}
use Rattle.definition_inline.specs.Targets.{labels_of, linked_at, linked_by}
use Rattle.inline_rows.specs.declared.row.LinkTarget.{LinkTarget}
use Rattle.inline_rows.specs.declared.row.LinkTarget.TheVariants.{Resource, Definition as Place}
use Rattle.inline_rows.specs.View.{target_texts}
use Rattle.inline_label_ends.specs.Ends.{IsTarget}

-- a target leads where the definition's leads
pub target_leads : (ds : List Definition) (found : LinkTarget) (target : Target) → IsTarget (labels_of ds) found target
    → target_texts (linked_at ds) found ≡ leads_to (linked_by ds) target
target_leads ds (Resource found) (inline.Resource destination title) e = e
target_leads ds (Resource found) (inline.Reference label) e = absurd e
target_leads ds (Place place) (inline.Resource destination title) e = absurd e
target_leads ds (Place place) (inline.Reference label) e = sym (ap (λ o. unwrap_or (option_map (linked_at ds) o) (link_texts [] None)) e)

-- the same, where the labels and where the definitions lead are given by equations
pub target_leads_at : (ds : List Definition) (ls : List (List ℕ)) (at : ℕ → LinkTexts) (found : LinkTarget) (target : Target) → ls ≡ labels_of ds
    → at ≡ linked_at ds
    → IsTarget ls found target → target_texts at found ≡ leads_to (linked_by ds) target
target_leads_at ds ls at found target labels leads h =
    ap (λ f. target_texts f found) leads ∙ target_leads ds found target (subst (λ l. IsTarget l found target) labels h)
