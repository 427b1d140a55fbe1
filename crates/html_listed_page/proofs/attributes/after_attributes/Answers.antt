use Rattle.std.proofs.Common.{◌≡◌, ◌↔◌, ◌++◌, ◌+◌, true, drop, subst, sym, rules}
use Rattle.html_safe_page.specs.Views.{names_of}
use Rattle.html_listed_page.specs.Tags.{HasAttributes, are_names}
use Rattle.html_listed_page.proofs.Outcomes.{both_ways}
use Rattle.html_listed_page.proofs.Taking.{names_left, next_name}
use Rattle.html_listed_page.proofs.attributes.after_attributes.Goals as goal

pub loop-name-init : goal.loop-name-init
loop-name-init g c = (search rules, λ more words. ((λ h. h), λ h. h))

pub loop-name-preserved : goal.loop-name-preserved
loop-name-preserved g c =
    let names = c.args.names.now in
    let i = c.loop-name.name-index in (
      search rules,
      λ more words.
          let next = next_name names i _ more c.loop-name-test.true in
          let later = names_of (drop (i + 1) names) ++ more in
          both_ways (c.loop-name.invariant.1 more words)
          (subst (λ ns. HasAttributes ns c.loop-name.rest.now ↔ HasAttributes later c.in_ok-rest.rest.now) (sym next)
          (c.in_ok-rest.ensures later (subst (λ ns. are_names ns ≡ true) next (names_left names i more words)))),
    )
