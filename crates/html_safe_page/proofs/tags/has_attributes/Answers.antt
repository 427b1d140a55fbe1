use Rattle.std.proofs.Common.{◌+◌, ◌∙◌, ap, drop, sym}
use Rattle.std.specs.Option.{is_some, option_and_then, option_copied}
use Rattle.html_safe_page.specs.Reader.{read_attributes}
use Rattle.html_safe_page.specs.Views.{names_of}
use Rattle.html_safe_page.proofs.Values.{names_left}
use Rattle.html_safe_page.proofs.tags.has_attributes.Goals as goal

pub returns-in-None : goal.returns-in-None
returns-in-None c =
    let next = read_attributes c.args.tag.now (names_of (drop (c.loop-name.name-index + 1) c.args.names.now)) c.args.ending.now in
    let left = names_left c.args.tag.now c.args.names.now c.loop-name.name-index _ c.args.ending.now c.loop-name.rest.now c.loop-name-test.true in
    sym (sym c.loop-name.invariant ∙ left ∙ ap (λ o. is_some (option_and_then next o)) (sym c.after_attribute.ensures ∙ ap option_copied c.in-None.is))

pub loop-name-preserved : goal.loop-name-preserved
loop-name-preserved c =
    let next = read_attributes c.args.tag.now (names_of (drop (c.loop-name.name-index + 1) c.args.names.now)) c.args.ending.now in
    let left = names_left c.args.tag.now c.args.names.now c.loop-name.name-index _ c.args.ending.now c.loop-name.rest.now c.loop-name-test.true in
    sym (left ∙ ap (λ o. is_some (option_and_then next o)) (sym c.after_attribute.ensures ∙ ap option_copied c.in-Some.is)) ∙ c.loop-name.invariant
