use Rattle.std.proofs.Common.{sym, ap, ◌∙◌}
use Rattle.std.specs.Option.{option_map}
use Rattle.inline_references.specs.Groups.{text_in_group}
use Rattle.inline_references.proofs.Table.{builtin_in_group, builtin_without_group}
use Rattle.inline_references.proofs.builtin.builtin_reference.Goals as goal

pub returns-in_err-place : goal.returns-in_err-place
returns-in_err-place c =
    let none = sym c.group_of.ensures.place ∙ c.in_err-place.was in
    ap (option_map (λ x. x.now)) c.from_residual.ensures ∙ sym (builtin_without_group c.args.name.now none)

pub returns : goal.returns
returns c =
    let name = c.args.name.now in
    c.find_text.ensures
    ∙ ap (λ rows. text_in_group rows name) c.rows_of.ensures
    ∙ builtin_in_group name c.in_ok-place.place (sym c.group_of.ensures.place ∙ c.in_ok-place.was)
