use Rattle.std.proofs.Common.{◌≡◌, ◌∷◌, ◌∙◌, ap, drop}
use Rattle.definition_text.specs.Content.{content_codes}
use Rattle.inline_leaves.proofs.GfmTaskListItemLemmas.{check_end}
use Rattle.inline_leaves.proofs.gfm_task_list_item.find_check.Goals as goal

pub returns-clause-place : goal.returns-clause-place
returns-clause-place c =
    let first = c.in_ok-opening.ensures in
    let second = c.in_ok-mark.ensures in
    let third = c.in_ok-closing.ensures in
    let closes : c.in_ok-closing.closing.code ≡ 93 = c.if-closing-ne-CLOSING.false in
    check_end c.args.bytes.now c.in_ok-opening.opening.code c.in_ok-mark.mark.code c.in_ok-mark.mark.next c.in_ok-opening.opening.next
    c.in_ok-closing.closing.next
    first.codes second.codes (third.codes ∙ ap (λ b. b ∷ content_codes (drop c.in_ok-closing.closing.next c.args.bytes.now)) closes)
