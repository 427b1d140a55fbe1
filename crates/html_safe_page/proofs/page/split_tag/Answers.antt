use Rattle.std.proofs.Common.{◌≤◌, ◌∙◌, sym, subst, length}
use Rattle.std.proofs.lemmas.List.Sums.{prefix_len-le-length}
use Rattle.html_safe_page.proofs.Places.{tag_parts, parts_none, parts_other, parts_found}
use Rattle.html_safe_page.proofs.page.split_tag.Goals as goal

pub split_at-requires : goal.split_at-requires
split_at-requires c = subst (λ n. n ≤ length c.args.bytes.now) (sym c.next_of.ensures) (prefix_len-le-length _ c.args.bytes.now)

pub returns-in_default : goal.returns-in_default
returns-in_default c =
    let inside = c.split_at.result.0.now in
    let rest = c.split_at.result.1.now in
    parts_none 62 inside rest c.in_default.ensures.cases
    ∙ tag_parts c.args.bytes.now inside rest c.next_of.result c.next_of.ensures c.split_at.ensures.front c.split_at.ensures.back

pub returns-then-end-ne62 : goal.returns-then-end-ne62
returns-then-end-ne62 c =
    let inside = c.split_at.result.0.now in
    let rest = c.split_at.result.1.now in
    parts_other 62 c.in-Some.end.now inside rest c.in-Some.after.now c.in-Some.ensures.cases.0 c.if-end-ne62.true
    ∙ tag_parts c.args.bytes.now inside rest c.next_of.result c.next_of.ensures c.split_at.ensures.front c.split_at.ensures.back

pub returns : goal.returns
returns c =
    let inside = c.split_at.result.0.now in
    let rest = c.split_at.result.1.now in
    parts_found 62 c.in-Some.end.now inside rest c.in-Some.after.now c.in-Some.ensures.cases.0 c.if-end-ne62.false
    ∙ tag_parts c.args.bytes.now inside rest c.next_of.result c.next_of.ensures c.split_at.ensures.front c.split_at.ensures.back
