use Rattle.std.proofs.Common.{◌≤◌, ◌∙◌, sym, subst, length}
use Rattle.std.proofs.lemmas.List.Sums.{prefix_len-le-length}
use Rattle.html_safe_page.proofs.Places.{quote_parts, parts_none, parts_other, parts_found}
use Rattle.html_safe_page.proofs.tags.split_quoted.Goals as goal

pub split_at-requires : goal.split_at-requires
split_at-requires c = subst (λ n. n ≤ length c.args.bytes.now) (sym c.next_of.ensures) (prefix_len-le-length _ c.args.bytes.now)

pub returns-in_default : goal.returns-in_default
returns-in_default c =
    let inside = c.split_at.result.0.now in
    let rest = c.split_at.result.1.now in
    parts_none 34 inside rest c.in_default.ensures.cases
    ∙ quote_parts c.args.bytes.now inside rest c.next_of.result c.next_of.ensures c.split_at.ensures.front c.split_at.ensures.back

pub returns-then-quote-ne34 : goal.returns-then-quote-ne34
returns-then-quote-ne34 c =
    let inside = c.split_at.result.0.now in
    let rest = c.split_at.result.1.now in
    parts_other 34 c.in-Some.quote.now inside rest c.in-Some.after.now c.in-Some.ensures.cases.0 c.if-quote-ne34.true
    ∙ quote_parts c.args.bytes.now inside rest c.next_of.result c.next_of.ensures c.split_at.ensures.front c.split_at.ensures.back

pub returns : goal.returns
returns c =
    let inside = c.split_at.result.0.now in
    let rest = c.split_at.result.1.now in
    parts_found 34 c.in-Some.quote.now inside rest c.in-Some.after.now c.in-Some.ensures.cases.0 c.if-quote-ne34.false
    ∙ quote_parts c.args.bytes.now inside rest c.next_of.result c.next_of.ensures c.split_at.ensures.front c.split_at.ensures.back
