use Rattle.std.proofs.Common.{◌∙◌, ap, sym}
use Rattle.html_safe_page.specs.Machine.{if_goes_on}
use Rattle.html_safe_page.specs.Views.{open_names}
use Rattle.html_safe_page.proofs.Text.{split}
use Rattle.html_safe_page.proofs.Led.{tag_at_end, tag_other, tag_unended, tag_refused, tag_passed}
use Rattle.html_safe_page.proofs.page.after_tag.Goals as goal

pub returns-in_default : goal.returns-in_default
returns-in_default g c = tag_at_end c.args.table c.args.bytes.now (open_names c.args.names.now.items) c.in_default.ensures.cases

pub returns-then-first-ne60 : goal.returns-then-first-ne60
returns-then-first-ne60 g c =
    tag_other c.args.table c.args.bytes.now c.in-Some.first.now c.in-Some.after.now
    (open_names c.args.names.now.items) c.in-Some.ensures.cases.0 c.if-first-ne60.true

pub returns-in_default-split_tag : goal.returns-in_default-split_tag
returns-in_default-split_tag g c =
    tag_unended c.args.table c.args.bytes.now c.in-Some.first.now c.in-Some.after.now
    (open_names c.args.names.now.items) c.in-Some.ensures.cases.0 c.if-first-ne60.false
    (sym c.in_default-split_tag.ensures)

pub returns-then-not-branch : goal.returns-then-not-branch
returns-then-not-branch g c =
    tag_refused c.args.table c.args.bytes.now c.in-Some.first.now c.in-Some.after.now
    (open_names c.args.names.now.items) c.in-Some.ensures.cases.0 c.if-first-ne60.false
    (split c.in-Some-split_tag.tag.now c.in-Some-split_tag.next.now) (sym c.in-Some-split_tag.ensures)
    (c.in_ok-follow.ensures ∙ ap (λ t. if_goes_on t (open_names c.follow.new.names.items)) c.if-not-branch.true)

pub returns : goal.returns
returns g c =
    tag_passed c.args.table c.args.bytes.now c.in-Some.first.now c.in-Some.after.now (open_names c.args.names.now.items) (open_names c.follow.new.names.items)
    c.in-Some.ensures.cases.0 c.if-first-ne60.false
    (split c.in-Some-split_tag.tag.now c.in-Some-split_tag.next.now) (sym c.in-Some-split_tag.ensures)
    (c.in_ok-follow.ensures ∙ ap (λ t. if_goes_on t (open_names c.follow.new.names.items)) c.if-not-branch.false)
