use Rattle.std.proofs.Common.{sym, ◌∙◌}
use Rattle.std.proofs.lemmas.Bool.{true≢false}
use Rattle.html_listed_page.proofs.Taking.{taken, absent, refused}
use Rattle.html_listed_page.proofs.attributes.after_attribute.Goals as goal

pub returns-in_default : goal.returns-in_default
returns-in_default g c = λ more _. absent c.args.name.now c.args.text.now (rw c.in_default.is at c.split_attribute.ensures) more

pub returns-then-not-is_value : goal.returns-then-not-is_value
returns-then-not-is_value g c =
    let found = rw c.in-Some.is at c.split_attribute.ensures in
    λ more words. refused c.args.name.now c.args.text.now c.in-Some.value.now c.in-Some.after.now found.0 found.1
    (λ h _. true≢false (sym h ∙ sym c.is_value.ensures ∙ c.if-not-is_value.true)) more words

pub returns-then-branch : goal.returns-then-branch
returns-then-branch g c =
    let found = rw c.in-Some.is at c.split_attribute.ensures in
    λ more words. taken c.args.name.now c.args.text.now c.in-Some.value.now c.in-Some.after.now found.0 found.1
    (sym c.is_value.ensures ∙ c.if-not-is_value.false) (c.in_ok-is_text.ensures.0 c.if-branch.true) more words

pub returns : goal.returns
returns g c =
    let found = rw c.in-Some.is at c.split_attribute.ensures in
    λ more words. refused c.args.name.now c.args.text.now c.in-Some.value.now c.in-Some.after.now found.0 found.1
    (λ _ t. true≢false (sym (c.in_ok-is_text.ensures.1 t) ∙ c.if-branch.false)) more words
