use Rattle.std.proofs.Common.{◌≡◌, ◌+◌, ◌<◌, ◌≤◌, ◌^◌, false, true, length, string_bytes, sym, ap, ◌∙◌, arith}
use Rattle.definition_page.specs.Slug.{is_taken, numbered}
use Rattle.definition_page.proofs.FreeSlugs.{numbers_fit}
use Rattle.text_slugs.proofs.Numbers.{free_of, numbered_next, taken_more}
use Rattle.text_slugs.proofs.slugs.next_free.Goals as goal

pub loop-before-preserved : goal.loop-before-preserved
loop-before-preserved g c = λ taken held given.
    let slug = c.args.slug.now in
    let number = c.loop-before.before + 1 in
    let named : string_bytes c.in_ok-free.free ≡ numbered slug number = c.in_ok-free.ensures.ok ∙ sym (numbered_next slug c.loop-before.before) in
    let last : is_taken taken (numbered slug number) ≡ true =
    ap (is_taken taken) (sym (c.as_str.ensures.value ∙ named)) ∙ sym (c.contains_key.ensures ∙ held.keys c.as_str.result.now)
    ∙ c.if-not-contains_key.false in
    taken_more taken slug number (c.loop-before.invariant taken held given) last

pub returns-then-not-contains_key : goal.returns-then-not-contains_key
returns-then-not-contains_key g c = λ taken held given.
    let slug = c.args.slug.now in
    let before = c.loop-before.before in
    let named : string_bytes c.in_ok-free.free ≡ numbered slug (before + 1) = c.in_ok-free.ensures.ok ∙ sym (numbered_next slug before) in
    let new : is_taken taken (string_bytes c.in_ok-free.free) ≡ false =
    ap (is_taken taken) (sym c.as_str.ensures.value) ∙ sym (c.contains_key.ensures ∙ held.keys c.as_str.result.now) ∙ c.if-not-contains_key.true in
    let size : c.len-before-end.result ≡ length taken = c.len-before-end.ensures.len ∙ held.count in
    let within : before < c.len-before-end.result = c.loop-before-test.true in
    let fits : before + 1 ≤ length taken = omega arith in
    free_of taken slug (before + 1) (string_bytes c.in_ok-free.free) fits named (c.loop-before.invariant taken held given) new

pub returns : goal.returns
returns g c = λ taken held given.
    let slug = c.args.slug.now in
    let before = c.loop-before.before in
    let size : c.len-before-end.result ≡ length taken = c.len-before-end.ensures.len ∙ held.count in
    let small : c.len-before-end.result < 2 ^ 63 = c.len-before-end.ensures.small in
    let past : c.len-before-end.result ≤ before = c.loop-before-test.false in
    let all = c.loop-before.invariant taken held given in
    let few : length taken + 1 ≤ 2 ^ 64 = omega arith in
    let full : length taken + 1 ≤ length taken = numbers_fit taken slug (length taken + 1) few (λ n below. all n (omega arith)) in
    absurd (omega arith)
