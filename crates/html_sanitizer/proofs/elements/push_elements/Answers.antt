use Rattle.std.proofs.Common.{◌++◌, ap, arith, codes, length, rules, string_bytes, subst, sym, ◌∙◌}
use Rattle.std.specs.List.{take_while}
use Rattle.definition_text.specs.Bytes.{after_all, begins_with}
use Rattle.definition_text.specs.Lines.{ends_line}
use Rattle.definition_html.specs.PageParts.{after_tag}
use Rattle.html_sanitizer.proofs.Nameless.{IsInRun, whole_run, run_goes_on, after_less, next_less}
use Rattle.html_sanitizer.proofs.elements.push_elements.Goals as goal

pub loop-inside-init : goal.loop-inside-init
loop-inside-init g c = (search rules, whole_run c.args.page.now (string_bytes c.args.out.now) c.requires)

pub returns-then-not-starts_with-clause-shorter : goal.returns-then-not-starts_with-clause-shorter
returns-then-not-starts_with-clause-shorter g c =
    let cases = c.in-Some.ensures.cases in
    let is = cases.1.1 ∙ ap (λ y. codes "<>" ++ y) (sym cases.2) in
    let same = ap length (c.split_tag.ensures.after ∙ ap after_tag c.split_text.ensures.after) in
    let less = after_less c.args.page.now (string_bytes c.args.out.now) (string_bytes c.loop-inside.out) c.loop-inside.rest.now c.in-Some.inside.now
    c.loop-inside.invariant.1 is in
    omega (arith, same, less)

pub loop-inside-smaller : goal.loop-inside-smaller
loop-inside-smaller g c =
    let cases = c.in-Some.ensures.cases in
    let is = cases.1.1 ∙ ap (λ y. codes "<>" ++ y) (sym cases.2) in
    let tag = c.split_tag.ensures.after ∙ ap after_tag c.split_text.ensures.after in
    next_less c.args.page.now (string_bytes c.args.out.now) (string_bytes c.loop-inside.out) c.loop-inside.rest.now c.in-Some.inside.now
    c.loop-inside.invariant.1 is c.split_lines.result.1.now (c.split_lines.ensures.after ∙ ap (after_all ends_line) tag)

pub loop-inside-preserved : goal.loop-inside-preserved
loop-inside-preserved g c =
    let page = c.args.page.now in
    let old = string_bytes c.args.out.now in
    let cases = c.in-Some.ensures.cases in
    let is = cases.1.1 ∙ ap (λ y. codes "<>" ++ y) (sym cases.2) in
    let tag = c.split_tag.ensures.after ∙ ap after_tag c.split_text.ensures.after in
    let text = c.split_text.result.0.now in
    let lines = c.split_lines.result.0.now in
    let next = c.split_lines.result.1.now in
    let begins = ap (begins_with (codes "<>")) (sym c.as_bytes.ensures.value) ∙ sym c.starts_with.ensures.value ∙ c.if-not-starts_with.false in (
      search rules,
      subst (λ o. IsInRun page old o next) (sym (c.in_ok-push_str-2.ensures.bytes ∙ ap (λ x. x ++ lines) c.in_ok-push_str.ensures.bytes))
          (run_goes_on page old (string_bytes c.loop-inside.out) c.loop-inside.rest.now c.in-Some.inside.now c.loop-inside.invariant.1 is text lines next
          begins c.split_text.ensures.before (c.split_lines.ensures.lines ∙ ap (take_while ends_line) tag)
          (c.split_lines.ensures.after ∙ ap (after_all ends_line) tag)),
    )
