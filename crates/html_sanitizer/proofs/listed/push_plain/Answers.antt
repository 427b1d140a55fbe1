use Rattle.std.proofs.Common.{◌++◌, ap, arith, rules, string_bytes, take, ◌∙◌}
use Rattle.std.specs.Str.{IsUtf8}
use Rattle.definition_html.specs.State.{state}
use Rattle.html_sanitizer.specs.Elements.{parts_after}
use Rattle.html_sanitizer.specs.Page.{level_of, levels_of}
use Rattle.html_sanitizer.proofs.Plain.{front_cut, front_taken}
use Rattle.html_sanitizer.proofs.listed.push_plain.Goals as goal

pub range-requires-clause-end_boundary : goal.range-requires-clause-end_boundary
range-requires-clause-end_boundary g c =
    let rest = c.in_ok-rest.rest.now in
    let so = c.in_ok-rest.ensures.plain in
    let utf8 : IsUtf8 rest = search rules in
    front_cut c.args.text.now so.run rest so.whole utf8

pub returns-clause-printed : goal.returns-clause-printed
returns-clause-printed g c = λ names options.
    let rest = c.in_ok-rest.rest.now in
    let so = c.in_ok-rest.ensures.plain in
    let page = c.pass_plain.new.page in
    let taken = c.range.ensures.value ∙ ap (λ n. take n c.args.text.now) (omega arith) ∙ front_taken c.args.text.now so.run rest so.whole in
    let printed = c.in_ok-push_str.ensures.bytes ∙ ap (λ x. string_bytes page.out ++ x) taken in
    ap (λ o. parts_after names options (state o (level_of page.level) (levels_of page.around.items)) rest) printed ∙ so.passed names options

pub returns-clause-tag : goal.returns-clause-tag
returns-clause-tag g c = let so = c.in_ok-rest.ensures.plain in so.stops
