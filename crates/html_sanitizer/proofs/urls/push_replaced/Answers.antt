use Rattle.std.proofs.Common.{◌≡◌, ◌++◌, string_bytes, sym, ap, ◌∙◌, append_assoc, arith, rules, eqb}
use Rattle.std.specs.List.{before_first}
use Rattle.std.proofs.lemmas.Grind.{common_steps}
use Rattle.std.proofs.lemmas.Str.Pattern.{split_once_first}
use Rattle.html_sanitizer.specs.Urls.{replaced}
use Rattle.html_sanitizer.proofs.UrlTexts.{replaced_first, replaced_none}
use Rattle.html_sanitizer.proofs.urls.push_replaced.Goals as goal

pub loop-before-preserved : goal.loop-before-preserved
loop-before-preserved g c =
    let code = c.args.character in
    let other = c.args.replacement.now in
    let rest = c.loop-before.rest.now in
    let out = string_bytes c.loop-before.out in
    let after = c.in-Some.after.now in
    let cut = rw c.in-Some.is at (split_once_first code rest c.split_once.result c.split_once.ensures.cases c.requires) in
    record {
      utf8 = search rules;
      printed =
          ap (λ x. x ++ replaced code other after) (c.in_ok-push_str-2.ensures.bytes ∙ ap (λ x. x ++ other) c.in_ok-push_str.ensures.bytes)
          ∙ append_assoc (out ++ c.in-Some.before.now) other (replaced code other after)
          ∙ append_assoc out c.in-Some.before.now (other ++ replaced code other after)
          ∙ ap (λ x. out ++ (x ++ (other ++ replaced code other after))) cut.1
          ∙ ap (λ x. out ++ (before_first (λ b. eqb b code) rest ++ (other ++ replaced code other x))) cut.2
          ∙ ap (λ x. out ++ x) (sym (replaced_first code other rest cut.0))
          ∙ c.loop-before.invariant.printed;
    }

pub returns : goal.returns
returns g c =
    let code = c.args.character in
    let other = c.args.replacement.now in
    let rest = c.loop-before.rest.now in
    let none = rw c.in_default.is at (split_once_first code rest c.split_once.result c.split_once.ensures.cases c.requires) in
    let all : string_bytes c.loop-before.out ++ rest ≡ replaced code other c.args.text.now =
    ap (λ x. string_bytes c.loop-before.out ++ x) (sym (replaced_none code other rest none)) ∙ c.loop-before.invariant.printed in
    grind (arith, common_steps)
