use Rattle.std.proofs.Common.{◌-◌, ℕ, List, Bor, length, arith, sym, ap, subst, rules, ◌∙◌}
use Rattle.std.proofs.lemmas.Bool.{eqb-true}
use Rattle.inline_links.specs.Codes.{IsRest}
use Rattle.definition_text.specs.Encode.{encode}
use Rattle.html_safe_page.specs.Views.{open_names}
use Rattle.definition_html.specs.State.{says}
use Rattle.html_sanitizer.specs.Page.{page_state}
use Rattle.html_sanitizer.specs.Sanitized.{page_after, before_marks, begins_with_mark}
use Rattle.html_sanitizer.proofs.Ends.{page_in}
use Rattle.html_sanitizer.proofs.Tokens.{AreBytes}
use Rattle.html_sanitizer.proofs.Marks.{are_bytes, dropped_are, text_printed}
use Rattle.html_sanitizer.proofs.Rests.{marked_after, whole_rest, rest_after_text, rest_after_part}
use Rattle.html_sanitizer.proofs.Parts.{nothing_left}
use Rattle.html_sanitizer.proofs.sanitized.push_raw.Goals as goal

pub loop-rest-init : goal.loop-rest-init
loop-rest-init g c =
    let names = g.T.Tables.reference_of c.args.tables.now in
    let options = c.args.options.now in
    let html = c.args.html.now in
    let page = c.args.page.now in
    let rest = c.in_ok-rest.rest.now in
    let is = c.in_ok-rest.ensures.rest in
    let are = are_bytes html (λ k. omega (arith, c.type_inv.html k)) in (
      search rules,
      ap (λ (x : Bor (List ℕ)). x.now) c.new-searches.ensures,
      subst (λ (x : List ℕ). IsRest html x) (sym is) (rest_after_text html html (whole_rest html)),
      (λ some. ap begins_with_mark is ∙ marked_after html (λ none. some (ap length is ∙ none))),
      ap (λ o. page_after names options (page_in (page_state page) o (open_names page.level.names.items)) rest) c.in_ok-rest.ensures.printed
          ∙ ap (page_after names options (says (encode (before_marks html)) (page_state page))) is
          ∙ text_printed names options (page_state page) html are,
    )

pub loop-rest-preserved : goal.loop-rest-preserved
loop-rest-preserved g c =
    let names = g.T.Tables.reference_of c.args.tables.now in
    let options = c.args.options.now in
    let html = c.args.html.now in
    let page = c.push_part.new.page in
    let rest = c.loop-rest.rest.now in
    let after = c.in_ok-after.after.now in
    let next = c.in_ok-rest-2.rest.now in
    let is = c.in_ok-rest-2.ensures.rest in
    let place = c.loop-rest.invariant.2 in
    let shorter = c.in_ok-after.ensures.shorter in
    let are_html = are_bytes html (λ k. omega (arith, c.type_inv.html k)) in
    let are_rest = subst AreBytes (sym place.place) (dropped_are (length html - length rest) html are_html) in
    let are = subst AreBytes (sym shorter.place) (dropped_are (length rest - length after) rest are_rest) in (
      search rules,
      ap (λ (x : Bor (List ℕ)). x.now) c.push_part.ensures.content ∙ c.loop-rest.invariant.1,
      subst (λ (x : List ℕ). IsRest html x) (sym is) (rest_after_part html rest after place shorter),
      (λ some. ap begins_with_mark is ∙ marked_after after (λ none. some (ap length is ∙ none))),
      ap (λ o. page_after names options (page_in (page_state page) o (open_names page.level.names.items)) next) c.in_ok-rest-2.ensures.printed
          ∙ ap (page_after names options (says (encode (before_marks after)) (page_state page))) is
          ∙ text_printed names options (page_state page) after are
          ∙ c.in_ok-after.ensures.printed
          ∙ c.loop-rest.invariant.4,
    )

pub returns : goal.returns
returns g c =
    let names = g.T.Tables.reference_of c.args.tables.now in
    let options = c.args.options.now in
    sym (nothing_left names options (page_state c.loop-rest.page) c.loop-rest.rest.now
    (eqb-true (length c.loop-rest.rest.now) 0 (sym c.is_empty.ensures ∙ c.loop-rest-test.false)))
    ∙ c.loop-rest.invariant.4
