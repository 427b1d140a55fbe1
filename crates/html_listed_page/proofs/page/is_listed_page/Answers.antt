use Rattle.std.proofs.Common.{◌↔◌, ◌==◌, ◌∷◌, IsTrue, length, ap, sym, subst, arith, lit<, rules, ◌∙◌}
use Rattle.std.proofs.lemmas.Bool.{true≢false, false≢true, eqb-true}
use Rattle.std.proofs.lemmas.List.{length-append}
use Rattle.std.proofs.lemmas.Str.Pattern.{split_parts}
use Rattle.html_safe_page.specs.Views.{open_names}
use Rattle.html_safe_page.proofs.Follow.{none_open, open_none}
use Rattle.html_listed.specs.ListedPage.{IsListedPage}
use Rattle.html_listed_page.specs.Rest.{IsRest, Leads}
use Rattle.html_listed_page.specs.Tags.{IsText}
use Rattle.html_listed_page.proofs.Outcomes.{both_ways, from_ok}
use Rattle.html_listed_page.proofs.Cuts.{lacks_by_places}
use Rattle.html_listed_page.proofs.Pages.{page_rest, goes_on, no_letters, no_tag_end, no_tag, still_open, at_last}
use Rattle.html_listed_page.proofs.page.is_listed_page.Goals as goal

pub loop-letters-init : goal.loop-letters-init
loop-letters-init g c =
    let page = c.args.page.now in
    let table = c.args.table in (
      search rules,
      subst (λ xs. IsRest table (open_names xs) page ↔ IsListedPage table page) (sym c.new-names.ensures.items) (page_rest table page),
    )

pub returns-then-not-reads : goal.returns-then-not-reads
returns-then-not-reads g c =
    let rest = c.loop-letters.rest.now in
    let cut = rw c.in-Some.is at (split_parts 60 rest c.split_once.result c.split_once.ensures.cases (lit< tt)) in
    let letters = c.in-Some.letters.now in (
      (λ e. absurd (false≢true e)),
      λ p. no_letters c.args.table (open_names c.loop-letters.names.items) rest letters c.in-Some.after.now c.args.page.now cut.0
          (lacks_by_places 60 letters cut.1) (λ t. true≢false (sym (c.in_ok-reads.ensures.1 t) ∙ c.if-not-reads.true)) c.loop-letters.invariant.1 p,
    )

pub returns-in_default-split_once : goal.returns-in_default-split_once
returns-in_default-split_once g c =
    let rest = c.loop-letters.rest.now in
    let cut = rw c.in-Some.is at (split_parts 60 rest c.split_once.result c.split_once.ensures.cases (lit< tt)) in
    let letters = c.in-Some.letters.now in
    let after = c.in-Some.after.now in
    let none = rw c.in_default-split_once.is at (split_parts 62 after c.split_once-in-Some.result c.split_once-in-Some.ensures.cases (lit< tt)) in (
      (λ e. absurd (false≢true e)),
      λ p. no_tag_end c.args.table (open_names c.loop-letters.names.items) rest letters after c.args.page.now cut.0
          (lacks_by_places 60 letters cut.1) (lacks_by_places 62 after none) c.loop-letters.invariant.1 p,
    )

pub follow-requires : goal.follow-requires
follow-requires g c =
    let found = rw c.in-Some-split_once.is at (split_parts 62 c.in-Some.after.now c.split_once-in-Some.result c.split_once-in-Some.ensures.cases (lit< tt)) in
    lacks_by_places 62 c.in-Some-split_once.tag.now found.1

pub returns-then-not-goes_on : goal.returns-then-not-goes_on
returns-then-not-goes_on g c =
    let rest = c.loop-letters.rest.now in
    let cut = rw c.in-Some.is at (split_parts 60 rest c.split_once.result c.split_once.ensures.cases (lit< tt)) in
    let letters = c.in-Some.letters.now in
    let after = c.in-Some.after.now in
    let found = rw c.in-Some-split_once.is at (split_parts 62 after c.split_once-in-Some.result c.split_once-in-Some.ensures.cases (lit< tt)) in
    let tag = c.in-Some-split_once.tag.now in
    let ns = open_names c.loop-letters.names.items in
    let ms = open_names c.follow.new.names.items in (
      (λ e. absurd (false≢true e)),
      λ p. no_tag c.args.table ns ms rest letters after tag c.in-Some-split_once.next.now c.args.page.now cut.0 (lacks_by_places 60 letters cut.1) found.0
          (subst (λ t. Leads c.args.table t tag ns ms) c.if-not-goes_on.true c.in_ok-goes_on.ensures) c.loop-letters.invariant.1 p,
    )

pub loop-letters-smaller : goal.loop-letters-smaller
loop-letters-smaller g c =
    let rest = c.loop-letters.rest.now in
    let cut = rw c.in-Some.is at (split_parts 60 rest c.split_once.result c.split_once.ensures.cases (lit< tt)) in
    let letters = c.in-Some.letters.now in
    let after = c.in-Some.after.now in
    let found = rw c.in-Some-split_once.is at (split_parts 62 after c.split_once-in-Some.result c.split_once-in-Some.ensures.cases (lit< tt)) in
    let tag = c.in-Some-split_once.tag.now in
    let next = c.in-Some-split_once.next.now in
    omega (arith, ap length cut.0, length-append letters (60 ∷ after), ap length found.0, length-append tag (62 ∷ next))

pub loop-letters-preserved : goal.loop-letters-preserved
loop-letters-preserved g c =
    let rest = c.loop-letters.rest.now in
    let cut = rw c.in-Some.is at (split_parts 60 rest c.split_once.result c.split_once.ensures.cases (lit< tt)) in
    let letters = c.in-Some.letters.now in
    let after = c.in-Some.after.now in
    let found = rw c.in-Some-split_once.is at (split_parts 62 after c.split_once-in-Some.result c.split_once-in-Some.ensures.cases (lit< tt)) in
    let tag = c.in-Some-split_once.tag.now in
    let ns = open_names c.loop-letters.names.items in
    let ms = open_names c.follow.new.names.items in (
      search rules,
      goes_on c.args.table ns ms rest letters after tag c.in-Some-split_once.next.now c.args.page.now cut.0 (lacks_by_places 60 letters cut.1)
          (c.in_ok-reads.ensures.0 c.if-not-reads.false) found.0 (subst (λ t. Leads c.args.table t tag ns ms) c.if-not-goes_on.false c.in_ok-goes_on.ensures)
          c.loop-letters.invariant.1,
    )

pub returns-then-not-is_empty : goal.returns-then-not-is_empty
returns-then-not-is_empty g c =
    let rest = c.loop-letters.rest.now in
    let names = c.loop-letters.names in
    let none = rw c.in_default.is at (split_parts 60 rest c.split_once.result c.split_once.ensures.cases (lit< tt)) in (
      (λ e. absurd (false≢true e)),
      λ p. still_open c.args.table (open_names names.items) rest c.args.page.now
          (λ e. true≢false (ap (λ n. n == 0) (sym (names.ok.0 ∙ none_open names.items e)) ∙ sym c.is_empty.ensures ∙ c.if-not-is_empty.true))
          (lacks_by_places 60 rest none) c.loop-letters.invariant.1 p,
    )

pub returns : goal.returns
returns g c =
    let table = c.args.table in
    let page = c.args.page.now in
    let rest = c.loop-letters.rest.now in
    let names = c.loop-letters.names in
    let none = rw c.in_default.is at (split_parts 60 rest c.split_once.result c.split_once.ensures.cases (lit< tt)) in
    let empty = open_none names.items (sym names.ok.0 ∙ eqb-true names.len 0 (sym c.is_empty.ensures ∙ c.if-not-is_empty.false)) in
    from_ok c.is_text-2.result (λ yes. IsTrue yes ↔ IsText rest) (λ yes. IsTrue yes ↔ IsListedPage table page)
    (λ yes p. both_ways p (at_last table rest page (lacks_by_places 60 rest none)
    (subst (λ ns. IsRest table ns rest ↔ IsListedPage table page) empty c.loop-letters.invariant.1)))
    c.is_text-2.ensures
