use Rattle.std.proofs.Common.{◌∙◌, ◌==◌, length, ap, sym, subst, arith}
use Rattle.std.proofs.lemmas.Bool.{eqb-true, true≢false}
use Rattle.html_safe_page.specs.Machine.{after_letters, next}
use Rattle.html_safe_page.specs.Views.{open_names, if_next}
use Rattle.html_safe_page.proofs.Passed.{letters_shorter}
use Rattle.html_safe_page.proofs.Follow.{none_open, open_none}
use Rattle.html_safe_page.proofs.Led.{IsReached, tag_at_end, nothing_left, reached_first, reached_more, reached_shorter, reached_safe, reached_unsafe}
use Rattle.html_safe_page.proofs.page.unsafe_place_by.Goals as goal

pub loop-rest-init : goal.loop-rest-init
loop-rest-init g c =
    let page = c.args.page.now in
    subst (λ x. IsReached c.args.table page x (open_names c.new-names.result.items))
    (sym (c.after_letters-rest.ensures ∙ ap after_letters c.as_bytes.ensures.value))
    (subst (λ xs. IsReached c.args.table page (after_letters page) (open_names xs)) (sym c.new-names.ensures.items) (reached_first c.args.table page))

pub loop-rest-smaller : goal.loop-rest-smaller
loop-rest-smaller g c =
    let more = open_names c.after_tag.new.names.items in
    let after = c.in-Some.next.now in
    let less = reached_shorter c.args.table c.loop-rest.rest.now (open_names c.loop-rest.names.items) (next after more)
    (c.in_ok-next.ensures ∙ ap (λ o. if_next o more) c.in-Some.is) in
    let most = letters_shorter after in
    let same = ap length c.after_letters-rest-in-loop-rest.ensures in
    omega (arith, less, most, same)

pub loop-rest-preserved : goal.loop-rest-preserved
loop-rest-preserved g c =
    let page = c.args.page.now in
    let more = open_names c.after_tag.new.names.items in
    let after = c.in-Some.next.now in
    subst (λ x. IsReached c.args.table page x more) (sym c.after_letters-rest-in-loop-rest.ensures)
    (reached_more c.args.table page c.loop-rest.rest.now (open_names c.loop-rest.names.items) (next after more) c.loop-rest.invariant
    (c.in_ok-next.ensures ∙ ap (λ o. if_next o more) c.in-Some.is))

pub returns-in_default : goal.returns-in_default
returns-in_default g c =
    let page = c.args.page.now in
    let rest = c.loop-rest.rest.now in
    reached_unsafe c.args.table page rest (open_names c.loop-rest.names.items) c.loop-rest.invariant
    (c.in_ok-next.ensures ∙ ap (λ o. if_next o (open_names c.after_tag.new.names.items)) c.in_default.is)
    c.saturating_sub.result c.saturating_sub.ensures
    (λ e _. true≢false (ap (λ xs. length xs == 0) (sym e) ∙ sym c.is_empty.ensures ∙ c.loop-rest-test.true))

pub returns-then-is_empty : goal.returns-then-is_empty
returns-then-is_empty g c =
    let page = c.args.page.now in
    let rest = c.loop-rest.rest.now in
    let names = c.loop-rest.names.items in
    let none = open_none names (sym c.loop-rest.names.ok.0 ∙ eqb-true c.loop-rest.names.len 0 (sym c.is_empty-2.ensures ∙ c.if-is_empty.true)) in
    reached_safe c.args.table page rest (nothing_left rest (eqb-true (length rest) 0 (sym c.is_empty.ensures ∙ c.loop-rest-test.false)))
    (subst (λ ns. IsReached c.args.table page rest ns) none c.loop-rest.invariant)

pub returns : goal.returns
returns g c =
    let page = c.args.page.now in
    let rest = c.loop-rest.rest.now in
    let names = c.loop-rest.names.items in
    let ended = eqb-true (length rest) 0 (sym c.is_empty.ensures ∙ c.loop-rest-test.false) in
    reached_unsafe c.args.table page rest (open_names names) c.loop-rest.invariant (tag_at_end c.args.table rest (open_names names) ended)
    (length page) (omega (arith, ended))
    (λ _ e. true≢false (ap (λ n. n == 0) (sym (c.loop-rest.names.ok.0 ∙ none_open names e)) ∙ sym c.is_empty-2.ensures ∙ c.if-is_empty.false))
