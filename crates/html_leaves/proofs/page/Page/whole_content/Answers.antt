use Rattle.std.proofs.Common.{◌≡◌, ◌<◌, length, get_or, ℕ, sym, ap, ◌∙◌, subst, arith}
use Rattle.html_leaves.proofs.Prelude.{ending_bytes, LineEnding, OnOk, page_view, with_fresh}
use Rattle.std.proofs.lemmas.Bool.{eqb-false}
use Rattle.html_leaves.proofs.CodeFencedLemmas.{text_content}
use Rattle.html_leaves.proofs.page.Page.whole_content.Goals as goal

pub returns-clause-printed : goal.returns-clause-printed
returns-clause-printed g c = λ options top.
    let page = c.args.self.now in
    let text = c.args.text.now in
    let e = page.default_ending in
    let bytes : (k : ℕ) → get_or text k 0 < 256 = λ k. omega (arith, c.type_inv.text k) in
    let some : 0 < length text = omega (arith, eqb-false (length text) 0 (sym c.is_empty.ensures ∙ c.if-is_empty.false)) in
    subst (λ x. OnOk c.fresh.result (page_view c.fresh.new.self ≡ x))
    (ap (λ (d : LineEnding). with_fresh (ending_bytes d) (page_view c.encode.new.self)) c.in_ok-encode.ensures.default
    ∙ ap (with_fresh (ending_bytes e)) c.in_ok-encode.ensures.printed
    ∙ sym (text_content options e (page_view page) top text bytes some))
    c.fresh.ensures.printed
