use Rattle.std.proofs.Common.{◌≡◌, None, sym, subst, arith}
use Rattle.inline_constructs.proofs.Prelude.{html_after}
use Rattle.inline_constructs.proofs.HtmlTextLemmas.{are_bytes}
use Rattle.inline_constructs.proofs.Searching.{html_lacks}
use Rattle.inline_constructs.proofs.searches.Searches.html_text_at.Goals as goal

pub returns-then-lacks_end-clause-read : goal.returns-then-lacks_end-clause-read
returns-then-lacks_end-clause-read g c =
    let xs = c.args.rest.now in
    let none = subst (λ s. html_after s ≡ None) c.as_bytes.ensures.value (c.lacks_end.ensures.none c.if-lacks_end.true) in
    sym (html_lacks c.args.on.now xs (are_bytes xs (λ k. omega (arith, c.type_inv.rest k))) none)
