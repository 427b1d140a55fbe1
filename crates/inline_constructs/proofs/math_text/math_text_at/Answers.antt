use Rattle.std.proofs.Common.{◌≡◌, ◌==◌, refl, IfOk, sym, ap, ◌∙◌, subst}
use Rattle.inline_constructs.proofs.Prelude.{content_codes, found_leaf, may_open_math, prefix_codes, raw_at, run}
use Rattle.inline_constructs.proofs.math_text.math_text_at.Goals as goal

pub returns-clause-read : goal.returns-clause-read
returns-clause-read g c =
    let xs = c.args.rest.now in
    let options = c.args.options.now in
    let codes : run 36 (content_codes xs) ≡ run 36 xs = prefix_codes (λ b. b == 36) refl refl xs in
    let may : c.may_open_math-may_open.result ≡ may_open_math options (run 36 (content_codes xs)) =
    c.may_open_math-may_open.ensures ∙ ap (λ s. may_open_math options (run 36 s)) c.as_bytes.ensures.value ∙ ap (may_open_math options) (sym codes) in
    subst (λ t. IfOk c.raw_text_at.result (λ found. found_leaf xs found ≡ raw_at 36 t (content_codes xs))) may c.raw_text_at.ensures.read
