use Rattle.std.proofs.Common.{◌≡◌, ◌⊎◌, IfOk, sym, ap, ◌∙◌, subst, get_or, arith}
use Rattle.inline_constructs.proofs.Prelude.{content_codes, eqb-true, escaped_break_at, found_leaf, html_text_at, or_else}
use Rattle.inline_constructs.proofs.FirstBytes as first
use Rattle.inline_constructs.proofs.leaf_at.leaf_at.Goals as goal

pub returns-then-is_empty-clause-read : goal.returns-then-is_empty-clause-read
returns-then-is_empty-clause-read g c =
    let empty = eqb-true _ 0 (sym c.is_empty.ensures ∙ c.if-is_empty.true) in
    sym (first.by_nothing c.args.options.now (g.T.Tables.reference_of c.args.tables.now) c.args.rest.now empty)

pub returns-in-None-clause-read : goal.returns-in-None-clause-read
returns-in-None-clause-read g c =
    let xs = c.args.rest.now in
    let options = c.args.options.now in
    let byte : get_or xs 0 0 ≡ 92 = ap (λ s. get_or s 0 0) (sym c.as_bytes.ensures.value) ∙ c.in-92.is in
    c.escaped_break_at.ensures.read ∙ ap (λ o. or_else o (escaped_break_at options.constructs (content_codes xs))) c.in-None.ensures.read
    ∙ sym (first.by_backslash options (g.T.Tables.reference_of c.args.tables.now) xs byte)

pub returns-in-38-clause-read : goal.returns-in-38-clause-read
returns-in-38-clause-read g c =
    let xs = c.args.rest.now in
    let byte : get_or xs 0 0 ≡ 38 = ap (λ s. get_or s 0 0) (sym c.as_bytes.ensures.value) ∙ c.in-38.is in
    c.reference_at.ensures.read ∙ sym (first.by_ampersand c.args.options.now (g.T.Tables.reference_of c.args.tables.now) xs byte)

pub returns-in-96-clause-read : goal.returns-in-96-clause-read
returns-in-96-clause-read g c =
    let xs = c.args.rest.now in
    let byte : get_or xs 0 0 ≡ 96 = ap (λ s. get_or s 0 0) (sym c.as_bytes.ensures.value) ∙ c.in-96.is in
    subst (λ o. IfOk c.code_text_at.result (λ found. found_leaf xs found ≡ o))
    (sym (first.by_backtick c.args.options.now (g.T.Tables.reference_of c.args.tables.now) xs byte)) c.code_text_at.ensures.read

pub returns-in-36-clause-read : goal.returns-in-36-clause-read
returns-in-36-clause-read g c =
    let xs = c.args.rest.now in
    let byte : get_or xs 0 0 ≡ 36 = ap (λ s. get_or s 0 0) (sym c.as_bytes.ensures.value) ∙ c.in-36.is in
    subst (λ o. IfOk c.math_text_at.result (λ found. found_leaf xs found ≡ o))
    (sym (first.by_dollar c.args.options.now (g.T.Tables.reference_of c.args.tables.now) xs byte)) c.math_text_at.ensures.read

pub returns-in-Some-autolink_at-clause-read : goal.returns-in-Some-autolink_at-clause-read
returns-in-Some-autolink_at-clause-read g c =
    let xs = c.args.rest.now in
    let options = c.args.options.now in
    let byte : get_or xs 0 0 ≡ 60 = ap (λ s. get_or s 0 0) (sym c.as_bytes.ensures.value) ∙ c.in-60.is in
    ap (λ o. or_else o (html_text_at options.constructs (content_codes xs))) c.in-Some-autolink_at.ensures.read
    ∙ sym (first.by_angle options (g.T.Tables.reference_of c.args.tables.now) xs byte)

pub returns-in-None-autolink_at-clause-read : goal.returns-in-None-autolink_at-clause-read
returns-in-None-autolink_at-clause-read g c =
    let xs = c.args.rest.now in
    let options = c.args.options.now in
    let byte : get_or xs 0 0 ≡ 60 = ap (λ s. get_or s 0 0) (sym c.as_bytes.ensures.value) ∙ c.in-60.is in
    c.html_text_at.ensures.read ∙ ap (λ o. or_else o (html_text_at options.constructs (content_codes xs))) c.in-None-autolink_at.ensures.read
    ∙ sym (first.by_angle options (g.T.Tables.reference_of c.args.tables.now) xs byte)

pub returns-in-10-clause-read : goal.returns-in-10-clause-read
returns-in-10-clause-read g c =
    let xs = c.args.rest.now in
    let byte : (get_or xs 0 0 ≡ 10) ⊎ (get_or xs 0 0 ≡ 13) = subst (λ s. (get_or s 0 0 ≡ 10) ⊎ (get_or s 0 0 ≡ 13)) c.as_bytes.ensures.value c.in-10.is in
    c.line_end_at.ensures.read ∙ sym (first.by_line_end c.args.options.now (g.T.Tables.reference_of c.args.tables.now) xs byte)

pub returns-in-32-clause-read : goal.returns-in-32-clause-read
returns-in-32-clause-read g c =
    let xs = c.args.rest.now in
    let byte : (get_or xs 0 0 ≡ 9) ⊎ (get_or xs 0 0 ≡ 32) = subst (λ s. (get_or s 0 0 ≡ 9) ⊎ (get_or s 0 0 ≡ 32)) c.as_bytes.ensures.value c.in-32.is in
    c.line_spaces_at.ensures.read ∙ sym (first.by_white c.args.options.now (g.T.Tables.reference_of c.args.tables.now) xs byte)

pub returns-in_default-clause-read : goal.returns-in_default-clause-read
returns-in_default-clause-read g c =
    let xs = c.args.rest.now in
    let same : get_or c.as_bytes.result.now 0 0 ≡ get_or xs 0 0 = ap (λ s. get_or s 0 0) c.as_bytes.ensures.value in
    let names = g.T.Tables.reference_of c.args.tables.now in
    sym (first.by_other c.args.options.now names xs (omega (arith, c.type_inv.rest 0)) (λ e. omega (arith, same)) (λ e. omega (arith, same))
    (λ e. omega (arith, same)) (λ e. omega (arith, same)) (λ e. omega (arith, same))
    (λ e. grind (arith, same)) (λ e. grind (arith, same)) (λ e. grind (arith, same)) (λ e. grind (arith, same)))
