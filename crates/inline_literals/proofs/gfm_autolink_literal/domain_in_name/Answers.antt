use Rattle.std.proofs.Common.{◌≡◌, length, sym, ap, ◌∙◌, arith}
use Rattle.std.proofs.lemmas.List.{length-take-le}
use Rattle.inline_literals.specs.Literals.{domain_size}
use Rattle.inline_literals.proofs.InVain.{name_length, domain_part, domain_whole}
use Rattle.inline_literals.proofs.gfm_autolink_literal.domain_in_name.Goals as goal

pub returns-then-goes_beyond-clause-size : goal.returns-then-goes_beyond-clause-size
returns-then-goes_beyond-clause-size g c =
    let p = g.T.Tables.punctuation_of c.args.tables.now in
    let after = c.args.after.now in
    let value = c.as_bytes-bytes.ensures.value in
    let whole = c.domain_size-domain.ensures.size ∙ ap (λ l. domain_size p (length l) after) value in
    whole ∙ domain_whole p (name_length after) after (omega (arith, whole, ap name_length value, c.goes_beyond.ensures c.if-goes_beyond.true))

pub returns-then-size-domain-clause-size : goal.returns-then-size-domain-clause-size
returns-then-size-domain-clause-size g c =
    let p = g.T.Tables.punctuation_of c.args.tables.now in
    let after = c.args.after.now in
    let value = c.as_bytes-bytes.ensures.value in
    let name = c.name_size-size.ensures in
    let whole = c.domain_size-domain.ensures.size ∙ ap (λ l. domain_size p (length l) after) value in
    let count : c.name_size-size.result ≡ name_length after =
    sym (length-take-le c.name_size-size.result c.as_bytes-bytes.result.now name.plain.within) ∙ ap length name.name ∙ ap name_length value in
    count ∙ domain_part p (name_length after) after (omega (arith, whole, count, c.if-size-domain.true))

pub returns-else-size-domain-clause-size : goal.returns-else-size-domain-clause-size
returns-else-size-domain-clause-size g c =
    let p = g.T.Tables.punctuation_of c.args.tables.now in
    let after = c.args.after.now in
    let value = c.as_bytes-bytes.ensures.value in
    let name = c.name_size-size.ensures in
    let whole = c.domain_size-domain.ensures.size ∙ ap (λ l. domain_size p (length l) after) value in
    let count : c.name_size-size.result ≡ name_length after =
    sym (length-take-le c.name_size-size.result c.as_bytes-bytes.result.now name.plain.within) ∙ ap length name.name ∙ ap name_length value in
    whole ∙ domain_whole p (name_length after) after (omega (arith, whole, count, c.if-size-domain.false))
