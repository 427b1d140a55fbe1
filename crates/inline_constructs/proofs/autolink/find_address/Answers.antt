use Rattle.std.proofs.Common.{◌∙◌, false, true, ap}
use Rattle.inline_constructs.proofs.Prelude.{closed_autolink, content_codes, email_end, or_else}
use Rattle.inline_constructs.proofs.AutolinkLemmas.{uri_found, email_found}
use Rattle.inline_constructs.proofs.autolink.find_address.Goals as goal

pub returns-in-Some-clause-read : goal.returns-in-Some-clause-read
returns-in-Some-clause-read c =
    let xs = c.args.bytes.now in
    let first = c.in-Some.ensures.read ∙ uri_found false xs c.uri_size.result c.uri_size.ensures.read in
    ap (λ o. or_else o (closed_autolink true (content_codes xs) (email_end (content_codes xs)))) first

pub returns-in-None-clause-read : goal.returns-in-None-clause-read
returns-in-None-clause-read c =
    let xs = c.args.bytes.now in
    let first = c.in-None.ensures.read ∙ uri_found false xs c.uri_size.result c.uri_size.ensures.read in
    c.address_of_size-in-None.ensures.read ∙ email_found true xs c.email_size.result c.email_size.ensures.read
    ∙ ap (λ o. or_else o (closed_autolink true (content_codes xs) (email_end (content_codes xs)))) first
