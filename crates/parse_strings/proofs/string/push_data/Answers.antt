use Rattle.std.proofs.Common.{◌≡◌, ◌+◌, arith, drop, ap, ◌∙◌}
use Rattle.parse_strings.proofs.Prelude.{is_ink, prefix_len, prefix_len-le-length}
use Rattle.parse_strings.proofs.Parts.{data_part}
use Rattle.parse_strings.proofs.Texts.{data_step}
use Rattle.parse_strings.proofs.string.push_data.Goals as goal

pub returns-clause-written : goal.returns-clause-written
returns-clause-written g c = λ on names text content stop some utf8 none st whole.
    let xs = c.args.bytes.now in
    let more : c.data_size.result ≡ prefix_len is_ink (drop 1 xs) = c.data_size.ensures ∙ ap (prefix_len is_ink) c.bytes_from.ensures.rest in
    let size : c.saturating_add-size.result ≡ 1 + prefix_len is_ink (drop 1 xs) =
    omega (arith, c.saturating_add-size.ensures, more, c.data_size.ensures, prefix_len-le-length is_ink c.bytes_from.result.now, c.bytes_from.type_inv.1) in
    let step = data_step on names xs c.saturating_add-size.result (λ k. omega (arith, c.type_inv.bytes k)) some none size in
    data_part text stop on names _ _ xs content c.saturating_add-size.result step utf8 (omega (arith, size)) st whole c.in_ok-data.ensures.stays
    (c.in_ok-data.ensures.written text)
