use Rattle.std.proofs.Common.{◌+◌, ◌∙◌, refl, drop, sym, ap, subst, arith}
use Rattle.inline_constructs.proofs.Prelude.{begins_with, codes, drop-drop, is_uri_byte, IsPlain, plain_join, prefix_len}
use Rattle.inline_constructs.proofs.AutolinkLemmas.{plain_one, uri_is}
use Rattle.inline_constructs.proofs.autolink.uri_size.Goals as goal

pub returns-clause-read : goal.returns-clause-read
returns-clause-read c =
    let xs = c.args.bytes.now in
    let n = c.prefix_size-scheme.result in
    let colon = ap (begins_with (codes ":")) (sym c.from-rest.ensures) ∙ sym c.starts_with.ensures.value ∙ c.if-not-starts_with.false in
    let size = c.prefix_size.ensures.size ∙ ap (prefix_len is_uri_byte) (c.from.ensures ∙ ap (drop 1) c.from-rest.ensures) in
    uri_is xs n c.prefix_size.result c.prefix_size-scheme.ensures.size (omega arith) (omega arith)
    (sym c.begins_with_letter.ensures ∙ c.if-not-begins_with_letter.false) colon size

pub returns-clause-place : goal.returns-clause-place
returns-clause-place c =
    let xs = c.args.bytes.now in
    let n = c.prefix_size-scheme.result in
    let colon = ap (begins_with (codes ":")) (sym c.from-rest.ensures) ∙ sym c.starts_with.ensures.value ∙ c.if-not-starts_with.false in
    let first = plain_join xs n 1 c.prefix_size-scheme.ensures.plain (plain_one 58 (drop n xs) refl colon) in
    let rest = c.from.ensures ∙ ap (drop 1) c.from-rest.ensures ∙ drop-drop 1 n xs in
    plain_join xs (n + 1) c.prefix_size.result first (subst (λ s. IsPlain s c.prefix_size.result) rest c.prefix_size.ensures.plain)
