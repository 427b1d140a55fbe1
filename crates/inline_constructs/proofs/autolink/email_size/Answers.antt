use Rattle.std.proofs.Common.{◌≡◌, ◌+◌, ◌∙◌, Some, refl, drop, sym, ap, subst, arith}
use Rattle.inline_constructs.proofs.Prelude.{begins_with, codes, domain_end, drop-drop, IsPlain, plain_join}
use Rattle.inline_constructs.proofs.AutolinkLemmas.{plain_one, email_is}
use Rattle.inline_constructs.proofs.autolink.email_size.Goals as goal

pub returns-clause-read : goal.returns-clause-read
returns-clause-read c =
    let xs = c.args.bytes.now in
    let n = c.prefix_size-name.result in
    let at = ap (begins_with (codes "@")) (sym c.from-rest.ensures) ∙ sym c.starts_with.ensures.value ∙ c.if-not-starts_with.false in
    let rest = c.from.ensures ∙ ap (drop 1) c.from-rest.ensures in
    let found = subst (λ s. Some (drop c.in-Some.domain s) ≡ domain_end s) rest c.in-Some.ensures.read in
    email_is xs n c.in-Some.domain c.prefix_size-name.ensures.size (omega arith) at found

pub returns-clause-place : goal.returns-clause-place
returns-clause-place c =
    let xs = c.args.bytes.now in
    let n = c.prefix_size-name.result in
    let at = ap (begins_with (codes "@")) (sym c.from-rest.ensures) ∙ sym c.starts_with.ensures.value ∙ c.if-not-starts_with.false in
    let first = plain_join xs n 1 c.prefix_size-name.ensures.plain (plain_one 64 (drop n xs) refl at) in
    let rest = c.from.ensures ∙ ap (drop 1) c.from-rest.ensures ∙ drop-drop 1 n xs in
    plain_join xs (n + 1) c.in-Some.domain first (subst (λ s. IsPlain s c.in-Some.domain) rest c.in-Some.ensures.place)
