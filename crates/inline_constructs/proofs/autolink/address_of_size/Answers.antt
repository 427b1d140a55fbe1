use Rattle.std.proofs.Common.{◌∙◌, drop, sym, ap, subst}
use Rattle.inline_constructs.proofs.Prelude.{begins_with, closed_autolink, codes, content_codes, IsPlain, option_map}
use Rattle.std.specs.Option.{IfSome}
use Rattle.inline_constructs.proofs.AutolinkLemmas.{closed_codes}
use Rattle.inline_constructs.proofs.autolink.address_of_size.Goals as goal

pub returns-then-starts_with-clause-read : goal.returns-then-starts_with-clause-read
returns-then-starts_with-clause-read c =
    let xs = c.args.bytes.now in
    let n = c.in-Some.size in
    let plain = subst (λ o. IfSome o (λ size. IsPlain xs size)) c.in-Some.is c.requires in
    let there = ap (begins_with (codes ">")) (sym c.from.ensures) ∙ sym c.starts_with.ensures.value ∙ c.if-starts_with.true in
    closed_codes c.args.email xs n plain there
    ∙ ap (λ o. closed_autolink c.args.email (content_codes xs) (option_map (λ size. content_codes (drop size xs)) o)) (sym c.in-Some.is)
