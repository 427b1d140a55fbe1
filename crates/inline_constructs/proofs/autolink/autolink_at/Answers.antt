use Rattle.std.proofs.Common.{◌≡◌, ◌+◌, ◌-◌, ◌∙◌, ◌∷◌, [], Some, drop, take, sym, ap, subst, arith}
use Rattle.inline_constructs.proofs.Prelude.{Autolink, autolink_after, begins_with, codes, content_codes, IsAddress, leaf, size_before}
use Rattle.inline_constructs.specs.Leaves.{address_leaf}
use Rattle.inline_constructs.proofs.AutolinkLemmas.{autolink_is, autolink_end, autolink_size}
use Rattle.inline_constructs.proofs.autolink.autolink_at.Goals as goal

pub returns-in_default-clause-read : goal.returns-in_default-clause-read
returns-in_default-clause-read c =
    let xs = c.args.content.now in
    let less = ap (begins_with (codes "<")) (sym c.as_bytes-bytes.ensures.value) ∙ sym c.starts_with.ensures.value ∙ c.if-not-starts_with.false in
    let rest = c.from.ensures ∙ ap (drop 1) c.as_bytes-bytes.ensures.value in
    sym (autolink_is c.args.on.now xs c.if-not-on.false less ∙ ap (λ s. autolink_after (content_codes s)) (sym rest) ∙ sym c.in_default.ensures.read)

pub cut_after-requires : goal.cut_after-requires
cut_after-requires c =
    let xs = c.args.content.now in
    let less = ap (begins_with (codes "<")) (sym c.as_bytes-bytes.ensures.value) ∙ sym c.starts_with.ensures.value ∙ c.if-not-starts_with.false in
    let rest = c.from.ensures ∙ ap (drop 1) c.as_bytes-bytes.ensures.value in
    autolink_end xs c.in-Some.found.size less (subst (λ s. IsAddress s c.in-Some.found.size) rest c.in-Some.ensures.place)

pub returns-clause-read : goal.returns-clause-read
returns-clause-read c =
    let xs = c.args.content.now in
    let found = c.in-Some.found in
    let less = ap (begins_with (codes "<")) (sym c.as_bytes-bytes.ensures.value) ∙ sym c.starts_with.ensures.value ∙ c.if-not-starts_with.false in
    let rest = c.from.ensures ∙ ap (drop 1) c.as_bytes-bytes.ensures.value in
    let there = subst (λ s. address_leaf s (Some found) ≡ autolink_after (content_codes s)) rest c.in-Some.ensures.read in
    let place = subst (λ s. IsAddress s found.size) rest c.in-Some.ensures.place in
    let size : 1 + found.size - 1 ≡ found.size = omega arith in
    ap (λ text. Some (leaf (Autolink found.email text ∷ []) (size_before xs c.cut_after.result.now)))
    (c.text_between.ensures ∙ ap (λ k. take k (drop 1 xs)) size)
    ∙ ap (λ k. Some (leaf (Autolink found.email (take found.size (drop 1 xs)) ∷ []) k))
    (sym (autolink_size xs c.cut_after.result.now found.size less place c.cut_after.ensures.rest))
    ∙ there ∙ sym (autolink_is c.args.on.now xs c.if-not-on.false less)
