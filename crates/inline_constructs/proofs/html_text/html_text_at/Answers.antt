use Rattle.std.proofs.Common.{◌≡◌, ◌∙◌, ◌∷◌, [], None, Some, drop, sym, ap, arith, subst}
use Rattle.inline_constructs.proofs.Prelude.{begins_with, boundary_after_byte, codes, content_codes, Html, html_after, IsClosed, leaf, size_before}
use Rattle.inline_constructs.proofs.HtmlTextLemmas.{are_bytes, closed_end, html_none, html_some}
use Rattle.inline_constructs.proofs.html_text.html_text_at.Goals as goal

pub returns-in_default-clause-read : goal.returns-in_default-clause-read
returns-in_default-clause-read c =
    let xs = c.args.content.now in
    let less = ap (begins_with (codes "<")) (sym c.as_bytes-bytes.ensures.value) ∙ sym c.starts_with.ensures.value ∙ c.if-not-starts_with.false in
    let none = subst (λ s. None ≡ html_after s) c.as_bytes-bytes.ensures.value c.in_default.ensures.read in
    sym (html_none c.args.on.now xs (are_bytes xs (λ k. omega (arith, c.type_inv.content k))) c.if-not-on.false less none)

pub text_before-requires : goal.text_before-requires
text_before-requires c =
    let xs = c.args.content.now in
    let end = closed_end xs c.in-Some.size (subst (λ s. IsClosed s c.in-Some.size) c.as_bytes-bytes.ensures.value c.in-Some.ensures.place) in
    boundary_after_byte xs c.in-Some.size c.utf8.content end.some end.within end.ascii

pub cut_after-requires : goal.cut_after-requires
cut_after-requires c =
    closed_end c.args.content.now c.in-Some.size (subst (λ s. IsClosed s c.in-Some.size) c.as_bytes-bytes.ensures.value c.in-Some.ensures.place)

pub returns-clause-read : goal.returns-clause-read
returns-clause-read c =
    let xs = c.args.content.now in
    let n = c.in-Some.size in
    let rest = c.cut_after.result.now in
    let less = ap (begins_with (codes "<")) (sym c.as_bytes-bytes.ensures.value) ∙ sym c.starts_with.ensures.value ∙ c.if-not-starts_with.false in
    let end = closed_end xs n (subst (λ s. IsClosed s n) c.as_bytes-bytes.ensures.value c.in-Some.ensures.place) in
    let found = subst (λ s. Some (drop n s) ≡ html_after s) c.as_bytes-bytes.ensures.value c.in-Some.ensures.read in
    ap (λ text. Some (leaf (Html (content_codes text) ∷ []) (size_before xs rest))) c.text_before.ensures
    ∙ html_some c.args.on.now xs rest n (are_bytes xs (λ k. omega (arith, c.type_inv.content k))) c.if-not-on.false less end c.cut_after.ensures.rest found
