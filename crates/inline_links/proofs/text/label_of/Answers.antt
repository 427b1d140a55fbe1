use Rattle.std.proofs.Common.{◌≡◌, Some, arith, ap, sym, ◌∙◌, subst}
use Rattle.inline_links.proofs.Prelude.{content_codes, IsLater, IsShorterRest, label_at, part_of}
use Rattle.inline_links.proofs.Places.{is_later}
use Rattle.inline_links.proofs.Texts.{is_text, label_text}
use Rattle.inline_links.proofs.text.label_of.Goals as goal

pub text_of-requires : goal.text_of-requires
text_of-requires c =
    let xs = c.args.content.now in
    let found : label_at (content_codes xs) ≡ Some (part_of c.in_ok-read.read) =
    ap (λ bytes. label_at (content_codes bytes)) (sym c.as_bytes.ensures.value) ∙ sym c.in_ok-read.ensures.read in
    (label_text (content_codes xs) (part_of c.in_ok-read.read) (is_text xs (λ k. omega (arith, c.type_inv.content k)) c.utf8.content) found).text

pub text_of-requires-2 : goal.text_of-requires-2
text_of-requires-2 c =
    let xs = c.args.content.now in
    let found : label_at (content_codes xs) ≡ Some (part_of c.in_ok-read.read) =
    ap (λ bytes. label_at (content_codes bytes)) (sym c.as_bytes.ensures.value) ∙ sym c.in_ok-read.ensures.read in
    (label_text (content_codes xs) (part_of c.in_ok-read.read) (is_text xs (λ k. omega (arith, c.type_inv.content k)) c.utf8.content) found).rest

pub returns-clause-place : goal.returns-clause-place
returns-clause-place c =
    let xs = c.args.content.now in
    let found : label_at (content_codes xs) ≡ Some (part_of c.in_ok-read.read) =
    ap (λ bytes. label_at (content_codes bytes)) (sym c.as_bytes.ensures.value) ∙ sym c.in_ok-read.ensures.read in
    let parts = label_text (content_codes xs) (part_of c.in_ok-read.read) (is_text xs (λ k. omega (arith, c.type_inv.content k)) c.utf8.content) found in
    let place = subst (λ bytes. IsShorterRest bytes c.in_ok-read.read.rest.now) c.as_bytes.ensures.value c.in_ok-read.ensures.place in
    subst (IsLater xs) (sym c.text_of-2.ensures) (is_later xs c.in_ok-read.read.rest.now parts.front place parts.whole)
