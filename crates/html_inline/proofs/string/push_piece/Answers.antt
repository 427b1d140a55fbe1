use Rattle.std.proofs.Common.{◌≡◌, ◌++◌, string_bytes, sym, ap, ◌∙◌, arith, drop, take, subst}
use Rattle.html_inline.proofs.Prelude.{flat_map, form_bytes, IsCharBoundary, kept_size, parts_of, text_of}
use Rattle.definition_inline.specs.Strings as strings
use Rattle.html_heading_text.proofs.FormedText.{formed_both}
use Rattle.html_inline.proofs.KeptText.{found_text, kept_boundary, kept_text}
use Rattle.html_inline.proofs.string.push_piece.Goals as goal

pub returns-in-Some-clause-printed : goal.returns-in-Some-clause-printed
returns-in-Some-clause-printed g c =
    let names = g.T.Tables.reference_of c.args.tables.now in
    let on = c.args.on.now in
    let out = string_bytes c.args.out.now in
    let parts = parts_of c.in-Some.found.part in
    let rest = c.in-Some.found.after.now in
    let content = c.args.string.now in
    ap (λ x. x ++ form_bytes c.args.form (text_of on names rest)) c.in_ok-push_string_part.ensures
    ∙ formed_both c.args.form out (flat_map strings.string_bytes parts) (text_of on names rest) (text_of on names content)
    (found_text on names content rest parts c.in-Some.ensures.read c.in-Some.ensures.place)

pub text_before-requires : goal.text_before-requires
text_before-requires g c =
    let xs = c.args.string.now in
    let size : kept_size xs ≡ c.kept_size-size.result = ap kept_size (sym c.as_bytes.ensures.value) ∙ sym c.kept_size-size.ensures in
    subst (IsCharBoundary xs) size (kept_boundary xs (λ k. omega (arith, c.type_inv.string k)) c.utf8.string c.requires)

pub range_from-requires : goal.range_from-requires
range_from-requires g c = λ some.
    let xs = c.args.string.now in
    let size : kept_size xs ≡ c.kept_size-size.result = ap kept_size (sym c.as_bytes.ensures.value) ∙ sym c.kept_size-size.ensures in
    subst (IsCharBoundary xs) size (kept_boundary xs (λ k. omega (arith, c.type_inv.string k)) c.utf8.string c.requires)

pub returns-clause-printed : goal.returns-clause-printed
returns-clause-printed g c =
    let names = g.T.Tables.reference_of c.args.tables.now in
    let on = c.args.on.now in
    let out = string_bytes c.args.out.now in
    let xs = c.args.string.now in
    let n = c.kept_size-size.result in
    let size : kept_size xs ≡ n = ap kept_size (sym c.as_bytes.ensures.value) ∙ sym c.kept_size-size.ensures in
    let front = c.text_before.result.now in
    let rest = c.range_from.result.now in
    let kept = kept_text on names xs (λ k. omega (arith, c.type_inv.string k)) c.requires (sym c.in_default.ensures.read) in
    let cut : text_of on names xs ≡ front ++ text_of on names rest =
    kept ∙ ap (λ k. take k xs ++ text_of on names (drop k xs)) size
    ∙ ap (λ s. s ++ text_of on names (drop n xs)) (sym c.text_before.ensures) ∙ ap (λ s. front ++ text_of on names s) (sym c.range_from.ensures.value) in
    ap (λ x. x ++ form_bytes c.args.form (text_of on names rest)) c.in_ok-push_formed.ensures
    ∙ formed_both c.args.form out front (text_of on names rest) (text_of on names xs) cut
