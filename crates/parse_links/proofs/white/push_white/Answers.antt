use Rattle.std.proofs.Common.{◌≡◌, ◌++◌, arith, drop, refl, subst, sym, ap, ◌∙◌}
use Rattle.std.proofs.lemmas.Result.{IfOk-weaker}
use Rattle.parse_links.proofs.Prelude.{AreBytes, bare, begins_with_eol, bytes_drop, content_codes, ending_bytes, indent, ReadsEnding}
use Rattle.parse_lines.specs.InContent.{IsApart}
use Rattle.parse_lines.proofs.Bytes.{ending_may}
use Rattle.parse_links.proofs.Spaces.{ending_cut, white_both, white_more, white_none}
use Rattle.parse_links.proofs.white.push_white.Goals as goal

pub returns-in_default-clause-rest : goal.returns-in_default-clause-rest
returns-in_default-clause-rest g c =
    let same : c.in_ok-after.after.now ≡ bare c.args.bytes.now = c.in_ok-after.ensures.rest in
    ap content_codes same ∙ white_none c.args.bytes.now (ap (λ ys. begins_with_eol (content_codes ys)) (sym same) ∙ c.in_default.ensures)

pub returns-clause-rest : goal.returns-clause-rest
returns-clause-rest g c =
    let found = c.in-Some.found in
    let same : c.in_ok-after.after.now ≡ bare c.args.bytes.now = c.in_ok-after.ensures.rest in
    IfOk-weaker c.push_spaces-2.result _ _
    (λ rest is.
    ap content_codes (is ∙ ap bare (c.bytes_from.ensures.rest ∙ ap (drop found.size) same))
    ∙ white_more c.args.bytes.now found (subst (λ ys. ReadsEnding ys found) same c.in-Some.ensures))
    c.push_spaces-2.ensures.rest

pub returns-clause-written : goal.returns-clause-written
returns-clause-written g c =
    let xs = c.args.bytes.now in
    let ys = c.in_ok-after.after.now in
    let zs = c.bytes_from.result.now in
    let found = c.in-Some.found in
    let e = found.ending in
    let same : ys ≡ bare xs = c.in_ok-after.ensures.rest in
    let bytes : AreBytes ys = subst AreBytes (sym same) (bytes_drop (indent xs) xs (λ k. omega (arith, c.type_inv.bytes k))) in
    let step = ending_cut ys found bytes c.in-Some.ensures in
    IfOk-weaker c.push_spaces-2.result _ _
    (λ rest written text stop st.
    white_both text stop _ _ _ _ xs ys zs rest.now e (c.in_ok-after.ensures.written text stop st)
    (step.parts ∙ ap (λ ws. ending_bytes e ++ ws) (sym c.bytes_from.ensures.rest))
    (c.in_ok-content_ending.ensures.written text zs stop e step.is (subst (λ ws. IsApart e ws) (sym c.bytes_from.ensures.rest) step.apart) refl refl (ending_may e))
    (written text stop))
    c.push_spaces-2.ensures.written
