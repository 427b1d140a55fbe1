use lib.Utf8.{encode}
use Rattle.std.proofs.Common.{◌∷◌, ◌++◌, string_bytes, sym, ap, ◌∙◌, subst, take, drop, length, arith}
use Rattle.html_inline.proofs.Prelude.{bar_escape_at, cell_code, IsCharBoundary}
use Rattle.definition_text.specs.Encode as text
use Rattle.html_inline.proofs.BarEscapes.{boundary_escape, piece_printed, escape_printed, less_after, less_before}
use Rattle.html_inline.proofs.gfm_table.push_cell_piece.Goals as goal

pub split_at-requires : goal.split_at-requires
split_at-requires g c =
    let t = c.args.code.now in
    let e = c.bar_escape_place.ensures ∙ ap bar_escape_at c.as_bytes.ensures.value in
    subst (IsCharBoundary t) (sym e) (boundary_escape t)

pub returns-in-Some-clause-printed : goal.returns-in-Some-clause-printed
unfolding lib.Utf8.encode
returns-in-Some-clause-printed g c =
    let t = c.args.code.now in
    let e = c.bar_escape_place.ensures ∙ ap bar_escape_at c.as_bytes.ensures.value in
    let h = c.in-Some.ensures.cases in
    let front = c.split_at.ensures.front ∙ ap (λ k. take k t) e in
    let back = c.split_at.ensures.back ∙ ap (λ k. drop k t) e in
    escape_printed (string_bytes c.args.out.now) (string_bytes c.push_encoded.new.out) t
    (c.in_ok-push_encoded.ensures ∙ ap (λ x. string_bytes c.args.out.now ++ text.encode x) front)
    c.in-Some.rest.now (sym back ∙ h.1.split ∙ ap (λ r. 92 ∷ r) (sym h.2))

pub returns-in-Some-clause-shorter : goal.returns-in-Some-clause-shorter
unfolding lib.Utf8.encode
returns-in-Some-clause-shorter g c =
    let t = c.args.code.now in
    let e = c.bar_escape_place.ensures ∙ ap bar_escape_at c.as_bytes.ensures.value in
    let h = c.in-Some.ensures.cases in
    let back = c.split_at.ensures.back ∙ ap (λ k. drop k t) e in
    less_after t c.in-Some.rest.now (sym back ∙ h.1.split ∙ ap (λ r. 92 ∷ r) (sym h.2))

pub returns-in-None-clause-printed : goal.returns-in-None-clause-printed
unfolding lib.Utf8.encode
returns-in-None-clause-printed g c =
    let t = c.args.code.now in
    let e = c.bar_escape_place.ensures ∙ ap bar_escape_at c.as_bytes.ensures.value in
    let front = c.split_at.ensures.front ∙ ap (λ k. take k t) e in
    let back = c.split_at.ensures.back ∙ ap (λ k. drop k t) e in
    ap (λ x. string_bytes c.push_encoded.new.out ++ text.encode (cell_code x)) back
    ∙ piece_printed (string_bytes c.args.out.now) (string_bytes c.push_encoded.new.out) t
    (c.in_ok-push_encoded.ensures ∙ ap (λ x. string_bytes c.args.out.now ++ text.encode x) front)

pub returns-in-None-clause-shorter : goal.returns-in-None-clause-shorter
unfolding lib.Utf8.encode
returns-in-None-clause-shorter g c =
    let t = c.args.code.now in
    let e = c.bar_escape_place.ensures ∙ ap bar_escape_at c.as_bytes.ensures.value in
    let back = c.split_at.ensures.back ∙ ap (λ k. drop k t) e in
    let none = c.in-None.ensures.cases in
    let less = less_before t c.requires (λ rest is. none rest (back ∙ is)) in
    omega (arith, less, ap length back)
