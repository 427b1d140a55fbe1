use Rattle.std.proofs.Common.{◌≡◌, ◌+◌, ◌-◌, ◌<◌, false, List, ℕ, get_or, take, length, sym, ap, ◌∙◌, subst, arith}
use Rattle.std.specs.Str.{IsUtf8}
use Rattle.std.proofs.lemmas.List.{length-drop}
use Rattle.std.proofs.lemmas.Str.{IsCharBoundary-after_ascii}
use Rattle.definition_text.specs.Columns.{Rest, codes_from}
use Rattle.text_bytes.proofs.Ascii.{boundary_before}
use Rattle.block_starts.specs.Labels.{NoLabel, IsLabelBefore, label_len}
use Rattle.block_starts.specs.ThematicBreak.{BreaksWithin}
use Rattle.block_starts.specs.View.{rest_of}
use Rattle.block_starts.proofs.Views.{view_none}
use Rattle.block_starts.proofs.LabelLemmas.{label_found, is_label_before, no_label, no_label_owed, space_before}
use Rattle.block_starts.proofs.ThematicBreakLemmas.{breaks_after}
use Rattle.block_starts.proofs.cursor.Cursor.split_label.Goals as goal

pub returns-then-self-gt0 : goal.returns-then-self-gt0
unfolding rest_of
returns-then-self-gt0 c = let s = c.args.self in no_label_owed s.owed s.column s.text.now c.if-self-gt0.true

pub returns-in_default : goal.returns-in_default
unfolding rest_of
returns-in_default c =
    let s = c.args.self in
    let t = s.text.now in
    let none = sym (c.label_len.ensures ∙ ap (label_len false) c.as_bytes.ensures.value) ∙ c.in_default.is in
    subst NoLabel (sym (view_none s.owed s.column t c.if-self-gt0.false)) (no_label (codes_from s.column t) (space_before false s.column t none))

pub overflow_add-self : goal.overflow_add-self
overflow_add-self c =
    let s = c.args.self in
    let f = label_found false s.column s.text.now c.in-Some.end (sym (c.label_len.ensures ∙ ap (label_len false) c.as_bytes.ensures.value) ∙ c.in-Some.is) in
    omega (arith, f.within, s.fits)

pub overflow_add-self-2 : goal.overflow_add-self-2
overflow_add-self-2 c =
    let s = c.args.self in
    let f = label_found false s.column s.text.now c.in-Some.end (sym (c.label_len.ensures ∙ ap (label_len false) c.as_bytes.ensures.value) ∙ c.in-Some.is) in
    omega (arith, f.within, s.fits)

pub overflow_add-end : goal.overflow_add-end
overflow_add-end c =
    let s = c.args.self in
    let f = label_found false s.column s.text.now c.in-Some.end (sym (c.label_len.ensures ∙ ap (label_len false) c.as_bytes.ensures.value) ∙ c.in-Some.is) in
    omega (arith, f.within, s.fits)

pub range_from-requires : goal.range_from-requires
range_from-requires c =
    let s = c.args.self in
    let t = s.text.now in
    let n = c.in-Some.end in
    let f = label_found false s.column t n (sym (c.label_len.ensures ∙ ap (label_len false) c.as_bytes.ensures.value) ∙ c.in-Some.is) in
    let utf8 = subst IsUtf8 c.as_bytes.ensures.value c.as_bytes.ensures.utf8 in
    let ascii : get_or t n 0 < 128 = omega (arith, f.bracket) in
    λ pos. IsCharBoundary-after_ascii t n utf8 f.within ascii

pub at-rest-requires-clause-fits : goal.at-rest-requires-clause-fits
at-rest-requires-clause-fits c =
    let s = c.args.self in
    let t = s.text.now in
    let n = c.in-Some.end in
    let f = label_found false s.column t n (sym (c.label_len.ensures ∙ ap (label_len false) c.as_bytes.ensures.value) ∙ c.in-Some.is) in
    let less = ap length c.range_from.ensures.value ∙ length-drop (n + 1) t in
    omega (arith, f.within, less, s.fits)

pub at-rest-requires-clause-breaks : goal.at-rest-requires-clause-breaks
at-rest-requires-clause-breaks c =
    let s = c.args.self in
    subst (BreaksWithin s.tail) (sym c.range_from.ensures.value) (breaks_after s.tail s.text.now (c.in-Some.end + 1) s.breaks)

pub range-requires-clause-end_boundary : goal.range-requires-clause-end_boundary
range-requires-clause-end_boundary c =
    let s = c.args.self in
    let t = s.text.now in
    let n = c.in-Some.end in
    let f = label_found false s.column t n (sym (c.label_len.ensures ∙ ap (label_len false) c.as_bytes.ensures.value) ∙ c.in-Some.is) in
    let within = f.within in
    boundary_before t n (omega arith) (λ lt. omega (arith, f.bracket))

pub returns : goal.returns
unfolding rest_of
returns c =
    let s = c.args.self in
    let t = s.text.now in
    let n = c.in-Some.end in
    let f = label_found false s.column t n (sym (c.label_len.ensures ∙ ap (label_len false) c.as_bytes.ensures.value) ∙ c.in-Some.is) in
    let after = rest_of c.at-rest.result in
    let from : n - 0 ≡ n = omega arith in
    subst (λ (r : Rest). IsLabelBefore r c.range.result.now after) (sym (view_none s.owed s.column t c.if-self-gt0.false))
    (subst (λ (l : List ℕ). IsLabelBefore (codes_from s.column t) l after) (sym (c.range.ensures.value ∙ ap (λ k. take k t) from))
    (subst (λ (r : Rest). IsLabelBefore (codes_from s.column t) (take n t) r)
    (sym (c.at-rest.ensures ∙ ap (codes_from (s.column + n + 1)) c.range_from.ensures.value))
    (is_label_before s.column t n f)))
