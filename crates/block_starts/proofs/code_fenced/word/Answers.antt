use Rattle.std.proofs.Common.{ap, ◌∙◌, sym, subst, get_or, arith, not}
use Rattle.std.specs.Str.{IsCharBoundary}
use Rattle.std.specs.List.{position_or_len}
use Rattle.std.proofs.lemmas.List.Sums.{prefix_len-le-length, passes_at_first}
use Rattle.definition_text.specs.Columns.{is_white}
use Rattle.text_bytes.proofs.Ascii.{boundary_before, space_ascii}
use Rattle.block_starts.proofs.code_fenced.word.Goals as goal

pub range-requires-clause-end_boundary : goal.range-requires-clause-end_boundary
range-requires-clause-end_boundary c =
    let t = c.args.text.now in
    let n = position_or_len is_white t in
    let e = c.word_len.ensures ∙ ap (position_or_len is_white) c.as_bytes.ensures.value in
    subst (IsCharBoundary t) (sym e)
    (boundary_before t n (prefix_len-le-length (λ b. not (is_white b)) t) (λ lt. space_ascii (get_or t n 0) (omega (arith, c.type_inv.text n))
    (passes_at_first is_white t 0 lt)))
