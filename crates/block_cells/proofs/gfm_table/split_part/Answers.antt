use Rattle.std.proofs.Common.{◌≡◌, ◌+◌, ◌-◌, suc, ◌∷◌, [], false, sym, ap, ◌∙◌, subst, drop, take, arith}
use Rattle.block_cells.proofs.Prelude.{bar_at, cell, IsCharBoundary, IsUtf8, parts}
use Rattle.markdown_options.specs.declared.beside.Kind.TheVariants.{Whitespace, Punctuation}
use Rattle.block_cells.proofs.Parts.{boundary_bar, boundary_after_bar, with_bar, without_bar, after_columns, same_cell}
use Rattle.block_cells.proofs.gfm_table.split_part.Goals as goal

pub range_from-requires : goal.range_from-requires
range_from-requires c =
    let t = c.args.line.text.now in
    let value = c.as_bytes.ensures.value in
    let n = c.bar_place-place.ensures ∙ ap (bar_at false) value in
    λ _. boundary_after_bar t c.bar_place-place.result (subst IsUtf8 value c.as_bytes.ensures.utf8) n c.if-place-text.true

pub range-requires-clause-end_boundary : goal.range-requires-clause-end_boundary
range-requires-clause-end_boundary c =
    let t = c.args.line.text.now in
    let n = c.bar_place-place.ensures ∙ ap (bar_at false) c.as_bytes.ensures.value in
    subst (IsCharBoundary t) (sym n) (boundary_bar t)

pub returns-then-place-text : goal.returns-then-place-text
returns-then-place-text c =
    let line = c.args.line in
    let t = line.text.now in
    let place = c.bar_place-place.result in
    let n = c.bar_place-place.ensures ∙ ap (bar_at false) c.as_bytes.ensures.value in
    let next : place + 1 ≡ suc (bar_at false t) = omega (arith, n) in
    let whole : place - 0 ≡ bar_at false t = omega (arith, n) in
    let front = c.range.ensures.value ∙ ap (λ k. take k t) whole in
    let rest = c.range_from.ensures.value ∙ ap (λ k. drop k t) next in
    let others = parts Punctuation false c.range_from.result.now in
    let p = c.part.ensures in
    after_columns line.owed line.before Punctuation (take (bar_at false t) t) t others
    (with_bar line.before false t (omega (arith, n, c.if-place-text.true))
    ∙ ap (λ l. cell (take (bar_at false t) t) line.before Punctuation ∷ parts Punctuation false l) (sym rest))
    ∙ ap (λ l. l ∷ others) (same_cell line.owed _ _ _ line.before _ Punctuation _ p.owed (p.line ∙ front) p.before p.after)

pub returns-else-place-text : goal.returns-else-place-text
returns-else-place-text c =
    let line = c.args.line in
    let t = line.text.now in
    let n = c.bar_place-place.ensures ∙ ap (bar_at false) c.as_bytes.ensures.value in
    let p = c.part-else-place-text.ensures in
    after_columns line.owed line.before Whitespace t t [] (without_bar line.before false t (omega (arith, n, c.if-place-text.false)))
    ∙ ap (λ l. l ∷ []) (same_cell line.owed _ _ _ line.before _ Whitespace _ p.owed p.line p.before p.after)
