use Rattle.std.proofs.Common.{◌∙◌, [], ◌++◌, ap, sym, refl, length}
use Rattle.compile_rows.proofs.Prelude.{data_rows, no_event, place, rows_by, valid}
use Rattle.compile_rows.specs.declared.rows.Mode.TheVariants.{Text}
use Rattle.compile_rows.proofs.AloneRow.{two_first, alone_by, empty_is}
use Rattle.compile_rows.proofs.RowsLaw.{rows_law}
use Rattle.compile_rows.proofs.rows.alone_row.Goals as goal

pub returns-then-is_empty-clause-rows : goal.returns-then-is_empty-clause-rows
returns-then-is_empty-clause-rows c = λ names leads at in_link.
    let bytes = c.args.bytes.now in
    let own = c.after_space-data.result.now in
    ap (λ text. data_rows text ++ []) (c.text_of.ensures ∙ ap valid c.text_first.ensures)
    ∙ alone_by names bytes leads in_link c.args.events.now own _ c.after_space.result.now _ _
    (c.after_space-data.ensures names bytes leads in_link) (two_first own no_event (length own) c.in-len2-up.len_at_least refl)
    (sym c.begins.ensures ∙ c.if-begins.true) (sym c.is_exit.ensures ∙ c.if-is_exit.true)
    (c.after_space.ensures names bytes leads in_link)
    (empty_is c.after_space.result.now (sym c.is_empty.ensures ∙ c.if-is_empty.true))

pub returns-then-is_empty-clause-structure : goal.returns-then-is_empty-clause-structure
returns-then-is_empty-clause-structure c = λ names leads at in_link ns is nodes texts endings.
    let bytes = c.args.bytes.now in
    returns-then-is_empty-clause-rows c names leads at in_link
    ∙ ap (rows_by names bytes leads in_link (place Text 0 0)) is
    ∙ rows_law names bytes leads in_link ns nodes texts endings
