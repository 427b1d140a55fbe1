use Rattle.std.proofs.Common.{sym, ap, ◌∙◌}
use Rattle.block_cells.proofs.Prelude.{is_bar_or_colon, list_any}
use Rattle.block_cells.proofs.Columns.{any_columns}
use Rattle.block_cells.proofs.gfm_table.has_bar_or_colon.Goals as goal

pub returns : goal.returns
returns c =
    c.holds_bar_or_colon.ensures ∙ ap (list_any is_bar_or_colon) c.as_bytes.ensures.value ∙ sym (any_columns c.args.line.owed c.args.line.text.now)
