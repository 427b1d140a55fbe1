use Rattle.std.proofs.Common.{sym, ap, ◌∙◌}
use Rattle.block_cells.proofs.Prelude.{is_blank}
use Rattle.block_cells.proofs.Columns.{blank_columns}
use Rattle.block_cells.proofs.gfm_table.is_blank_part.Goals as goal

pub returns : goal.returns
returns c =
    c.is_blank.ensures ∙ ap is_blank c.as_bytes.ensures.value ∙ sym (blank_columns c.args.part.line.owed c.args.part.line.text.now)
