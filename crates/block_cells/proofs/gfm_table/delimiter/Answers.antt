use lib.Utf8.{encode}
use Rattle.std.proofs.Common.{sym, ◌∙◌}
use Rattle.block_cells.proofs.Prelude.{cond-false}
use Rattle.block_cells.proofs.Delimiters.{no_colon}
use Rattle.block_cells.proofs.gfm_table.delimiter.Goals as goal

pub returns-in-None : goal.returns-in-None
unfolding lib.Utf8.encode
returns-in-None c = c.after_dashes-in-None.ensures ∙ sym (cond-false _ _ _ (no_colon c.args.text.now c.in-None.ensures.cases))
