use Rattle.std.proofs.Common.{sym, ap, ◌∙◌, length, get_or, arith}
use Rattle.std.proofs.lemmas.Bool.{le-ltb}
use Rattle.block_cells.proofs.Prelude.{begins_delimiters, begins_row, drop_all, drop_more, is_white, prefix_len}
use Rattle.block_cells.proofs.Columns.{bare_columns}
use Rattle.block_cells.proofs.gfm_table.may_be_delimiters.Goals as goal

pub returns-then-indent-bytes : goal.returns-then-indent-bytes
returns-then-indent-bytes c =
    let line = c.args.line in
    let text = line.text.now in
    let value = c.as_bytes-bytes.ensures.value in
    let n = c.white_size-indent.ensures.size ∙ ap (prefix_len is_white) value in
    let lt = c.if-indent-bytes.true in
    let same = ap (λ l. get_or l (c.white_size-indent.result) 0) value ∙ ap (λ k. get_or text k 0) n in
    c.begins_delimiters.ensures ∙ ap begins_delimiters same
    ∙ sym (ap begins_row (bare_columns line.owed text ∙ drop_more text (prefix_len is_white text) 0 (omega (arith, lt, n, ap length value))))

pub returns-else-indent-bytes : goal.returns-else-indent-bytes
returns-else-indent-bytes c =
    let line = c.args.line in
    let text = line.text.now in
    let value = c.as_bytes-bytes.ensures.value in
    let n = c.white_size-indent.ensures.size ∙ ap (prefix_len is_white) value in
    let all = c.if-indent-bytes.false in
    le-ltb c.white_size-indent.result (length c.as_bytes-bytes.result.now) all
    ∙ sym (ap begins_row (bare_columns line.owed text ∙ drop_all (prefix_len is_white text) text (omega (arith, all, n, ap length value))))
