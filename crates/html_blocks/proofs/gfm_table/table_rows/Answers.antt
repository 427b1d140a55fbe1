use Rattle.std.proofs.Common.{◌≡◌, ◌++◌, ◌∷◌, [], Option, sym, ap, ◌∙◌, take, get_or, ◌+◌}
use Rattle.std.proofs.lemmas.List.{map_more}
use Rattle.html_blocks.proofs.Prelude.{BlockLine, codes, document_by, ending_bytes, ending_text, last_ending, layout_after, LineEnding, no_piece, own_lines}
use Rattle.html_blocks.proofs.Prelude.{page_view, piece_line, piece_lines, row_bytes, rows_bytes, with_bytes}
use Rattle.text_pieces.proofs.OwnLines.{last_ending_more}
use Rattle.html_rows.proofs.GfmTableLemmas.{rows_more, clear_at}
use Rattle.html_blocks.proofs.gfm_table.table_rows.Goals as goal

pub loop-row-preserved : goal.loop-row-preserved
loop-row-preserved g c =
    let lines = c.args.rows.now in
    let aligns = c.args.aligns.now in
    let i = c.loop-row.row-index in
    let e = c.args.page.now.default_ending in
    let start = page_view c.args.page.now in
    let before = piece_lines (take i lines) in
    let line : BlockLine = piece_line (get_or lines i no_piece) in
    let k = c.loop-row.invariant in
    let more : piece_lines (take (i + 1) lines) ≡ before ++ line ∷ [] = map_more piece_line lines i _ c.loop-row-test.true in
    let same = c.in_ok-push_ending.ensures.default ∙ k.same_default in
    record {
      same_default = c.in_ok-table_line.ensures.default ∙ same;
      printed = λ ds has clear.
          let d = document_by g.T.Tables c.args.texts.now ds in
          let o = d.options.compile in
          let row = row_bytes d (codes "td") aligns line in
          let so_far = layout_after o e start (rows_bytes d aligns (own_lines before)) in
          c.in_ok-table_line.ensures.printed ds has (clear_at lines i no_piece c.loop-row-test.true clear)
          ∙ ap (λ (x : LineEnding). layout_after o x (page_view c.push_ending.new.self) row) same
          ∙ ap (λ x. layout_after o e x row) (c.in_ok-push_ending.ensures.printed ∙ ap (with_bytes (ending_text c.loop-row.waiting)) (k.printed ds has clear))
          ∙ ap (λ (last : Option LineEnding). layout_after o e (with_bytes (ending_text last) so_far) row) k.waits
          ∙ rows_more (ending_bytes e) d aligns before line start
          ∙ ap (λ ls. layout_after o e start (rows_bytes d aligns (own_lines ls))) (sym more);
      waits = sym (ap last_ending more ∙ last_ending_more before line);
    }
