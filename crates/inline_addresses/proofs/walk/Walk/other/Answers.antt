use Rattle.std.proofs.Common.{◌+◌, ◌++◌, ◌∷◌, ◌∙◌, [], ap, drop, sym, take}
use Rattle.inline_addresses.proofs.Prelude.{flat_map, linked_rows, row_depth, row_linked, row_view, rows_view}
use Rattle.std.proofs.lemmas.List.{drop-drop}
use Rattle.inline_addresses.proofs.Walks.{other_row}
use Rattle.inline_addresses.proofs.walk.Walk.other.Goals as goal

pub returns-clause-text : goal.returns-clause-text
returns-clause-text g c =
    let walk = c.args.self.now in
    let ended = c.end_run.new.self in
    c.text_after-self.ensures
    ∙ ap (λ n. drop (n + 1) ended.text.now) c.end_run.ensures.size
    ∙ ap (drop (walk.size + 1)) c.end_run.ensures.text
    ∙ sym (drop-drop 1 walk.size walk.text.now)

pub returns-clause-rows : goal.returns-clause-rows
returns-clause-rows g c at rest =
    let walk = c.args.self.now in
    let ended = c.end_run.new.self in
    let row = c.args.row in
    let depth = c.depth_after-self.ensures.depth ∙ ap (λ n. row_depth n row) c.end_run.ensures.depth in
    ap (λ l. rows_view at l ++ linked_rows c.depth_after-self.result [] rest) c.in_ok-push.ensures.items
    ∙ ap (λ n. rows_view at (ended.rows.items ++ c.linked_row.result ∷ []) ++ linked_rows n [] rest) depth
    ∙ other_row at walk.depth (take walk.size walk.text.now) row c.linked_row.result walk.rows.items ended.rows.items rest
    (c.in_ok-end_run.ensures.rows at)
    (c.linked_row.ensures at ∙ ap (λ n. flat_map (row_linked n) (row_view at row)) c.end_run.ensures.depth)
    c.requires.none
