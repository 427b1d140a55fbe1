use Rattle.std.proofs.Common.{◌≡◌, ◌+◌, ◌-◌, ◌++◌, ◌∷◌, [], List, sym, ap, ◌∙◌, take, drop, get_or, arith, length, subst}
use Rattle.block_targets.proofs.Prelude.{append-nil, BlockLine, BlockRow, flat_map, flat_map-append, HasContents, left_more, piece_line, piece_lines, Row}
use Rattle.block_targets.proofs.Prelude.{row_definitions, row_size, row_value, rows_value, RowsValue, shown_more, take_all, take_rest, taken_more}
use Rattle.block_rows.specs.declared.row.Row.TheVariants.{Paragraph}
use Rattle.block_rows.proofs.DefinitionRows.{definitions_of}
use Rattle.block_targets.proofs.NoDefinition.{no_definitions}
use Rattle.block_targets.proofs.contents.definition_contents.Goals as goal

-- the definitions of one more row
definitions_more : (rows : List BlockRow) (row : BlockRow) → flat_map row_definitions rows ++ row_definitions row ≡ flat_map row_definitions (rows ++ row ∷ [])
definitions_more rows row =
    ap (λ ds. flat_map row_definitions rows ++ ds) (sym (append-nil (row_definitions row))) ∙ sym (flat_map-append row_definitions rows (row ∷ []))

pub loop-row-preserved : goal.loop-row-preserved
loop-row-preserved g c =
    let rows = c.args.rows.now in
    let pieces = c.args.pieces.now in
    let i = c.loop-row.row-index in
    let row : Row = get_or rows i (Paragraph 0) in
    let all = piece_lines pieces in
    let so_far = rows_value (take i rows) all in
    let k = c.loop-row.invariant in
    let more = shown_more rows all i (Paragraph 0) c.loop-row-test.true in
    let rest : List BlockLine = piece_lines (take (length pieces - c.loop-row.at) (drop c.loop-row.at pieces)) in
    let at : rest ≡ so_far.left = ap piece_lines (take_rest pieces c.loop-row.at) ∙ sym k.left in
    record {
      so_far =
          subst (HasContents c.row.new.self)
          (ap (λ (ls : List BlockLine). flat_map row_definitions so_far.rows ++ row_definitions (row_value row ls)) at
          ∙ definitions_more so_far.rows (row_value row so_far.left)
          ∙ sym (ap (λ (s : RowsValue). flat_map row_definitions s.rows) more))
          (c.in_ok-at.ensures.read (flat_map row_definitions so_far.rows) k.so_far);
      left =
          ap (λ (s : RowsValue). s.left) more
          ∙ ap (drop (row_size row)) k.left
          ∙ left_more piece_line (row_size row) c.loop-row.at pieces
          ∙ ap (λ n. piece_lines (drop (c.loop-row.at + n) pieces)) (sym c.in_ok-at.ensures.size);
      enough = omega (arith, k.enough, c.in_ok-at.ensures.size, taken_more rows i (Paragraph 0) c.loop-row-test.true);
    }

pub returns : goal.returns
returns g c = λ bs rows_are.
    let rows = c.args.rows.now in
    let all = piece_lines c.args.pieces.now in
    let whole : take c.loop-row.row-index rows ≡ rows = take_all c.loop-row.row-index rows c.loop-row-test.false in
    subst (HasContents c.loop-row.contents)
    (ap (λ (rs : List Row). flat_map row_definitions (rows_value rs all).rows) whole ∙ ap (flat_map row_definitions) rows_are ∙ definitions_of bs)
    c.loop-row.invariant.so_far

pub returns-then-not-has_definitions : goal.returns-then-not-has_definitions
returns-then-not-has_definitions g c = λ bs rows_are.
    let all = piece_lines c.args.pieces.now in
    subst (HasContents c.in_ok-contents.contents)
    (sym (no_definitions c.args.rows.now all (sym c.has_definitions.ensures ∙ c.if-not-has_definitions.true))
    ∙ ap (flat_map row_definitions) rows_are ∙ definitions_of bs)
    c.in_ok-contents.ensures
