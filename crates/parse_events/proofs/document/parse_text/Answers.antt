use Rattle.std.proofs.Common.{◌≡◌, ℕ, List, [], ap, ap₂, ◌∙◌}
use Rattle.parse_events.proofs.Prelude.{blocks, Kind, Piece, piece_lines, Row, rows_of, rows_value, RowsValue, value_with}
use Rattle.parse_events.specs.Labels.{text_blocks}
use Rattle.parse_events.proofs.LabelRows.{begun_by, defined_by}
use Rattle.parse_events.proofs.document.parse_text.Goals as goal

-- the rows are those of the blocks of the text
pub text_events-requires-clause-rows : goal.text_events-requires-clause-rows
text_events-requires-clause-rows g c =
    let mark = c.without_mark-before in
    c.in_ok-blocks.ensures.rows
    ∙ ap₂ (λ (before : Kind) (rest : List ℕ). value_with (rows_of (blocks c.args.options.now.constructs before rest)) []) mark.ensures.kind mark.ensures.text

pub returns-clause-events : goal.returns-clause-events
returns-clause-events g c = c.in_ok-events.ensures.events

pub returns-clause-state : goal.returns-clause-state
returns-clause-state g c =
    let on = c.args.options.now.constructs in
    let mark = c.without_mark-before in
    let bs = text_blocks on c.args.value.now in
    let are : (rows_value c.deref.result.now (piece_lines c.deref-2.result.now)).rows ≡ rows_of bs =
    ap (λ (v : RowsValue). v.rows) (
    ap₂ (λ (rs : List Row) (ps : List Piece). rows_value rs (piece_lines ps)) c.deref.ensures.value c.deref-2.ensures.value
    ∙ c.in_ok-blocks.ensures.rows
    ∙ ap₂ (λ (before : Kind) (rest : List ℕ). value_with (rows_of (blocks on before rest)) []) mark.ensures.kind mark.ensures.text) in
    record {
      read_by = c.state_of.ensures.read_by;
      definitions = c.state_of.ensures.definitions ∙ defined_by c.in_ok-labels.labels _ bs c.in_ok-labels.ensures.labels are;
      footnotes = c.state_of.ensures.footnotes ∙ begun_by c.in_ok-labels.labels _ bs c.in_ok-labels.ensures.labels are;
    }
