use Rattle.std.proofs.Common.{◌<◌, ℕ, List, ◌∙◌, ap₂, arith, get_or, refl}
use Rattle.definition_page.specs.TextTables.{text_tables}
use Rattle.parse_events.proofs.Prelude.{kind_before_text, Piece, piece_lines, Row, rows_value, without_mark}
use Rattle.parse_events.proofs.AllRows.{are_events, are_of_text, nodes_filled}
use Rattle.parse_events.proofs.Fronts.{rest_bytes}
use Rattle.parse_events.proofs.document.text_events.Goals as goal

pub returns : goal.returns
returns g c =
    let tables = text_tables (g.T.Tables.reference_of c.args.tables.now) (g.T.Tables.punctuation_of c.args.tables.now) in
    let options = c.args.options.now in
    let value = c.args.value.now in
    let events = c.in_ok-events.events.items in
    let written = c.in_ok-events.ensures in
    let start = c.in_ok-walk.ensures.begins in
    let bytes : (k : ℕ) → get_or value k 0 < 256 = λ k. omega (arith, c.type_inv.value k) in
    let rows = ap₂ (λ (rs : List Row) (ps : List Piece). rows_value rs (piece_lines ps)) c.deref.ensures.value c.deref-2.ensures.value ∙ c.requires.rows in
    let are =
    are_of_text tables options value c.in_ok-walk.walk c.in_ok-walk-2.walk start c.as_bytes.result.now c.into_output.result events
    c.as_bytes.ensures.value c.into_output.ensures (c.in_ok-walk-2.ensures.open ∙ c.in_ok-walk.ensures.open) written.children written.open written.written
    (c.in_ok-walk-2.ensures.written value (kind_before_text value) (without_mark value) start (rest_bytes value (without_mark value) refl bytes) rows) in
    record {
      events =
          are_events tables options value c.in_ok-walk-2.walk c.as_bytes.result.now c.into_output.result events c.as_bytes.ensures.value c.into_output.ensures
          written.placed written.tokens written.whole (c.in_ok-walk-2.ensures.open ∙ c.in_ok-walk.ensures.open) are bytes;
      filled = nodes_filled tables options value c.in_ok-walk-2.walk events are;
    }
