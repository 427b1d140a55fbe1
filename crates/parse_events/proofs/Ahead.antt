-- The rows that are left of a text: from all of them to none, one by one.
use Rattle.std.proofs.Common.{◌≡◌, ℕ, ◌<◌, get_or, List, [], ◌∷◌, ◌++◌, drop, sym, ap, ◌∙◌, subst, append_assoc}
use Rattle.parse_events.proofs.Prelude.{after_row, All-head, All-tail, append-nil, AreAhead, ArePrintable, AreRowsLaid, bare_blocks, Between, BlockLine}
use Rattle.parse_events.proofs.Prelude.{BlockRow, Blocks, blocks, blocks_printable, Constructs, Container, fold, group_items, IsNext, IsPrintableRow, Kind}
use Rattle.parse_events.proofs.Prelude.{NoBlock, Opened, opened, Place, places_of, printable_rows_of, Row, row_size, row_value, rows_of, rows_value, RowsValue}
use Rattle.parse_events.proofs.Prelude.{unread_lines, value_with}
use Rattle.block_rows.specs.Rows.{show_row}
use Rattle.html_looseness.specs.Printable.{CanBePrinted}
use Rattle.parse_laid.proofs.ParserRows.{parser_rows_are_laid}
use Rattle.parse_open.specs.Open.{Fits, LeadTo}
use Rattle.parse_open.proofs.Rows.{rows_lead}
use Rattle.parse_events.proofs.Rows.{nothing_follows}

-- rows after those that were shown
shown_after : (rows : List Row) (before : List BlockRow) (ls : List BlockLine)
    → (fold show_row (value_with before ls) rows).rows ≡ before ++ (rows_value rows ls).rows
shown_after [] before ls = sym (append-nil before)
shown_after (row ∷ rows) before ls =
    let b = row_value row ls in
    let left = drop (row_size row) ls in
    shown_after rows (before ++ b ∷ []) left
    ∙ append_assoc before (b ∷ []) (rows_value rows left).rows
    ∙ ap (λ (xs : List BlockRow). before ++ xs) (sym (shown_after rows (b ∷ []) left))

-- the first row, and the others
first_shown : (row : Row) (rows : List Row) (ls : List BlockLine)
    → (rows_value (row ∷ rows) ls).rows ≡ row_value row ls ∷ (rows_value rows (drop (row_size row) ls)).rows
first_shown row rows ls = shown_after rows (row_value row ls ∷ []) (drop (row_size row) ls)

module _ (on : Constructs) (all : Blocks) (o : Opened) (within : List Container) (p : Place) where
  -- a row comes next, and the others after it
  pub one_ahead : (row : Row) (rows : List Row) (ls : List BlockLine) → AreAhead on all o within p (row ∷ rows) ls
      → (inner : List Container) × (to : Place) × IsNext on o within p (row_value row ls) inner to × IsPrintableRow (row_value row ls)
      × AreAhead on all (after_row o (row_value row ls)) inner to rows (drop (row_size row) ls)
  one_ahead row rows ls ahead =
      let b = row_value row ls in
      let left = drop (row_size row) ls in
      let inner = ahead.laid.0 in
      let to = ahead.laid.1 in
      let laid = ahead.laid.3 in
      let lead : Fits o b × LeadTo (after_row o b) (rows_value rows left).rows all =
      subst (λ (bs : List BlockRow). LeadTo o bs all) (first_shown row rows ls) ahead.lead in
      let printable : ArePrintable (b ∷ (rows_value rows left).rows) = subst ArePrintable (first_shown row rows ls) ahead.printable in (
        inner,
        to,
        record {
          fits = lead.0;
          laid = ahead.laid.2;
          last = λ end.
              let none : rows ≡ [] = nothing_follows on inner rows left (subst (λ (q : Place). AreRowsLaid on inner q rows left) end laid) in
              ap (λ (x : Opened). x.outer) (subst (λ (rs : List Row). LeadTo (after_row o b) (rows_value rs left).rows all) none lead.1);
        },
        All-head IsPrintableRow b (rows_value rows left).rows printable,
        record { laid = laid; lead = lead.1; printable = All-tail IsPrintableRow b (rows_value rows left).rows printable },
      )

  -- where none is left, nothing is open, and the text is at its end
  pub none_ahead : (ls : List BlockLine) → AreAhead on all o within p [] ls → (within ≡ []) × (p ≡ Between []) × (o ≡ opened all [] [])
  none_ahead ls ahead = (ahead.laid.0, ahead.laid.1, ahead.lead)

-- all rows of a text
pub all_ahead : (on : Constructs) (before : Kind) (text : List ℕ) (rows : List Row) (ls : List BlockLine) → ((k : ℕ) → get_or text k 0 < 256)
    → rows_value rows ls ≡ value_with (rows_of (blocks on before text)) []
    → AreAhead on (group_items (bare_blocks (blocks on before text))) (opened NoBlock [] (places_of (rows_of (blocks on before text)))) []
    (Between (unread_lines on before text)) rows ls
all_ahead on before text rows ls bytes same =
    let bs = blocks on before text in
    let all : (rows_value rows ls).rows ≡ rows_of bs = ap (λ (v : RowsValue). v.rows) same in
    let printable : CanBePrinted bs = blocks_printable on before text bytes in
    record {
      laid = parser_rows_are_laid.laid on before text rows ls [] bytes same;
      lead =
          subst (λ (bs' : List BlockRow). LeadTo (opened NoBlock [] (places_of (rows_of bs))) bs' (group_items (bare_blocks bs))) (sym all)
          (rows_lead bs printable);
      printable = subst ArePrintable (sym all) (printable_rows_of bs printable);
    }
