-- A parser writes the blocks of a text row by row: from before the first to the end.
use Rattle.std.proofs.Common.{◌≡◌, inl, ◌<◌, ◌≤◌, ◌+◌, ◌-◌, ℕ, List, [], ◌∷◌, ◌++◌, refl, sym, ap, ◌∙◌, subst, arith, drop, get_or, length, map, reverse, take}
use Rattle.parse_events.proofs.Prelude.{after_row, AreAhead, AreLinesOf, bare_blocks, Between, BlockLine, BlockRow, Blocks, blocks, Container, ends_in_blank}
use Rattle.parse_events.proofs.Prelude.{GoesOn, group_items, growth, Growth, is_list, IsAmongRows, IsNew, IsNext, IsPrintableRow, ItemPlace, Kind, length-map}
use Rattle.parse_events.proofs.Prelude.{line_at, map-append, Nil, NoBlock, Nodes, Opened, opened, Parser, Piece, piece_line, piece_lines, Place, places_of}
use Rattle.parse_events.proofs.Prelude.{Reading, Row, row_size, row_value, rows_of, rows_value, RowsValue, Spells, Stands, StandsBefore, StandsInEnd}
use Rattle.parse_events.proofs.Prelude.{true≢false, unread_lines, value_with, Walk, written_to}
use Rattle.std.proofs.lemmas.List.{drop-drop, drop_more, length-drop, length-take-le, take-append-drop}
use Rattle.parse_output.proofs.Forests.{append-nil}
use Rattle.parse_open.specs.Filled.{FillOnPage}
use Rattle.parse_events.specs.declared.opened.Opened.{Opened as OpenedHere}
use Rattle.parse_events.specs.Document.{WritesBlocksBy, WritesRows}
use Rattle.parse_events.proofs.Ahead.{all_ahead, none_ahead, one_ahead}
use Rattle.parse_events.proofs.RowLines.{lines_of_row, same_value}

over_lines : (xs ys : List BlockLine) → drop (length xs) (xs ++ ys) ≡ ys
over_lines [] ys = refl
over_lines (x ∷ xs) ys = over_lines xs ys

-- before the first row
nothing_spelled : (r : Reading) (text : List ℕ) (front : Nodes) (places : List ItemPlace) (line : ℕ) → FillOnPage front
    → Spells r text front (opened NoBlock [] places) (growth front []) line
nothing_spelled r text front places line fill = record {
  kids = record { left = Nil; parts = sym (append-nil front); spell = record { blocks = λ m m' means. tt; defined = λ m m' means. tt; sound = tt } };
  around = tt;
  fill = fill;
}

module _ {A : Type 0} where
  first_stands : (r : Reading) (text : List ℕ) (before : Kind) (rest : List ℕ) (w : Walk A) (start : StandsBefore r.parse.constructs text before rest w)
      (places : List ItemPlace)
      → Stands r text start.front (opened NoBlock [] places) [] (Between (unread_lines r.parse.constructs before rest)) w
  first_stands r text before rest w start places = record {
    constructs = start.constructs;
    around = ap reverse start.outside;
    same = refl;
    order = start.order;
    at = inl (start.stands, start.written, tt);
    spells =
        subst (λ (g : Growth). Spells r text start.front (opened NoBlock [] places) g (line_at text (written_to w).index)) (sym start.forest)
        (nothing_spelled r text start.front places (line_at text (written_to w).index) start.fill);
    begun = λ is. absurd (true≢false (sym is));
    ends = λ none. ap (λ (g : Growth). ends_in_blank g.kids) start.forest ∙ (start.is_front r.tables.names).other;
  }

  -- a parser of the rows of a text, which begins there, is among them
  rows_begin : (r : Reading) (text : List ℕ) (before : Kind) (rest : List ℕ) (rows : List Row) (ls : List BlockLine) (w : Walk A) (parser : Parser A)
      (start : StandsBefore r.parse.constructs text before rest w) → IsNew rows w parser → ((k : ℕ) → get_or rest k 0 < 256)
      → rows_value rows ls ≡ value_with (rows_of (blocks r.parse.constructs before rest)) []
      → IsAmongRows r text start.front (group_items (bare_blocks (blocks r.parse.constructs before rest))) rows ls parser
  rows_begin r text before rest rows ls w parser start new bytes same =
      let on = r.parse.constructs in
      let bs = blocks on before rest in
      let known : places_of (rows_value rows ls).rows ≡ places_of (rows_of bs) = ap (λ (v : RowsValue). places_of v.rows) same in
      let first = opened NoBlock [] (places_of (rows_of bs)) in
      let place = Between (unread_lines on before rest) in
      record {
        so_far = first;
        within = [];
        place = place;
        parsing = record {
          stands =
              subst (λ (x : Walk A). Stands r text start.front first [] place x) (sym new.walk)
              (first_stands r text before rest w start (places_of (rows_of bs)));
          lists = ap (λ (os : List OpenedHere). map is_list (reverse os)) new.lists;
          items = ap (λ (xs : List ItemPlace). map (λ (x : ItemPlace). x.goes_on) (reverse xs)) new.items;
          places = new.places ls ∙ known;
          first = new.first;
        };
        ahead = all_ahead on before rest rows ls bytes same;
      }

  module _ (r : Reading) (text : List ℕ) (front : Nodes) (all : Blocks) where
    -- one row more
    row_passed : (row : Row) (rows : List Row) (xs ys : List BlockLine) (old new : Parser A) → length xs ≡ row_size row
        → (AreLinesOf row xs → GoesOn r (row_value row xs) old new) → IsAmongRows r text front all (row ∷ rows) (xs ++ ys) old
        → IsAmongRows r text front all rows ys new
    row_passed row rows xs ys old new size goes was =
        let o = was.so_far in
        let on = r.parse.constructs in
        let next = one_ahead on all o was.within was.place row rows (xs ++ ys) was.ahead in
        let same : row_value row (xs ++ ys) ≡ row_value row xs = same_value row xs ys size in
        let left : drop (row_size row) (xs ++ ys) ≡ ys = ap (λ (k : ℕ). drop k (xs ++ ys)) (sym size) ∙ over_lines xs ys in
        let lines = lines_of_row row xs size (subst IsPrintableRow same next.3) in
        record {
          so_far = after_row o (row_value row xs);
          within = next.0;
          place = next.1;
          parsing =
              goes lines text front o was.within next.0 was.place next.1
              (subst (λ (b : BlockRow). IsNext on o was.within was.place b next.0 next.1) same next.2) was.parsing;
          ahead =
              subst (λ (b : BlockRow). AreAhead on all (after_row o b) next.0 next.1 rows ys) same
              (subst (λ (ls : List BlockLine). AreAhead on all (after_row o (row_value row (xs ++ ys))) next.0 next.1 rows ls) left next.4);
        }

    row_more : (row : Row) (rows : List Row) (ps : List Piece) (old new : Parser A) → row_size row ≤ length ps
        → (AreLinesOf row (piece_lines (take (row_size row) ps)) → GoesOn r (row_value row (piece_lines (take (row_size row) ps))) old new)
        → IsAmongRows r text front all (row ∷ rows) (piece_lines ps) old
        → IsAmongRows r text front all rows (piece_lines (drop (row_size row) ps)) new
    row_more row rows ps old new enough goes was =
        let n = row_size row in
        let parts : piece_lines ps ≡ piece_lines (take n ps) ++ piece_lines (drop n ps) =
        ap piece_lines (sym (take-append-drop n ps)) ∙ map-append piece_line (take n ps) (drop n ps) in
        let size : length (piece_lines (take n ps)) ≡ n = length-map (take n ps) piece_line ∙ length-take-le n ps enough in
        row_passed row rows (piece_lines (take n ps)) (piece_lines (drop n ps)) old new size goes
        (subst (λ (ls : List BlockLine). IsAmongRows r text front all (row ∷ rows) ls old) parts was)

    -- one row more of these
    pub row_written : (rows : List Row) (pieces : List Piece) (i taken end : ℕ) (d : Row) (old new : Parser A) → i < length rows
        → end ≡ taken + row_size (get_or rows i d) → end ≤ length pieces
        → (AreLinesOf (get_or rows i d) (piece_lines (take (end - taken) (drop taken pieces)))
        → GoesOn r (row_value (get_or rows i d) (piece_lines (take (end - taken) (drop taken pieces)))) old new)
        → IsAmongRows r text front all (drop i rows) (piece_lines (drop taken pieces)) old
        → IsAmongRows r text front all (drop (i + 1) rows) (piece_lines (drop end pieces)) new
    row_written rows pieces i taken end d old new some is fits goes was =
        let row = get_or rows i d in
        let n = row_size row in
        let ps = drop taken pieces in
        let size : end - taken ≡ n = omega (arith, is) in
        let enough : n ≤ length ps = omega (arith, length-drop taken pieces, is, fits) in
        let after : drop n ps ≡ drop end pieces = drop-drop n taken pieces ∙ ap (λ (k : ℕ). drop k pieces) (sym is) in
        let before_row : IsAmongRows r text front all (row ∷ drop (i + 1) rows) (piece_lines ps) old =
        subst (λ (rs : List Row). IsAmongRows r text front all rs (piece_lines ps) old) (drop_more rows i d some) was in
        let go = subst (λ (k : ℕ). AreLinesOf row (piece_lines (take k ps)) → GoesOn r (row_value row (piece_lines (take k ps))) old new) size goes in
        subst (λ (qs : List Piece). IsAmongRows r text front all (drop (i + 1) rows) (piece_lines qs) new) after
        (row_more row (drop (i + 1) rows) ps old new enough go before_row)

    -- after the last one
    rows_end : (ls : List BlockLine) (parser : Parser A) (w : Walk A) → IsAmongRows r text front all [] ls parser → StandsInEnd parser w
        → Stands r text front (opened all [] []) [] (Between []) w
    rows_end ls parser w was ends =
        let none = none_ahead r.parse.constructs all was.so_far was.within was.place ls was.ahead in
        let st : Stands r text front was.so_far was.within was.place w =
        ends r text front was.so_far was.within was.place (ap (λ (o : Opened). o.outer) none.2) was.parsing in
        subst (λ (o : Opened). Stands r text front o [] (Between []) w) none.2
        (subst (λ (cs : List Container). Stands r text front was.so_far cs (Between []) w) none.0
        (subst (λ (p : Place). Stands r text front was.so_far was.within p w) none.1 st))

  -- all rows of a text
  pub rows_written : (r : Reading) (rows : List Row) (ls : List BlockLine) (w after : Walk A) (begun parser : Parser A) → IsNew rows w begun
      → WritesRows r rows ls begun parser → StandsInEnd parser after → WritesBlocksBy r rows ls w after
  rows_written r rows ls w after begun parser new writes ends = λ text before rest start bytes same.
      let all = group_items (bare_blocks (blocks r.parse.constructs before rest)) in
      let done = writes text start.front all (rows_begin r text before rest rows ls w begun start new bytes same) in
      rows_end r text start.front all done.0 parser after done.1 ends
