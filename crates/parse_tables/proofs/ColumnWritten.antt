-- A delimiter is written part by part.
use Rattle.std.proofs.Common.{◌≡◌, ℕ, suc, ◌+◌, ◌-◌, ◌^◌, Bool, true, List, [], ◌∷◌, ◌++◌, drop, length, length-append, replicate, min, refl, sym, ap, ap₂, subst, ◌∙◌, arith}
use Rattle.parse_tables.proofs.Prelude.{alignment, Around, colon_if, End, end_at, end_in, enter_at, exit_at, IsBefore, length-replicate, one}
use Rattle.parse_tables.proofs.Prelude.{run, void_nodes, Walk, WritesColumnHere, WritesTo}
use Rattle.std.proofs.Common.{zero, false, ◌<◌, ◌&&◌, ◌==◌}
use Rattle.std.specs.List.{list_all}
use Rattle.std.specs.Prelude.{codes}
use Rattle.event_tokens.specs.Tokens.{is_among, is_token}
use Rattle.engine_events.specs.declared.event.Name.TheVariants as n
use Rattle.parse_tables.proofs.ColumnNodes.{column_aligns, column_definitions, column_filled, column_kids, column_node, runs_of, value_node}
use Rattle.parse_tables.proofs.Fills.{cell_columns}
use Rattle.parse_tables.proofs.Steps.{IsEntered, IsExited, IsToken, around_written, before_both, entered_before, place_fits, token_written}

colon_fits : (there : Bool) → 0 < length (colon_if there) → is_token n.GfmTableDelimiterMarker (colon_if there) ≡ true
colon_fits true some = refl
colon_fits false some = absurd (omega (arith, some))

dashes_same : (k : ℕ) → list_all (λ c. c == 45) (replicate k 45) ≡ true
dashes_same zero = refl
dashes_same (suc k) = dashes_same k

dashes_among : (k : ℕ) → list_all (is_among (codes "-")) (replicate k 45) ≡ true
dashes_among zero = refl
dashes_among (suc k) = dashes_among k

filler_fits : (k : ℕ) → is_token n.GfmTableDelimiterFiller (45 ∷ replicate k 45) ≡ true
filler_fits k = ap₂ (λ (s t : Bool). s && t) (dashes_same k) (dashes_among k)

module _ {A : Type 0} (w0 w1 w2 w3 w4 w5 w6 w7 : Walk A) (bytes : List ℕ) where
  pub column_written : (left dashes size right result : ℕ) → IsEntered n.GfmTableDelimiterCell w0 w1 → IsEntered n.GfmTableDelimiterCellValue w1 w2
      → left ≡ run 58 bytes → IsToken n.GfmTableDelimiterMarker left w2 w3 → dashes ≡ run 45 (drop left bytes) → IsToken n.GfmTableDelimiterFiller dashes w3 w4
      → size ≡ min (left + dashes) (2 ^ 64 - 1) → right ≡ run 58 (drop size bytes) → IsToken n.GfmTableDelimiterMarker right w4 w5
      → IsExited n.GfmTableDelimiterCellValue w5 w6 → IsExited n.GfmTableDelimiterCell w6 w7 → result ≡ min (size + right) (2 ^ 64 - 1)
      → WritesColumnHere bytes result w0 w7
  column_written left dashes size right result e0 e1 left_is t1 dashes_is t2 size_is right_is t3 x1 x0 result_is = λ text bs ending lines first last k is other b.
      let r = runs_of bytes bs first last k is other in
      let l = length (colon_if first) in
      let m = length (colon_if last) in
      let front = colon_if first in
      let fill = 45 ∷ replicate k 45 in
      let after = colon_if last ++ bs in
      let fits = place_fits text ending lines w0 bytes b in
      let fill_size : length fill ≡ suc k = ap suc (length-replicate k 45) in
      let all : length bytes ≡ l + (suc k + (m + length bs)) =
      ap length is ∙ length-append front (fill ++ after) ∙ ap (λ (j : ℕ). l + j) (length-append fill after ∙ ap₂ (λ (i j : ℕ). i + j) fill_size (length-append (colon_if last) bs)) in
      let left_size : left ≡ l = left_is ∙ r.left in
      let dashes_size : dashes ≡ suc k = dashes_is ∙ ap (λ (j : ℕ). run 45 (drop j bytes)) left_size ∙ r.dashes in
      let both_size : size ≡ l + suc k = omega (arith, size_is, left_size, dashes_size, fits, all) in
      let right_size : right ≡ m = right_is ∙ ap (λ (j : ℕ). run 58 (drop j bytes)) both_size ∙ r.right in
      let all_size : result ≡ l + suc k + m = omega (arith, result_is, both_size, right_size, fits, all) in
      let b1 = entered_before text ending lines w0 w1 n.GfmTableDelimiterCell bytes e0 b in
      let b2 = entered_before text ending lines w1 w2 n.GfmTableDelimiterCellValue bytes e1 b1 in
      let e : End = end_in w2.out in
      let colon = end_at (e.index + l) 0 in
      let dash = end_at (colon.index + suc k) 0 in
      let last_end = end_at (dash.index + m) 0 in
      let first_token : IsToken n.GfmTableDelimiterMarker l w2 w3 = subst (λ (j : ℕ). IsToken n.GfmTableDelimiterMarker j w2 w3) left_size t1 in
      let start_fits = place_fits text ending lines w2 bytes b2 in
      let one_done = token_written text ending lines w2 w3 n.GfmTableDelimiterMarker l front (fill ++ after) first_token refl (colon_fits first)
      (subst (λ xs. IsBefore text xs ending lines w2) is b2) in
      let end3 : end_in w3.out ≡ colon = first_token.end (omega (arith, start_fits, all)) in
      let second_token : IsToken n.GfmTableDelimiterFiller (suc k) w3 w4 = subst (λ (j : ℕ). IsToken n.GfmTableDelimiterFiller j w3 w4) dashes_size t2 in
      let fits3 = place_fits text ending lines w3 (fill ++ after) one_done.before in
      let two = token_written text ending lines w3 w4 n.GfmTableDelimiterFiller (suc k) fill after second_token (sym fill_size)
      (λ some. filler_fits k) one_done.before in
      let line3 : length (fill ++ after) ≡ suc k + length after = length-append fill after ∙ ap (λ (j : ℕ). j + length after) fill_size in
      let end4 : end_in w4.out ≡ dash = second_token.end (omega (arith, fits3, line3)) ∙ ap (λ (x : End). end_at (x.index + suc k) 0) end3 in
      let two_done : WritesTo text after ending lines (void_nodes text n.GfmTableDelimiterFiller colon dash) w3 w4 =
      subst (λ (x : End). WritesTo text after ending lines (void_nodes text n.GfmTableDelimiterFiller x (end_at (x.index + suc k) 0)) w3 w4) end3 two in
      let third_token : IsToken n.GfmTableDelimiterMarker m w4 w5 = subst (λ (j : ℕ). IsToken n.GfmTableDelimiterMarker j w4 w5) right_size t3 in
      let fits4 = place_fits text ending lines w4 after two.before in
      let three = token_written text ending lines w4 w5 n.GfmTableDelimiterMarker m (colon_if last) bs third_token refl (colon_fits last) two.before in
      let end5 : end_in w5.out ≡ last_end =
      third_token.end (omega (arith, fits4, length-append (colon_if last) bs)) ∙ ap (λ (x : End). end_at (x.index + m) 0) end4 in
      let three_done : WritesTo text bs ending lines (void_nodes text n.GfmTableDelimiterMarker dash last_end) w4 w5 =
      subst (λ (x : End). WritesTo text bs ending lines (void_nodes text n.GfmTableDelimiterMarker x (end_at (x.index + m) 0)) w4 w5) end4 three in
      let kids : WritesTo text bs ending lines (column_kids text e first last k) w2 w5 =
      before_both text ending lines w2 w3 w5 (fill ++ after) bs _ _ one_done (before_both text ending lines w3 w4 w5 after bs _ _ two_done three_done) in
      let value = around_written text ending lines w1 w2 w5 w6 n.GfmTableDelimiterCellValue bytes bs (column_kids text e first last k) b1 e1 kids x1 in
      let value_done : WritesTo text bs ending lines (one (value_node text e first last k)) w1 w6 =
      subst (λ (x : End). WritesTo text bs ending lines (one (Around (enter_at text n.GfmTableDelimiterCellValue x) (column_kids text e first last k)
      (exit_at text n.GfmTableDelimiterCellValue last_end))) w1 w6) (sym e1.end)
      (subst (λ (x : End). WritesTo text bs ending lines (one (Around (enter_at text n.GfmTableDelimiterCellValue (end_in w1.out)) (column_kids text e first last k)
      (exit_at text n.GfmTableDelimiterCellValue x))) w1 w6) end5 value) in
      let cell = around_written text ending lines w0 w1 w6 w7 n.GfmTableDelimiterCell bytes bs (one (value_node text e first last k)) b e0 value_done x0 in
      let from : end_in w0.out ≡ e = sym (e1.end ∙ e0.end) in
      let cell_done : WritesTo text bs ending lines (one (column_node text e first last k)) w0 w7 =
      subst (λ (x : End). WritesTo text bs ending lines (one (Around (enter_at text n.GfmTableDelimiterCell x) (one (value_node text e first last k))
      (exit_at text n.GfmTableDelimiterCell last_end))) w0 w7) from
      (subst (λ (x : End). WritesTo text bs ending lines (one (Around (enter_at text n.GfmTableDelimiterCell (end_in w0.out)) (one (value_node text e first last k))
      (exit_at text n.GfmTableDelimiterCell x))) w0 w7) (x1.end ∙ end5) cell) in
      record {
        some = omega (arith, all_size);
        rest = ap (λ (j : ℕ). drop j bytes) all_size ∙ r.rest;
        writes = record {
          nodes = one (column_node text e first last k);
          writes = cell_done;
          aligns = column_aligns text e first last k b2.bare;
          definitions = column_definitions text e first last k;
          fill = cell_columns (alignment first last ∷ []) (column_node text e first last k) refl (column_filled text e first last k b2.bare);
        };
      }
