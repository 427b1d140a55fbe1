-- What a row of delimiters begins with.
use Rattle.std.proofs.Common.{◌≡◌, ◌≢◌, ℕ, zero, suc, ◌+◌, ◌-◌, Bool, List, [], ◌∷◌, ◌||◌, ◌&&◌, true, false, not, eqb, refl, sym, ap, ◌∙◌}
use Rattle.std.proofs.Common.{length, drop, take, get_or, arith, inl, inr, None}
use Rattle.block_cells.proofs.Prelude.{alignments_of, and_alignment, begins_delimiters, begins_row, cases_Bool, Cell, cell, cells, column_delimiter}
use Rattle.block_cells.proofs.Prelude.{cond-false, cond-true, delimiters, in_first_cell, is_bar, is_bar_or_colon, is_blank, is_white, Kind, list_any}
use Rattle.block_cells.proofs.Prelude.{may_escape, or_parts, parts, prefix_len, some_alignments, suffix_len, trim, without_blank_last}
use Rattle.std.proofs.lemmas.Bool.{eqb-false, ne_eqb}
use Rattle.markdown_options.specs.declared.beside.Kind.TheVariants.{Whitespace}
use Rattle.definition_text.specs.Columns.{bare}
use Rattle.definition_block.specs.GfmTable.{without_blank_first}
use Rattle.block_cells.specs.GfmTable.{may_be_delimiters}
use Rattle.block_cells.proofs.Parts.{some_part}
use Rattle.block_cells.proofs.Delimiters.{no_colon}

-- cells of which the first isn't blank and begins with this code, after spaces and tabs
record BeginsWith (b : ℕ) (cs : List Cell) : Type 0 where
  pub first : Cell
  pub others : List Cell
  pub more : List ℕ
  pub same : cs ≡ first ∷ others
  pub filled : is_blank first.codes ≡ false
  pub bare : drop (prefix_len is_white first.codes) first.codes ≡ b ∷ more

other_no_bar : (escaped : Bool) (c : ℕ) → c ≢ 124 → is_bar escaped c ≡ false
other_no_bar escaped c other = ap (λ b. b && not escaped) (ne_eqb c 124 other)

white_no_bar : (c : ℕ) → is_white c ≡ true → c ≢ 124
white_no_bar c h e = let wrong : false ≡ true = sym (ap is_white e) ∙ h in cc

-- the first part of a line begins with what the line begins with
first_part : (before : Kind) (escaped : Bool) (text : List ℕ) (b : ℕ) (more : List ℕ) → b ≢ 124 → drop (prefix_len is_white text) text ≡ b ∷ more
    → BeginsWith b (parts before escaped text)
first_part before escaped [] b more other e = cc
first_part before escaped (c ∷ cs) b more other e =
    let n = prefix_len is_white cs in
    elim (cases_Bool (is_white c)) [
      | inl h ↦
          let step : prefix_len is_white (c ∷ cs) ≡ suc n = cond-true (is_white c) (1 + n) 0 h ∙ omega arith in
          let k = first_part before (may_escape escaped c) cs b more other (sym (ap (λ j. drop j (c ∷ cs)) step) ∙ e) in
          let m = prefix_len is_white k.first.codes in
          let again : prefix_len is_white (c ∷ k.first.codes) ≡ suc m = cond-true (is_white c) (1 + m) 0 h ∙ omega arith in
          record {
            first = cell (c ∷ k.first.codes) before k.first.after;
            others = k.others;
            more = k.more;
            same = cond-false (is_bar escaped c) _ _ (other_no_bar escaped c (white_no_bar c h)) ∙ ap (in_first_cell c before) k.same;
            filled = ap (λ w. w && is_blank k.first.codes) h ∙ k.filled;
            bare = ap (λ j. drop j (c ∷ k.first.codes)) again ∙ k.bare;
          }
      | inr h ↦
          let none : prefix_len is_white (c ∷ cs) ≡ 0 = cond-false (is_white c) (1 + n) 0 h in
          let same : c ∷ cs ≡ b ∷ more = sym (ap (λ j. drop j (c ∷ cs)) none) ∙ e in
          let head : c ≡ b = ap (λ l. get_or l 0 0) same in
          let k = some_part before (may_escape escaped c) cs in
          let m = prefix_len is_white k.first.codes in
          let again : prefix_len is_white (c ∷ k.first.codes) ≡ 0 = cond-false (is_white c) (1 + m) 0 h in
          record {
            first = cell (c ∷ k.first.codes) before k.first.after;
            others = k.others;
            more = k.first.codes;
            same = cond-false (is_bar escaped c) _ _ (other_no_bar escaped c (λ bar. other (sym head ∙ bar))) ∙ ap (in_first_cell c before) k.same;
            filled = ap (λ w. w && is_blank k.first.codes) h;
            bare = ap (λ j. drop j (c ∷ k.first.codes)) again ∙ ap (λ x. x ∷ k.first.codes) head;
          }
    ]

-- a first part that isn't blank is the first cell
record SomeOthers (first : Cell) (cs : List Cell) : Type 0 where
  pub others : List Cell
  pub same : cs ≡ first ∷ others

without_last : (first : Cell) (others : List Cell) → is_blank first.codes ≡ false → SomeOthers first (without_blank_last (first ∷ others))
without_last first [] filled = record { others = []; same = cond-false (is_blank first.codes) _ _ filled }
without_last first (c ∷ cs) filled = record { others = without_blank_last (c ∷ cs); same = refl }

-- what begins with neither a colon nor a dash is no delimiter
no_delimiter : (n b : ℕ) (more : List ℕ) → b ≢ 58 → b ≢ 45 → column_delimiter (take n (b ∷ more)) ≡ None
no_delimiter zero b more colon dash = refl
no_delimiter (suc n) b more colon dash =
    let text = b ∷ take n more in
    cond-false _ _ _ (no_colon text (λ rest e. colon (ap (λ l. get_or l 0 0) e)))
    ∙ cond-true _ _ _ (ap (λ k. eqb k 0) (cond-false (eqb b 45) _ 0 (ne_eqb b 45 dash)))

-- only spaces and tabs
blank_line : (text : List ℕ) → drop (prefix_len is_white text) text ≡ [] → list_any is_bar_or_colon text ≡ false
blank_line [] e = refl
blank_line (c ∷ cs) e =
    let n = prefix_len is_white cs in
    elim (cases_Bool (is_white c)) [
      | inl h ↦
          let step : prefix_len is_white (c ∷ cs) ≡ suc n = cond-true (is_white c) (1 + n) 0 h ∙ omega arith in
          ap (λ b. b || list_any is_bar_or_colon cs) (white_other c h) ∙ blank_line cs (sym (ap (λ j. drop j (c ∷ cs)) step) ∙ e)
      | inr h ↦
          let none : prefix_len is_white (c ∷ cs) ≡ 0 = cond-false (is_white c) (1 + n) 0 h in
          let wrong : c ∷ cs ≡ [] = sym (ap (λ j. drop j (c ∷ cs)) none) ∙ e in
          cc
    ]
  where
    white_other : (c : ℕ) → is_white c ≡ true → is_bar_or_colon c ≡ false
    white_other c h =
        let bar = ne_eqb c 124 (white_no_bar c h) in
        let colon = ne_eqb c 58 (λ e. let wrong : false ≡ true = sym (ap is_white e) ∙ h in cc) in
        ap (λ b. b || eqb c 58) bar ∙ colon

-- a line that begins otherwise is no row of delimiters
no_start : (text : List ℕ) (b : ℕ) (more : List ℕ) → drop (prefix_len is_white text) text ≡ b ∷ more → begins_delimiters b ≡ false → delimiters text ≡ None
no_start text b more e otherwise =
    let apart = or_parts (eqb b 45) (is_bar_or_colon b) otherwise in
    let others = or_parts (eqb b 124) (eqb b 58) apart.1 in
    let k = first_part Whitespace false text b more (eqb-false b 124 others.0) e in
    let m = without_last k.first k.others k.filled in
    let all : cells Whitespace text ≡ k.first ∷ m.others =
    ap (λ l. without_blank_last (without_blank_first l)) k.same ∙ ap without_blank_last (cond-false (is_blank k.first.codes) _ _ k.filled) ∙ m.same in
    let none : column_delimiter (trim k.first.codes) ≡ None =
    ap (λ rest. column_delimiter (take (length rest - suffix_len is_white rest) rest)) k.bare
    ∙ no_delimiter (length (b ∷ k.more) - suffix_len is_white (b ∷ k.more)) b k.more (eqb-false b 58 others.1) (eqb-false b 45 apart.0) in
    let found : alignments_of (cells Whitespace text) ≡ None = ap alignments_of all ∙ ap (λ d. and_alignment d (alignments_of m.others)) none in
    elim (cases_Bool (list_any is_bar_or_colon text)) [
      | inl some ↦ cond-true (list_any is_bar_or_colon text) _ _ some ∙ ap some_alignments found
      | inr lacks ↦ cond-false (list_any is_bar_or_colon text) _ _ lacks
    ]

-- nor is one of only spaces and tabs
no_text : (text : List ℕ) → drop (prefix_len is_white text) text ≡ [] → delimiters text ≡ None
no_text text e = cond-false (list_any is_bar_or_colon text) _ _ (blank_line text e)

-- so each row of delimiters begins with one of those codes
pub no_delimiters : (text : List ℕ) → may_be_delimiters text ≡ false → delimiters text ≡ None
no_delimiters text otherwise = by_rest (bare text) refl otherwise
  where
    by_rest : (rest : List ℕ) → bare text ≡ rest → begins_row rest ≡ false → delimiters text ≡ None
    by_rest [] e h = no_text text e
    by_rest (b ∷ more) e h = no_start text b more e h
