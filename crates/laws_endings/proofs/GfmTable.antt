-- The cells of a line with another ending in place of each LF (GFM 4.10).
use Rattle.std.proofs.Common.{◌≡◌, ℕ, Bool, false, cond, ◌&&◌, ◌==◌, List, [], ◌∷◌, refl, ap, ◌∙◌, map, length}
use Rattle.laws_endings.proofs.Prelude.{BlockLine, Cell, cells, code_with, codes_with, in_first_cell, is_bar, is_blank, is_head, is_white, Kind, length-map}
use Rattle.laws_endings.proofs.Prelude.{line_cells, LineEnding, lines_with, may_escape, parts, without_blank_first, without_blank_last}
use Rattle.markdown_options.specs.declared.beside.Kind.TheVariants.{Punctuation}
use Rattle.definition_block.specs.GfmTable.{cell}
use Rattle.laws_endings.proofs.Codes.{cond-under, same_code}

module _ (e : LineEnding) where
  abbrev cell_with : Cell → Cell
  cell_with c = cell (codes_with e c.codes) c.before c.after

  in_first-with : (code : ℕ) (before : Kind) (cs : List Cell)
      → in_first_cell (code_with e code) before (map cell_with cs) ≡ map cell_with (in_first_cell code before cs)
  in_first-with code before [] = refl
  in_first-with code before (first ∷ others) = refl

  parts-with : (before : Kind) (escaped : Bool) (codes : List ℕ) → parts before escaped (codes_with e codes) ≡ map cell_with (parts before escaped codes)
  parts-with before escaped [] = refl
  parts-with before escaped (c ∷ cs) =
      let d = code_with e c in
      let first = cell [] before Punctuation in
      ap (λ bar. cond bar (first ∷ parts Punctuation false (codes_with e cs)) (in_first_cell d before (parts before (may_escape escaped d) (codes_with e cs))))
      (same_code e (is_bar escaped) c refl refl)
      ∙ ap (λ escapes. cond (is_bar escaped c) (first ∷ parts Punctuation false (codes_with e cs))
      (in_first_cell d before (parts before escapes (codes_with e cs))))
      (same_code e (may_escape escaped) c refl refl)
      ∙ cond-under (map cell_with) (is_bar escaped c) (ap (λ others. first ∷ others) (parts-with Punctuation false cs))
      (ap (in_first_cell d before) (parts-with before (may_escape escaped c) cs) ∙ in_first-with c before (parts before (may_escape escaped c) cs))

  blank-with : (codes : List ℕ) → is_blank (codes_with e codes) ≡ is_blank codes
  blank-with [] = refl
  blank-with (c ∷ cs) = ap (λ white. white && is_blank (codes_with e cs)) (same_code e is_white c refl refl)
      ∙ ap (λ others. is_white c && others) (blank-with cs)

  first-with : (cs : List Cell) → without_blank_first (map cell_with cs) ≡ map cell_with (without_blank_first cs)
  first-with [] = refl
  first-with (c ∷ cs) =
      ap (λ blank. cond blank (map cell_with cs) (map cell_with (c ∷ cs))) (blank-with c.codes) ∙ cond-under (map cell_with) (is_blank c.codes) refl refl

  last-with : (cs : List Cell) → without_blank_last (map cell_with cs) ≡ map cell_with (without_blank_last cs)
  last-with [] = refl
  last-with (c ∷ []) =
      ap (λ blank. cond blank [] (cell_with c ∷ [])) (blank-with c.codes) ∙ cond-under (map cell_with) (is_blank c.codes) refl refl
  last-with (c ∷ d ∷ cs) = ap (λ others. cell_with c ∷ others) (last-with (d ∷ cs))

  cells-with : (before : Kind) (codes : List ℕ) → cells before (codes_with e codes) ≡ map cell_with (cells before codes)
  cells-with before codes =
      ap (λ all. without_blank_last (without_blank_first all)) (parts-with before false codes)
      ∙ ap without_blank_last (first-with (parts before false codes)) ∙ last-with (without_blank_first (parts before false codes))

  -- a line has as many cells
  pub is_head-with : (count : ℕ) (ls : List BlockLine) → is_head count (lines_with e ls) ≡ is_head count ls
  is_head-with count [] = refl
  is_head-with count (line ∷ []) =
      ap (λ all. length all == count) (cells-with line.before line.codes) ∙ ap (λ n. n == count) (length-map (line_cells line) cell_with)
  is_head-with count (line ∷ next ∷ others) = is_head-with count (next ∷ others)
