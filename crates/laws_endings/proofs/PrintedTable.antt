-- Tables of a page with another line ending in place of each LF (GFM 4.10).
use Rattle.std.proofs.Common.{◌≡◌, ℕ, Bool, false, List, [], ◌∷◌, Option, None, Some, refl, ap, ◌∙◌, map}
use Rattle.laws_endings.proofs.Prelude.{BlockLine, Call, Cell, cond_both, Cons, delimiter_line, ending_list, ending_with, head_line, if_ending_with, in_cell}
use Rattle.laws_endings.proofs.Prelude.{in_first_cell, Inline, inline_with, Inlines, inlines_with, is_bar, is_blank, Kind, Leaf, line_cells, line_with}
use Rattle.laws_endings.proofs.Prelude.{LineEnding, lines_with, Linked, may_escape, Nil, parts, Span, Table, TableRow, target_with, without_blank_first}
use Rattle.laws_endings.proofs.Prelude.{without_blank_last}
use Rattle.markdown_options.specs.declared.beside.Kind.TheVariants.{Punctuation}
use Rattle.definition_page.specs.GfmTable.{part_in_cell}
use Rattle.laws_endings.proofs.Each.{Each}
use Rattle.laws_endings.proofs.Fits.{Plain}
use Rattle.laws_endings.proofs.Parts.{IsFit, AreFit}
use Rattle.laws_endings.proofs.BlockReads.{IsFed, LineFits, LinesFit}
use Rattle.laws_endings.proofs.PrintedLeaves.{cell_leaf_fits, cell_leaf-with}

-- ---- what is fit

abbrev pub AreFed : List LineEnding → Type 0
AreFed endings = Each (λ ending. IsFed (Some ending)) endings

pub list_fed : (ending : Option LineEnding) → IsFed ending → AreFed (ending_list ending)
list_fed None f = tt
list_fed (Some ending) f = (f, tt)

abbrev pub RowFits : TableRow → Type 0
RowFits row = Each AreFit row.cells × AreFed row.endings

abbrev pub TableFits : Table → Type 0
TableFits t = RowFits t.head × AreFed t.endings × Each RowFits t.rows

mutual
  part_fits : (i : Inline) → IsFit i → IsFit (part_in_cell i)
  part_fits (Leaf part) p = cell_leaf_fits part p
  part_fits (Span kind kids) p = in_cell_fits kids p
  part_fits (Linked kind target kids) p = (p.0, in_cell_fits kids p.1)
  part_fits (Call label) p = tt

  pub in_cell_fits : (is : Inlines) → AreFit is → AreFit (in_cell is)
  in_cell_fits Nil p = tt
  in_cell_fits (Cons i is) p = (part_fits i p.0, in_cell_fits is p.1)

-- ---- the codes of cells

abbrev pub CellFits : Cell → Type 0
CellFits c = Each Plain c.codes

first_fits : (code : ℕ) (before : Kind) (cs : List Cell) → Plain code → Each CellFits cs → Each CellFits (in_first_cell code before cs)
first_fits code before [] h p = tt
first_fits code before (c ∷ cs) h p = ((h, p.0), p.1)

parts_fit : (before : Kind) (escaped : Bool) (codes : List ℕ) → Each Plain codes → Each CellFits (parts before escaped codes)
parts_fit before escaped [] p = (tt, tt)
parts_fit before escaped (c ∷ cs) p =
    cond_both (is_bar escaped c) _ _ (Each CellFits) (λ _. (tt, parts_fit Punctuation false cs p.1))
    (λ _. first_fits c before (parts before (may_escape escaped c) cs) p.0 (parts_fit before (may_escape escaped c) cs p.1))

without_first_fits : (cs : List Cell) → Each CellFits cs → Each CellFits (without_blank_first cs)
without_first_fits [] p = tt
without_first_fits (c ∷ cs) p = cond_both (is_blank c.codes) cs (c ∷ cs) (Each CellFits) (λ _. p.1) (λ _. p)

without_last_fits : (cs : List Cell) → Each CellFits cs → Each CellFits (without_blank_last cs)
without_last_fits [] p = tt
without_last_fits (c ∷ []) p = cond_both (is_blank c.codes) [] (c ∷ []) (Each CellFits) (λ _. tt) (λ _. p)
without_last_fits (c ∷ d ∷ cs) p = (p.0, without_last_fits (d ∷ cs) p.1)

pub cells_fit : (line : BlockLine) → LineFits line → Each CellFits (line_cells line)
cells_fit line p =
    let all = parts line.before false line.codes in
    without_last_fits (without_blank_first all) (without_first_fits all (parts_fit line.before false line.codes p.0))

-- ---- the lines of a table

pub head_fits : (ls : List BlockLine) → LinesFit ls → LineFits (head_line ls)
head_fits [] p = (tt, (tt, tt))
head_fits (line ∷ ls) p = p.0

pub delimiters_fit : (ls : List BlockLine) → LinesFit ls → LineFits (delimiter_line ls)
delimiters_fit [] p = (tt, (tt, tt))
delimiters_fit (line ∷ []) p = (tt, (tt, tt))
delimiters_fit (line ∷ next ∷ ls) p = p.1.0

module _ (e : LineEnding) where
  pub head-with : (ls : List BlockLine) → head_line (lines_with e ls) ≡ line_with e (head_line ls)
  head-with [] = refl
  head-with (line ∷ ls) = refl

  pub delimiters-with : (ls : List BlockLine) → delimiter_line (lines_with e ls) ≡ line_with e (delimiter_line ls)
  delimiters-with [] = refl
  delimiters-with (line ∷ []) = refl
  delimiters-with (line ∷ next ∷ ls) = refl

  -- ---- tables

  pub list-with : (ending : Option LineEnding) → ending_list (if_ending_with e ending) ≡ map (ending_with e) (ending_list ending)
  list-with None = refl
  list-with (Some ending) = refl

  abbrev pub row_with : TableRow → TableRow
  row_with row = record { cells = map (inlines_with e) row.cells; endings = map (ending_with e) row.endings }

  abbrev pub table_with : Table → Table
  table_with t =
      record { aligns = t.aligns; head = row_with t.head; endings = map (ending_with e) t.endings; rows = map row_with t.rows }

  mutual
    part-with : (i : Inline) → part_in_cell (inline_with e i) ≡ inline_with e (part_in_cell i)
    part-with (Leaf part) = ap Leaf (cell_leaf-with e part)
    part-with (Span kind kids) = ap (Span kind) (in_cell-with kids)
    part-with (Linked kind target kids) = ap (Linked kind (target_with e target)) (in_cell-with kids)
    part-with (Call label) = refl

    pub in_cell-with : (is : Inlines) → in_cell (inlines_with e is) ≡ inlines_with e (in_cell is)
    in_cell-with Nil = refl
    in_cell-with (Cons i is) = ap (λ x. Cons x (in_cell (inlines_with e is))) (part-with i) ∙ ap (Cons (inline_with e (part_in_cell i))) (in_cell-with is)
