-- Tables, laid out piece by piece.
use Rattle.std.proofs.Common.{◌≡◌, ℕ, zero, suc, ◌≤◌, Bool, false, List, [], ◌∷◌, ◌++◌, Option, None, Some, refl, sym, ap, ◌∙◌, drop, length, get_or, arith}
use Rattle.std.proofs.Common.{◌<◌, subst}
use Rattle.std.specs.Prelude.{codes, map}
use Rattle.html_rows.proofs.Prelude.{AlignKind, append-nil, AreClear, bare_tag, BlockLine, Document, document_meaning, element, fold, HaveNoEnding, in_bytes}
use Rattle.html_rows.proofs.Prelude.{inline_pieces, is_blank, is_eol, Kind, laid_both, lay, LayoutState, leaf_bytes, LineEnding, on_page, own_lines}
use Rattle.html_rows.proofs.Prelude.{piece_line, piece_lines, reading_of, tag, with_bytes, with_fresh, with_text}
use Rattle.std.specs.List.{flat_map}
use Rattle.std.specs.Option.{MatchOption}
use Rattle.std.proofs.lemmas.Bool.{cond_both}
use Rattle.std.proofs.lemmas.List.{drop_all}
use Rattle.definition_text.specs.BlockLines.{last_ending}
use Rattle.definition_text.specs.Content.{may_escape}
use Rattle.definition_text.specs.Lines.{ending_text}
use Rattle.markdown_options.specs.declared.beside.Kind.TheVariants.{Punctuation}
use Rattle.definition_block.specs.GfmTable.{Cell, in_first_cell, is_bar, parts, without_blank_first, without_blank_last, line_cells}
use Rattle.definition_block.specs.Tree.{Table}
use Rattle.text_pieces.specs.declared.piece.Piece.{Piece as LinePiece}
use Rattle.definition_inline.specs.Inline.{Inlines, Nil}
use Rattle.definition_page.specs.GfmTable.{line_aligns, align_attributes, cell_pieces, cells_pieces, row_pieces, endings_pieces, body_row_pieces}
use Rattle.definition_page.specs.GfmTable.{head_pieces, body_pieces}
use Rattle.definition_page.specs.InlinePieces.{inline_counts}
use Rattle.definition_page.specs.Pieces as page
use Rattle.definition_page.specs.Read.{read_cell, ending_list, read_row}
use Rattle.definition_page.specs.Tags.{start_tag, end_tag}
use Rattle.html_bytes.specs.Document.{structure_pieces, cell_counts}
use Rattle.block_cells.specs.declared.gfm_table.Cell.{Cell as CellOf}
use Rattle.block_cells.specs.GfmTable.{cell_view}
use Rattle.html_bytes.specs.Pieces.{Piece}
use Rattle.html_bytes.proofs.SameBlocks.{end_said}
use Rattle.html_leaves.specs.GfmTable.{cell_bytes}
use Rattle.html_rows.specs.GfmTable.{next_cell_bytes, cells_bytes, counts_bytes, row_bytes, rows_bytes, head_bytes, body_bytes}
use Rattle.html_rows.specs.GfmTable.{IsClearIf, CellsAreClear}

-- ---- cells without a line ending

first_clear : (code : ℕ) (before : Kind) (cs : List Cell) → is_eol code ≡ false → CellsAreClear cs → CellsAreClear (in_first_cell code before cs)
first_clear code before [] h p = tt
first_clear code before (c ∷ cs) h p = ((h, p.0), p.1)

parts_clear : (before : Kind) (escaped : Bool) (text : List ℕ) → HaveNoEnding text → CellsAreClear (parts before escaped text)
parts_clear before escaped [] h = (tt, tt)
parts_clear before escaped (c ∷ cs) h =
    cond_both (is_bar escaped c) _ _ CellsAreClear (λ _. (tt, parts_clear Punctuation false cs h.1))
    (λ _. first_clear c before (parts before (may_escape escaped c) cs) h.0 (parts_clear before (may_escape escaped c) cs h.1))

without_first_clear : (cs : List Cell) → CellsAreClear cs → CellsAreClear (without_blank_first cs)
without_first_clear [] p = tt
without_first_clear (c ∷ cs) p = cond_both (is_blank c.codes) cs (c ∷ cs) CellsAreClear (λ _. p.1) (λ _. p)

without_last_clear : (cs : List Cell) → CellsAreClear cs → CellsAreClear (without_blank_last cs)
without_last_clear [] p = tt
without_last_clear (c ∷ []) p = cond_both (is_blank c.codes) [] (c ∷ []) CellsAreClear (λ _. tt) (λ _. p)
without_last_clear (c ∷ d ∷ cs) p = (p.0, without_last_clear (d ∷ cs) p.1)

pub cells_clear : (line : BlockLine) → HaveNoEnding line.codes → CellsAreClear (line_cells line)
cells_clear line h =
    let all = parts line.before false line.codes in
    without_last_clear (without_blank_first all) (without_first_clear all (parts_clear line.before false line.codes h))

-- ---- pieces in bytes

nothing_more : (out : LayoutState) → with_bytes [] out ≡ out
nothing_more out = ap (with_text out) (append-nil out.text)

module _ (default : List ℕ) (d : Document) where
  abbrev past : LayoutState → List Piece → LayoutState
  past out ps = fold (lay d.options.compile default) out ps

  -- pieces, a fresh line, and an end tag
  ended : (out : LayoutState) (ps : List page.Piece) (name : List ℕ)
      → past out (in_bytes ((ps ++ page.Fresh ∷ []) ++ page.Close name ∷ [])) ≡ with_bytes (end_tag name) (with_fresh default (past out (in_bytes ps)))
  ended out ps name =
      laid_both d.options.compile default out (ps ++ page.Fresh ∷ []) (page.Close name ∷ [])
      ∙ ap (with_bytes (end_tag name)) (laid_both d.options.compile default out ps (page.Fresh ∷ []))

  -- the ending of a row, if it has one
  said : (ending : Option LineEnding) (out : LayoutState) → past out (in_bytes (endings_pieces (ending_list ending))) ≡ with_bytes (ending_text ending) out
  said None out = sym (nothing_more out)
  said (Some ending) out = ap (λ bytes. with_bytes bytes out) (end_said (Some ending))

-- ---- rows of a body

module _ (default : List ℕ) (d : Document) (aligns : List AlignKind) where
  abbrev body : BlockLine → List page.Piece
  body line = row_pieces (document_meaning d) (codes "td") aligns (read_row (reading_of d) line)

  abbrev whole : BlockLine → List page.Piece
  whole line = body_row_pieces (document_meaning d) aligns (read_row (reading_of d) line)

  abbrev others : List BlockLine → List page.Piece
  others ls = flat_map (body_row_pieces (document_meaning d) aligns) (map (read_row (reading_of d)) ls)

  -- one row prints no ending
  one_row : (l : BlockLine) (out : LayoutState)
      → past default d out (rows_bytes d aligns (own_lines (l ∷ []))) ≡ past default d out (row_bytes d (codes "td") aligns l)
  one_row l out = ap (λ ps. past default d out (in_bytes ps)) (append-nil (body l ++ []) ∙ append-nil (body l))

  ended_row : (l : BlockLine) (out : LayoutState)
      → past default d out (in_bytes (whole l)) ≡ with_bytes (ending_text l.ending) (past default d out (row_bytes d (codes "td") aligns l))
  ended_row l out =
      laid_both d.options.compile default out (body l) (endings_pieces (ending_list l.ending)) ∙ said default d l.ending (past default d out (in_bytes (body l)))

  -- and one more prints the ending before it
  pub rows_more : (ls : List BlockLine) (l : BlockLine) (out : LayoutState)
      → past default d (with_bytes (ending_text (last_ending ls)) (past default d out (rows_bytes d aligns (own_lines ls)))) (row_bytes d (codes "td") aligns l)
      ≡ past default d out (rows_bytes d aligns (own_lines (ls ++ l ∷ [])))
  rows_more [] l out = ap (λ x. past default d x (row_bytes d (codes "td") aligns l)) (nothing_more out) ∙ sym (one_row l out)
  rows_more (a ∷ []) l out =
      let row = row_bytes d (codes "td") aligns l in
      ap (λ x. past default d (with_bytes (ending_text a.ending) x) row) (one_row a out)
      ∙ ap (λ x. past default d x row) (sym (ended_row a out))
      ∙ sym (one_row l (past default d out (in_bytes (whole a))))
      ∙ sym (laid_both d.options.compile default out (whole a) (others (own_lines (l ∷ []))))
  rows_more (a ∷ b ∷ bs) l out =
      let row = row_bytes d (codes "td") aligns l in
      ap (λ x. past default d (with_bytes (ending_text (last_ending (b ∷ bs))) x) row)
      (laid_both d.options.compile default out (whole a) (others (own_lines (b ∷ bs))))
      ∙ rows_more (b ∷ bs) l (past default d out (in_bytes (whole a)))
      ∙ sym (laid_both d.options.compile default out (whole a) (others (own_lines ((b ∷ bs) ++ l ∷ []))))

-- ---- a table

pub two_lines : (pieces : List LinePiece) (p : LinePiece) → 2 ≤ length pieces
    → piece_lines pieces ≡ piece_line (get_or pieces 0 p) ∷ piece_line (get_or pieces 1 p) ∷ piece_lines (drop 2 pieces)
two_lines [] p le = absurd (omega (arith, le))
two_lines (a ∷ []) p le = absurd (omega (arith, le))
two_lines (a ∷ b ∷ others) p le = refl

module _ (default : List ℕ) (d : Document) (head delimiters : BlockLine) (ls : List BlockLine) where
  abbrev columns : List AlignKind
  columns = line_aligns delimiters

  abbrev first : List page.Piece
  first = head_pieces (document_meaning d) columns (read_row (reading_of d) head)

  abbrev more : List BlockLine → List page.Piece
  more own = body_pieces (document_meaning d) columns (ending_list delimiters.ending) (map (read_row (reading_of d)) own)

  -- that of these lines, the first two by themselves
  table_own : (ls : List BlockLine)
      → leaf_bytes d on_page false (Table (own_lines (head ∷ delimiters ∷ ls)))
      ≡ in_bytes (page.Fresh ∷ element (bare_tag (codes "table")) (((page.Fresh ∷ first) ++ more (own_lines ls)) ++ page.Fresh ∷ []))
  table_own [] = refl
  table_own (l ∷ ls) = refl

  -- printed in turn
  pub table_laid : (out : LayoutState)
      → (let start = with_fresh default (with_bytes (codes "<table>") (with_fresh default out)) in
      with_bytes (codes "</table>") (with_fresh default (past default d (past default d start (head_bytes d columns head))
      (body_bytes d columns delimiters.ending (own_lines ls)))))
      ≡ past default d out (leaf_bytes d on_page false (Table (own_lines (head ∷ delimiters ∷ ls))))
  table_laid out =
      let opened = with_bytes (codes "<table>") (with_fresh default out) in
      ap (λ x. with_bytes (codes "</table>") (with_fresh default x)) (sym (laid_both d.options.compile default opened (page.Fresh ∷ first) (more (own_lines ls))))
      ∙ sym (ended default d opened ((page.Fresh ∷ first) ++ more (own_lines ls)) (codes "table"))
      ∙ ap (past default d out) (sym (table_own ls))

-- ---- printed in turn

module _ (default : List ℕ) (d : Document) (aligns : List AlignKind) (line : BlockLine) where
  -- a row
  pub row_laid : (name : List ℕ) (out : LayoutState)
      → with_bytes (codes "</tr>") (with_fresh default (past default d (with_bytes (codes "<tr>") (with_fresh default out))
      (cells_bytes d name aligns (line_cells line))))
      ≡ past default d out (row_bytes d name aligns line)
  row_laid name out =
      sym (ended default d (with_bytes (codes "<tr>") (with_fresh default out))
      (cells_pieces (document_meaning d) name aligns (map (read_cell (reading_of d)) (line_cells line))) (codes "tr"))

  -- a head
  pub head_laid : (out : LayoutState)
      → with_bytes (codes "</thead>")
      (with_fresh default (with_bytes (ending_text line.ending) (past default d (with_bytes (codes "<thead>") out) (row_bytes d (codes "th") aligns line))))
      ≡ past default d out (head_bytes d aligns line)
  head_laid out =
      let opened = with_bytes (codes "<thead>") out in
      let row = row_pieces (document_meaning d) (codes "th") aligns (read_row (reading_of d) line) in
      let endings = endings_pieces (ending_list line.ending) in
      ap (λ x. with_bytes (codes "</thead>") (with_fresh default x))
      (sym (laid_both d.options.compile default opened row endings ∙ said default d line.ending (past default d opened (in_bytes row))))
      ∙ sym (ended default d opened (row ++ endings) (codes "thead"))

-- a body
some_body : (default : List ℕ) (d : Document) (aligns : List AlignKind) (ending : Option LineEnding) (ls : List BlockLine) (out : LayoutState) → 0 < length ls
    → with_bytes (codes "</tbody>")
    (with_fresh default (past default d (with_bytes (codes "<tbody>") (with_bytes (ending_text ending) out)) (rows_bytes d aligns ls)))
    ≡ past default d out (body_bytes d aligns ending ls)
some_body default d aligns ending [] out some = absurd (omega arith)
some_body default d aligns ending (l ∷ ls) out some =
    let endings = endings_pieces (ending_list ending) in
    let rows = others default d aligns (l ∷ ls) in
    ap (λ x. with_bytes (codes "</tbody>") (with_fresh default (past default d (with_bytes (codes "<tbody>") x) (rows_bytes d aligns (l ∷ ls)))))
    (sym (said default d ending out))
    ∙ sym (ended default d (with_bytes (codes "<tbody>") (past default d out (in_bytes endings))) rows (codes "tbody"))
    ∙ sym (laid_both d.options.compile default out endings (element (bare_tag (codes "tbody")) (rows ++ page.Fresh ∷ [])))

own_some : (ls : List BlockLine) → 0 < length ls → 0 < length (own_lines ls)
own_some [] some = absurd (omega arith)
own_some (a ∷ []) some = some
own_some (a ∷ b ∷ others) some = omega arith

pub body_laid : (default : List ℕ) (d : Document) (aligns : List AlignKind) (ending : Option LineEnding) (ls : List BlockLine) (out : LayoutState)
    → 0 < length ls
    → with_bytes (codes "</tbody>")
    (with_fresh default (past default d (with_bytes (codes "<tbody>") (with_bytes (ending_text ending) out)) (rows_bytes d aligns (own_lines ls))))
    ≡ past default d out (body_bytes d aligns ending (own_lines ls))
body_laid default d aligns ending ls out some = some_body default d aligns ending (own_lines ls) out (own_some ls some)

-- a cell
pub cell_laid : (default : List ℕ) (d : Document) (name : List ℕ) (align : AlignKind) (is : Inlines) (out : LayoutState)
    → with_bytes (end_tag name) (past default d (with_bytes (start_tag (tag name (align_attributes align))) (with_fresh default out)) (structure_pieces d is))
    ≡ past default d out (cell_bytes d name align is)
cell_laid default d name align is out =
    sym (laid_both d.options.compile default (with_bytes (start_tag (tag name (align_attributes align))) (with_fresh default out))
    (inline_pieces (document_meaning d) is) (page.Close name ∷ []))

-- a cell after those so far
pub cells_more : (default : List ℕ) (d : Document) (name : List ℕ) (align : AlignKind) (aligns : List AlignKind) (cs left : List Cell) (cell : Option CellOf)
    (out : LayoutState)
    → MatchOption cell ((cs ≡ []) × (left ≡ [])) (λ c. cs ≡ cell_view c ∷ left)
    → past default d out (cells_bytes d name (align ∷ aligns) cs)
    ≡ past default d (past default d out (next_cell_bytes d name align cell)) (cells_bytes d name aligns left)
cells_more default d name align aligns cs left None out h =
    let m = document_meaning d in
    ap (λ x. past default d out (cells_bytes d name (align ∷ aligns) x)) h.0
    ∙ laid_both d.options.compile default out (cell_pieces m name align Nil) (cells_pieces m name aligns [])
    ∙ ap (λ x. past default d (past default d out (cell_bytes d name align Nil)) (cells_bytes d name aligns x)) (sym h.1)
cells_more default d name align aligns cs left (Some c) out h =
    let m = document_meaning d in
    let read = read_cell (reading_of d) in
    ap (λ x. past default d out (cells_bytes d name (align ∷ aligns) x)) h
    ∙ laid_both d.options.compile default out (cell_pieces m name align (read (cell_view c))) (cells_pieces m name aligns (map read left))

pub clear_taken : (cs left : List Cell) (cell : Option CellOf) → MatchOption cell ((cs ≡ []) × (left ≡ [])) (λ c. cs ≡ cell_view c ∷ left)
    → CellsAreClear cs → IsClearIf cell × CellsAreClear left
clear_taken cs left None h p = (tt, subst CellsAreClear (sym h.1) tt)
clear_taken cs left (Some c) h p = subst CellsAreClear h p

-- after the last column
pub no_columns : (aligns : List AlignKind) (i : ℕ) (default : List ℕ) (d : Document) (name : List ℕ) (cs : List Cell) (out : LayoutState) → length aligns ≤ i
    → past default d out (counts_bytes d cs) ≡ past default d out (cells_bytes d name (drop i aligns) cs)
no_columns aligns i default d name cs out le = sym (ap (λ left. past default d out (cells_bytes d name left cs)) (drop_all i aligns le))

-- the calls in one more cell that isn't printed
pub counts_more : (default : List ℕ) (d : Document) (cs left : List Cell) (c : Cell) (out : LayoutState) → cs ≡ c ∷ left
    → past default d (past default d out (cell_counts d c)) (counts_bytes d left) ≡ past default d out (counts_bytes d cs)
counts_more default d cs left c out is =
    let read = read_cell (reading_of d) in
    let counts = inline_counts (document_meaning d) in
    sym (laid_both d.options.compile default out (counts (read c)) (flat_map counts (map read left)))
    ∙ ap (λ x. past default d out (counts_bytes d x)) (sym is)

-- a line among clear ones
pub clear_at : (pieces : List LinePiece) (i : ℕ) (p : LinePiece) → i < length pieces → AreClear (piece_lines pieces)
    → HaveNoEnding (piece_line (get_or pieces i p)).codes
clear_at [] i p lt h = absurd (omega (arith, lt))
clear_at (a ∷ others) zero p lt h = h.0
clear_at (a ∷ others) (suc i) p lt h = clear_at others i p (omega (arith, lt)) h.1
