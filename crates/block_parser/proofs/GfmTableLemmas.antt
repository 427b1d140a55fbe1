-- A row of delimiters under the open paragraph.
use Rattle.std.proofs.Common.{◌≡◌, Bool, true, false, if◌then◌else◌, ◌&&◌, List, [], ◌∷◌, Option, None, Some, refl, sym, ap, ◌∙◌}
use Rattle.std.proofs.Common.{length}
use Rattle.block_parser.proofs.Prelude.{bare, BlockLine, bytes_of, Constructs, definition_cut, delimiter_row, fits, is_some_line, list_any, Rest, small_indent}
use Rattle.block_parser.proofs.Prelude.{table_from_cut, table_if, Tree, unwrap_or}
use Rattle.std.proofs.lemmas.Bool.{cond_both}
use Rattle.markdown_options.specs.declared.align_kind.AlignKind.{AlignKind}
use Rattle.definition_block.specs.GfmTable.{alignments_of, cells, delimiters, is_bar_or_colon, is_head, some_alignments}
use Rattle.markdown_options.specs.declared.beside.Kind.TheVariants.{Whitespace}
use Rattle.block_parser.proofs.Steps.{none_cut}

-- whether there are columns
abbrev HasColumns : Option (List AlignKind) → Type 0
HasColumns None = Unit {0}
HasColumns (Some []) = ⊥
HasColumns (Some (align ∷ aligns)) = Unit {0}

some_columns : (o : Option (List AlignKind)) → HasColumns (some_alignments o)
some_columns None = tt
some_columns (Some []) = tt
some_columns (Some (align ∷ aligns)) = tt

row_columns : (on : Constructs) (r : Rest) → HasColumns (delimiter_row on r)
row_columns on r =
    let text = bytes_of (bare r) in
    cond_both (on.gfm_table && small_indent on r) (delimiters text) None HasColumns
    (λ _. cond_both (list_any is_bar_or_colon text) (some_alignments (alignments_of (cells Whitespace text))) None HasColumns
    (λ _. some_columns (alignments_of (cells Whitespace text))) (λ _. tt))
    (λ _. tt)

and-swap : (a b : Bool) → (a && b) ≡ (b && a)
and-swap true true = refl
and-swap true false = refl
and-swap false true = refl
and-swap false false = refl

and-none : (a : Bool) → (a && false) ≡ false
and-none true = refl
and-none false = refl

module _ (on : Constructs) (row : BlockLine) where
  -- a table of these lines, where both hold
  abbrev pub table_where : Bool → List BlockLine → Option Tree
  table_where made ls = if made then Some (table_from_cut (definition_cut on ls) row) else None

  columns_fit : (o : Option (List AlignKind)) (ls : List BlockLine) → HasColumns o
      → table_if on o ls row ≡ table_where (fits (unwrap_or o []) ls && is_some_line (definition_cut on ls).left) ls
  columns_fit None ls h = refl
  columns_fit (Some []) ls h = absurd h
  columns_fit (Some (align ∷ aligns)) ls h =
      ap (λ b. table_where b ls) (and-swap (is_some_line (definition_cut on ls).left) (is_head (length (align ∷ aligns)) ls))

  module _ (r : Rest) where
    -- a table, where the last line has a cell for each column and some line is left
    pub row_fits : (ls : List BlockLine) → table_if on (delimiter_row on r) ls row
        ≡ table_where (fits (unwrap_or (delimiter_row on r) []) ls && is_some_line (definition_cut on ls).left) ls
    row_fits ls = columns_fit (delimiter_row on r) ls (row_columns on r)

    pub fits_not : (columns : List AlignKind) (ls : List BlockLine) → columns ≡ unwrap_or (delimiter_row on r) [] → fits columns ls ≡ false
        → table_if on (delimiter_row on r) ls row ≡ None
    fits_not columns ls is h = row_fits ls ∙ ap (λ b. table_where (b && is_some_line (definition_cut on ls).left) ls) (ap (λ x. fits x ls) (sym is) ∙ h)

    pub fits_so : (columns : List AlignKind) (ls : List BlockLine) (some : Bool) → columns ≡ unwrap_or (delimiter_row on r) [] → fits columns ls ≡ true
        → some ≡ is_some_line (definition_cut on ls).left → table_if on (delimiter_row on r) ls row ≡ table_where some ls
    fits_so columns ls some is h left =
        row_fits ls ∙ ap (λ b. table_where (b && is_some_line (definition_cut on ls).left) ls) (ap (λ x. fits x ls) (sym is) ∙ h)
        ∙ ap (λ b. table_where b ls) (sym left)

    -- no paragraph is open
    pub lines_not : (ls : List BlockLine) → ls ≡ [] → table_if on (delimiter_row on r) ls row ≡ None
    lines_not ls none =
        ap (λ x. table_if on (delimiter_row on r) x row) none ∙ row_fits []
        ∙ ap (λ (x : List BlockLine). table_where (fits (unwrap_or (delimiter_row on r) []) [] && is_some_line x) []) (none_cut on.definition)
        ∙ ap (λ b. table_where b []) (and-none (fits (unwrap_or (delimiter_row on r) []) []))
