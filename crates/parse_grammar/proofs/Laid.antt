-- Tables of a text have as many columns as cells in their heads, as their rows are laid (GFM 4.10).
use Rattle.std.proofs.Common.{◌≡◌, ℕ, ◌<◌, ◌+◌, List, [], ◌∷◌, ◌++◌, Option, Some, length, get_or, drop, sym, ap, subst, ◌∙◌}
use Rattle.std.proofs.lemmas.Bool.{cond_both, eqb-true}
use Rattle.std.proofs.lemmas.List.{get_or-drop}
use Rattle.std.specs.Prelude.{unwrap_or}
use Rattle.markdown_options.specs.declared.align_kind.AlignKind.{AlignKind}
use Rattle.markdown_options.specs.declared.configuration.Constructs.{Constructs}
use Rattle.definition_text.specs.BlockLines.{BlockLine, own_lines}
use Rattle.definition_text.specs.Lines.{has_mark, kind_before_text, without_mark}
use Rattle.definition_block.specs.Container.{Container}
use Rattle.definition_block.specs.Blocks as tree
use Rattle.definition_block.specs.GfmTable.{delimiters, line_cells}
use Rattle.definition_block.specs.Lists.{group_items}
use Rattle.definition_block.specs.Tree.{blocks}
use Rattle.definition_page.specs.GfmTable.{delimiter_line, head_line, line_aligns}
use Rattle.block_rows.specs.Rows.{BlockRow, Single, Exit, block_rows, rows_of, spaced_leaf}
use Rattle.laws_block.proofs.GroupedRows.{lists_only_group}
use Rattle.parse_laid.specs.Laid.{AreLaid, IsRowLaid, unread_lines}
use Rattle.parse_laid.specs.Leaves.{AreTable}
use Rattle.parse_laid.specs.Places.{Place, Between}
use Rattle.parse_laid.proofs.Laid.{rows_are_laid}
use Rattle.parse_laid.proofs.DelimiterLines.{line_delimiters, row_delimiters}
use Rattle.parse_grammar.proofs.Leaves.{AllReadLeaves, ReadLeavesOf}

-- as many columns as cells in the head
abbrev pub Fits : tree.LeafBlock → Type 0
Fits (tree.Table ls) = length (line_aligns (delimiter_line ls)) ≡ length (line_cells (head_line ls))
Fits leaf = Unit {0}

-- ---- a table

own_columns : (head row : BlockLine) (others : List BlockLine) (columns : List AlignKind) → delimiters row.codes ≡ Some columns
    → line_aligns (delimiter_line (own_lines (head ∷ row ∷ others))) ≡ columns
own_columns head row [] columns is = ap (λ (o : Option (List AlignKind)). unwrap_or o []) is
own_columns head row (line ∷ others) columns is = ap (λ (o : Option (List AlignKind)). unwrap_or o []) is

table_fits : (on : Constructs) (around : List Container) (taken : List BlockLine) (from to : Place) → AreTable on around taken from to
    → Fits (tree.Table (own_lines taken))
table_fits on around [] from to are = absurd are
table_fits on around (head ∷ []) from to are = absurd are
table_fits on around (head ∷ row ∷ others) from to are =
    let here = are.1 in
    let columns = are.3 in
    let found : delimiters row.codes ≡ Some columns =
    ap (λ (l : BlockLine). delimiters l.codes) are.8 ∙ line_delimiters here.rest ∙ row_delimiters on here.rest columns are.6 in
    ap (λ (xs : List AlignKind). length xs) (own_columns head row others columns found) ∙ sym (eqb-true (length (line_cells head)) (length columns) are.7)

-- ---- rows

abbrev RowFits : BlockRow → Type 0
RowFits (Single b) = ReadLeavesOf Fits b
RowFits row = Unit {0}

abbrev AllFit : List BlockRow → Type 0
AllFit [] = Unit {0}
AllFit (row ∷ rows) = RowFits row × AllFit rows

fit_parts : (xs ys : List BlockRow) → AllFit (xs ++ ys) → AllFit xs × AllFit ys
fit_parts [] ys all = (tt, all)
fit_parts (x ∷ xs) ys all = let parts = fit_parts xs ys all.1 in ((all.0, parts.0), parts.1)

leaf_fits : (on : Constructs) (around inner : List Container) (leaf : tree.LeafBlock) (from to : Place)
    → IsRowLaid on around (Single (tree.Leaf leaf)) from inner to → Fits leaf
leaf_fits on around inner (tree.Table ls) from to laid =
    subst (λ (xs : List BlockLine). Fits (tree.Table xs)) (sym laid.1.3) (table_fits on around laid.1.0 from laid.1.1 laid.1.2)
leaf_fits on around inner leaf from to laid = tt

row_fits : (on : Constructs) (around inner : List Container) (row : BlockRow) (from to : Place) → IsRowLaid on around row from inner to → RowFits row
row_fits on around inner (Single (tree.Leaf leaf)) from to laid = leaf_fits on around inner leaf from to laid
row_fits on around inner (Single (tree.Holds c kids)) from to laid = absurd laid.1
row_fits on around inner (Single (tree.Items items)) from to laid = absurd laid.1
row_fits on around inner (Single (tree.Ending ending)) from to laid = tt
row_fits on around inner (Single (tree.Blank ending)) from to laid = tt
row_fits on around inner row from to laid = tt

rows_fit : (on : Constructs) (around : List Container) (from : Place) (rows : List BlockRow) → AreLaid on around from rows → AllFit rows
rows_fit on around from [] laid = tt
rows_fit on around from (row ∷ rows) laid = (row_fits on around laid.0 row from laid.1 laid.2, rows_fit on laid.0 laid.1 rows laid.3)

-- ---- the blocks of these rows

spaced_fits : (leaf : tree.LeafBlock) → Fits (spaced_leaf leaf) → Fits leaf
spaced_fits (tree.Definition ls label destination title) fits = tt
spaced_fits leaf fits = fits

mutual
  block_fits : (b : tree.Block) → AllFit (block_rows b) → ReadLeavesOf Fits b
  block_fits (tree.Leaf leaf) all = spaced_fits leaf all.0
  block_fits (tree.Holds c kids) all = blocks_fit kids (fit_parts (rows_of kids) (Exit ∷ []) all.1).0
  block_fits (tree.Items items) all = blocks_fit items all
  block_fits (tree.Ending ending) all = tt
  block_fits (tree.Blank ending) all = tt

  blocks_fit : (bs : tree.Blocks) → AllFit (rows_of bs) → AllReadLeaves Fits bs
  blocks_fit tree.Nil all = tt
  blocks_fit (tree.Cons b bs) all = let parts = fit_parts (block_rows b) (rows_of bs) all in (block_fits b parts.0, blocks_fit bs parts.1)

-- ---- a text

without_mark_bytes : (text : List ℕ) → ((k : ℕ) → get_or text k 0 < 256) → (k : ℕ) → get_or (without_mark text) k 0 < 256
without_mark_bytes text bytes =
    cond_both (has_mark text) (drop 3 text) text (λ xs. (k : ℕ) → get_or xs k 0 < 256)
    (λ h k. subst (λ b. b < 256) (sym (get_or-drop 3 text k 0)) (bytes (3 + k))) (λ h. bytes)

-- all tables among the blocks of a text
pub text_fits : (on : Constructs) (text : List ℕ) → ((k : ℕ) → get_or text k 0 < 256)
    → AllReadLeaves Fits (group_items (blocks on (kind_before_text text) (without_mark text)))
text_fits on text bytes =
    let before = kind_before_text text in
    let bs = blocks on before (without_mark text) in
    blocks_fit (group_items bs)
    (subst AllFit (sym (lists_only_group bs))
    (rows_fit on [] (Between (unread_lines on before (without_mark text))) (rows_of bs)
    (rows_are_laid on before (without_mark text) (without_mark_bytes text bytes))))
