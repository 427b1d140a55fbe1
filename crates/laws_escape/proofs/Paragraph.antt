-- A text of one line that begins nothing is a paragraph.
use Rattle.std.proofs.Common.{◌≡◌, ℕ, zero, suc, true, false, ◌&&◌, ◌||◌, List, [], ◌∷◌, ◌++◌, Option, None, Some, refl, ap, ◌∙◌, take, length}
use Rattle.laws_escape.proofs.Prelude.{after_frontmatter, and_parts, At, Beside, beside_line, block_and_ending, block_codes, block_line, BlockLine, blocks}
use Rattle.laws_escape.proofs.Prelude.{blocks_at_end, bytes_of, children_after, codes_from, cond-false, cond_both, Constructs, empty_tree, grow, in_first_line}
use Rattle.laws_escape.proofs.Prelude.{is_blank, is_line_byte, is_tab_column, join, Kind, Leaf, leaf_line, lines, list_all, new, Nil, nothing, option_and_then}
use Rattle.laws_escape.proofs.Prelude.{or_parts, Paragraph, rest_line, run, step, Text, text_line, text_line_of, tree, Tree, ◌==◌}
use Rattle.std.specs.Prelude.{◌+◌, unwrap_or}
use Rattle.definition_inline.specs.Label.{label_at}
use Rattle.definition_inline.specs.Definition.{definition_at}
use Rattle.definition_inline.proofs.PartSteps.{with_label}
use Rattle.definition_block.specs.ContainerStart.{ContainerStart}
use Rattle.definition_block.specs.Definitions.{DefinitionCut, cut_into, cut_after, cut_most, definition_cut}
use Rattle.definition_block.specs.Frontmatter.{is_metadata_fence}
use Rattle.markdown_options.specs.declared.align_kind.AlignKind.{AlignKind}
use Rattle.definition_block.specs.GfmTable.{delimiter_row, is_head}
use Rattle.definition_block.specs.Tree.{is_some_line, tabled}
use Rattle.definition_block.specs.Tree.{with_paragraph, beside_in, start}
use Rattle.definition_block.specs.Tree.{children}
use Rattle.laws_escape.proofs.PlainText.{and_no, bare_other}
use Rattle.laws_escape.proofs.Escaped.{no_and, no_column, line_byte}
use Rattle.laws_escape.proofs.BeginsNothing.{BeginsNothing, same_bytes, no_start, not_blank, no_leaf}

-- ---- one line without tabs

-- a byte that ends no line
first_follows : (b : ℕ) (bs : List ℕ) → is_line_byte b ≡ true → lines (b ∷ bs) ≡ in_first_line b (lines bs)
first_follows b bs line =
    let none = or_parts (b == 10) (b == 13) (or_parts ((b == 10) || (b == 13)) (b == 257) (line_byte b line).1).0 in
    cond-false (b == 10) _ _ none.0 ∙ cond-false (b == 13) _ _ none.1

one_line : (b : ℕ) (bs : List ℕ) → list_all is_line_byte (b ∷ bs) ≡ true → lines (b ∷ bs) ≡ text_line (b ∷ bs) None ∷ []
one_line b [] all = first_follows b [] (and_parts (is_line_byte b) true all).0
one_line b (next ∷ bs) all =
    let parts = and_parts (is_line_byte b) (list_all is_line_byte (next ∷ bs)) all in
    first_follows b (next ∷ bs) parts.0 ∙ ap (in_first_line b) (one_line next bs parts.1)

no_tabs : (column : ℕ) (bytes : List ℕ) → list_all is_line_byte bytes ≡ true → codes_from column bytes ≡ bytes
no_tabs column [] all = refl
no_tabs column (b ∷ bs) all =
    let parts = and_parts (is_line_byte b) (list_all is_line_byte bs) all in
    cond-false (b == 9) _ _ (line_byte b parts.0).0 ∙ ap (λ xs. b ∷ xs) (no_tabs (column + 1) bs parts.1)

module _ (on : Constructs) (c : ℕ) (cs : List ℕ) (line : BeginsNothing c cs) where
  abbrev here : List ℕ
  here = c ∷ cs

  -- ---- the line in the tree

  abbrev in_paragraph : Beside → Tree
  in_paragraph beside = tree Nil (At (Text (rest_line here beside ∷ [])))

  cut_none : definition_cut on [] ≡ cut_into Nil []
  cut_none = cond_both on.definition (cut_most 0 []) (cut_into Nil []) (λ x. x ≡ cut_into Nil []) (λ _. refl) (λ _. refl)

  its_text : (beside : Beside) → text_line_of on nothing here beside ≡ in_paragraph beside
  its_text beside = ap (λ x. tree (join (with_paragraph x) Nil) (At (Text (rest_line here beside ∷ [])))) cut_none

  no_table : (o : Option (List AlignKind)) (row : BlockLine) → option_and_then (tabled on [] row) o ≡ None
  no_table None row = refl
  no_table (Some columns) row =
      cond-false (is_some_line (definition_cut on []).left && is_head (length columns) []) _ _
      (ap (λ (x : DefinitionCut). is_some_line x.left && false) cut_none)

  its_leaf : (beside : Beside) → leaf_line on nothing here beside ≡ in_paragraph beside
  its_leaf beside =
      cond-false (is_blank here) _ _ (not_blank on c cs line)
      ∙ ap (λ o. unwrap_or o (text_line_of on nothing here beside)) (no_leaf on c cs line beside (no_table (delimiter_row on here) (rest_line here beside)))
      ∙ its_text beside

  its_place : (most : ℕ) (beside : Beside) → new most on true nothing beside here ≡ in_paragraph beside
  its_place zero beside = its_leaf beside
  its_place (suc most) beside =
      let more = λ (s : ContainerStart). new most on true nothing (beside_in s.before beside) s.rest in
      ap (λ o. start on o nothing (leaf_line on nothing here beside) more) (no_start on c cs line false) ∙ its_leaf beside

  -- ---- the paragraph

  no_columns : block_codes here ≡ here
  no_columns =
      let none = cond-false (is_tab_column c) _ 0 (no_column c (and_parts (is_line_byte c) (list_all is_line_byte cs) line.bytes).0) in
      ap (λ n. take n here ++ bytes_of here) none ∙ same_bytes here line.bytes

  abbrev alone : Kind → BlockLine
  alone before = block_line here None before

  no_definition : (others : List ℕ) → definition_at (c ∷ others) ≡ None
  no_definition others =
      ap (λ xs. with_label (label_at xs)) (bare_other c others line.no_white)
      ∙ ap with_label (cond-false (c == 91) _ _ (line.no_punctuation 91 refl refl))

  uncut : (before : Kind) → definition_cut on (alone before ∷ []) ≡ cut_into Nil (alone before ∷ [])
  uncut before =
      cond_both on.definition (cut_most 1 (alone before ∷ [])) (cut_into Nil (alone before ∷ [])) (λ x. x ≡ cut_into Nil (alone before ∷ []))
      (λ _. ap (λ o. cut_after o (alone before ∷ []) (cut_most 0)) (no_definition ((cs ++ []) ++ []))) (λ _. refl)

  its_step : (before : Kind) → step on before empty_tree (text_line here None) ≡ tree Nil (At (Text (alone before ∷ [])))
  its_step before =
      let beside = beside_line before (text_line here None) in
      let on_tree = λ (t : Tree). tree (join Nil t.done) t.now in
      ap (λ xs. on_tree (grow on beside nothing xs)) (no_tabs 0 here line.bytes)
      ∙ ap on_tree (its_place (length here) beside)
      ∙ ap (λ xs. tree Nil (At (Text (block_line xs None before ∷ [])))) no_columns

  its_children : (before : Kind) → children on before (text_line here None ∷ []) ≡ block_and_ending (Leaf (Paragraph (alone before ∷ []))) None
  its_children before = ap (blocks_at_end on) (its_step before) ∙ ap with_paragraph (uncut before)

  -- ---- the text

  no_metadata : (byte : ℕ) → (c == byte) ≡ false → is_metadata_fence byte here ≡ false
  no_metadata byte apart = no_and (run byte here == 3) _ (ap (λ n. n == 3) (cond-false (c == byte) _ 0 apart))

  no_frontmatter : after_frontmatter on (text_line here None ∷ []) ≡ None
  no_frontmatter =
      cond-false _ _ _ (and_no on.frontmatter (is_metadata_fence 45 here) (no_metadata 45 (line.no_punctuation 45 refl refl)))
      ∙ cond-false _ _ _ (and_no on.frontmatter (is_metadata_fence 43 here) (no_metadata 43 (line.no_punctuation 43 refl refl)))

  pub one_paragraph : (before : Kind) → blocks on before here ≡ block_and_ending (Leaf (Paragraph (alone before ∷ []))) None
  one_paragraph before =
      let line_alone = text_line here None ∷ [] in
      ap (λ ls. children_after on before ls (after_frontmatter on ls)) (one_line c cs line.bytes)
      ∙ ap (children_after on before line_alone) no_frontmatter ∙ its_children before
