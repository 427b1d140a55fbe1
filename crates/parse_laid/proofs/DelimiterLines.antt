-- The columns of a row of delimiters, by the line of the block and by its bytes after white space.
use Rattle.std.proofs.Common.{◌≡◌, ℕ, suc, ◌-◌, Bool, true, false, ◌&&◌, ◌||◌, List, [], ◌∷◌, ◌++◌, Option, None, Some, drop, inl, inr, length, take, refl, sym, ap, ap₂, ◌∙◌, arith, eqb}
use Rattle.std.proofs.lemmas.Bool.{and_parts, cases_Bool, cond-false, cond-true, eqb-true, or_from, true≢false}
use Rattle.std.proofs.lemmas.List.{take-append-drop}
use Rattle.std.proofs.lemmas.List.Elements.{filter-append}
use Rattle.std.specs.List.{list_all, list_any, prefix_len, suffix_len}
use Rattle.std.specs.Prelude.{if◌then◌else◌}
use Rattle.markdown_options.specs.declared.align_kind.AlignKind.{AlignKind}
use Rattle.markdown_options.specs.declared.beside.Kind.{Kind}
use Rattle.markdown_options.specs.declared.beside.Kind.TheVariants.{Whitespace}
use Rattle.markdown_options.specs.declared.configuration.Constructs.{Constructs}
use Rattle.definition_text.specs.Columns.{bare, block_codes, bytes_of, is_blank, is_byte, is_tab_column, is_white, Rest, trim}
use Rattle.definition_text.specs.Content.{may_escape}
use Rattle.definition_text.specs.Indents.{small_indent}
use Rattle.definition_block.specs.GfmTable.{alignments_of, and_alignment, Cell, cell, cells, column_delimiter, delimiter_row, delimiters, in_first_cell}
use Rattle.definition_block.specs.GfmTable.{is_bar, is_bar_or_colon, parts, some_alignments, without_blank_first, without_blank_last}
use Rattle.parse_laid.proofs.Codes.{all_filter, all_prefix}

-- ---- white space in front

trim_white : (c : ℕ) (cs : List ℕ) → is_white c ≡ true → trim (c ∷ cs) ≡ trim cs
trim_white c cs w =
    let size : prefix_len is_white (c ∷ cs) ≡ suc (prefix_len is_white cs) = cond-true (is_white c) _ 0 w ∙ omega arith in
    ap (λ (k : ℕ). let rest = drop k (c ∷ cs) in take (length rest - suffix_len is_white rest) rest) size

white_is_no_bar : (c : ℕ) → is_white c ≡ true → (is_bar false c ≡ false) × (may_escape false c ≡ false) × (is_bar_or_colon c ≡ false)
white_is_no_bar c w = (
  elim (cases_Bool (eqb c 124)) [
    | inl h ↦ let is : c ≡ 124 = eqb-true c 124 h in absurd (true≢false (sym w ∙ ap is_white is))
    | inr h ↦ ap (λ t. t && true) h
  ],
  elim (cases_Bool (eqb c 92)) [
    | inl h ↦ let is : c ≡ 92 = eqb-true c 92 h in absurd (true≢false (sym w ∙ ap is_white is))
    | inr h ↦ ap (λ t. t && true) h
  ],
  or_from (eqb c 124) (eqb c 58)
      (elim (cases_Bool (eqb c 124)) [
        | inl h ↦ let is : c ≡ 124 = eqb-true c 124 h in absurd (true≢false (sym w ∙ ap is_white is))
        | inr h ↦ h
      ])
      (elim (cases_Bool (eqb c 58)) [
        | inl h ↦ let is : c ≡ 58 = eqb-true c 58 h in absurd (true≢false (sym w ∙ ap is_white is))
        | inr h ↦ h
      ]),
)

last_first : (c : ℕ) (before : Kind) (p : Cell) (others : List Cell) → is_white c ≡ true → is_blank p.codes ≡ false
    → alignments_of (without_blank_last (cell (c ∷ p.codes) before p.after ∷ others)) ≡ alignments_of (without_blank_last (p ∷ others))
last_first c before p [] w dark =
    let more : is_blank (c ∷ p.codes) ≡ false = ap₂ (λ t u. t && u) w dark in
    ap alignments_of (cond-false (is_blank (c ∷ p.codes)) [] (cell (c ∷ p.codes) before p.after ∷ []) more)
    ∙ ap (λ (text : List ℕ). and_alignment (column_delimiter text) (Some [])) (trim_white c p.codes w)
    ∙ ap alignments_of (sym (cond-false (is_blank p.codes) [] (p ∷ []) dark))
last_first c before p (q ∷ others) w dark =
    ap (λ (text : List ℕ). and_alignment (column_delimiter text) (alignments_of (without_blank_last (q ∷ others)))) (trim_white c p.codes w)

white_first : (c : ℕ) (before : Kind) (ps : List Cell) → is_white c ≡ true
    → some_alignments (alignments_of (without_blank_last (without_blank_first (in_first_cell c before ps))))
    ≡ some_alignments (alignments_of (without_blank_last (without_blank_first ps)))
white_first c before [] w = refl
white_first c before (p ∷ others) w = elim (cases_Bool (is_blank p.codes)) [
  | inl h ↦
      let more : is_blank (c ∷ p.codes) ≡ true = ap₂ (λ t u. t && u) w h in
      ap (λ (cs : List Cell). some_alignments (alignments_of (without_blank_last cs)))
      (cond-true (is_blank (c ∷ p.codes)) others (cell (c ∷ p.codes) before p.after ∷ others) more
      ∙ sym (cond-true (is_blank p.codes) others (p ∷ others) h))
  | inr h ↦
      let more : is_blank (c ∷ p.codes) ≡ false = ap₂ (λ t u. t && u) w h in
      ap (λ (cs : List Cell). some_alignments (alignments_of (without_blank_last cs)))
      (cond-false (is_blank (c ∷ p.codes)) others (cell (c ∷ p.codes) before p.after ∷ others) more)
      ∙ ap some_alignments (last_first c before p others w h)
      ∙ ap (λ (cs : List Cell). some_alignments (alignments_of (without_blank_last cs))) (sym (cond-false (is_blank p.codes) others (p ∷ others) h))
]

white_delimiters : (c : ℕ) (cs : List ℕ) → is_white c ≡ true → delimiters (c ∷ cs) ≡ delimiters cs
white_delimiters c cs w =
    let no = white_is_no_bar c w in
    let same : some_alignments (alignments_of (cells Whitespace (c ∷ cs))) ≡ some_alignments (alignments_of (cells Whitespace cs)) =
    ap (λ (ps : List Cell). some_alignments (alignments_of (without_blank_last (without_blank_first ps))))
    (cond-false (is_bar false c) (cell [] Whitespace _ ∷ parts _ false cs) (in_first_cell c Whitespace (parts Whitespace (may_escape false c) cs)) no.0
    ∙ ap (λ (e : Bool). in_first_cell c Whitespace (parts Whitespace e cs)) no.1)
    ∙ white_first c Whitespace (parts Whitespace false cs) w in
    ap₂ (λ (t : Bool) (found : Option (List AlignKind)). if t then found else None) (ap (λ (t : Bool). t || list_any is_bar_or_colon cs) no.2) same

whites_delimiters : (white rest : List ℕ) → list_all is_white white ≡ true → delimiters (white ++ rest) ≡ delimiters rest
whites_delimiters [] rest h = refl
whites_delimiters (c ∷ white) rest h =
    let both = and_parts (is_white c) (list_all is_white white) h in
    white_delimiters c (white ++ rest) both.0 ∙ whites_delimiters white rest both.1

-- ---- the line of a block

columns_white : (rest : Rest) → list_all is_white (take (prefix_len is_tab_column rest) rest) ≡ true
columns_white [] = refl
columns_white (c ∷ cs) = elim (cases_Bool (is_tab_column c)) [
  | inl h ↦
      let size : prefix_len is_tab_column (c ∷ cs) ≡ suc (prefix_len is_tab_column cs) = cond-true (is_tab_column c) _ 0 h ∙ omega arith in
      let white : is_white c ≡ true = ap is_white (eqb-true c 256 h) in
      ap (λ (k : ℕ). list_all is_white (take k (c ∷ cs))) size ∙ ap₂ (λ t u. t && u) white (columns_white cs)
  | inr h ↦
      let size : prefix_len is_tab_column (c ∷ cs) ≡ 0 = cond-false (is_tab_column c) _ 0 h in
      ap (λ (k : ℕ). list_all is_white (take k (c ∷ cs))) size
]

-- the white space before the bytes of a row of delimiters aligns no column
pub line_delimiters : (rest : Rest) → delimiters (block_codes rest) ≡ delimiters (bytes_of (bare rest))
line_delimiters rest =
    let k = prefix_len is_white rest in
    let front = take k rest in
    let split : bytes_of rest ≡ bytes_of front ++ bytes_of (bare rest) =
    ap bytes_of (sym (take-append-drop k rest)) ∙ filter-append is_byte front (bare rest) in
    whites_delimiters (take (prefix_len is_tab_column rest) rest) (bytes_of rest) (columns_white rest)
    ∙ ap delimiters split
    ∙ whites_delimiters (bytes_of front) (bytes_of (bare rest)) (all_filter is_white is_byte front (all_prefix is_white k rest (omega arith)))

pub row_delimiters : (on : Constructs) (rest : Rest) (columns : List AlignKind) → delimiter_row on rest ≡ Some columns
    → delimiters (bytes_of (bare rest)) ≡ Some columns
row_delimiters on rest columns is = elim (cases_Bool (on.gfm_table && small_indent on rest)) [
  | inl h ↦ sym (cond-true (on.gfm_table && small_indent on rest) (delimiters (bytes_of (bare rest))) None h) ∙ is
  | inr h ↦ let none = sym (cond-false (on.gfm_table && small_indent on rest) (delimiters (bytes_of (bare rest))) None h) ∙ is in absurd (cc)
]
