-- The alignments that a row of delimiters says, cell by cell.
use Rattle.std.proofs.Common.{◌≡◌, ◌≢◌, ℕ, List, [], ◌∷◌, ◌++◌, Option, None, Some, false, refl, sym, ap, ◌∙◌, get_or, inl, inr}
use Rattle.block_cells.proofs.Prelude.{alignments_of, and_alignment, cases_Bool, Cell, cells, column_delimiter, cond-false, cond-true, delimiters}
use Rattle.block_cells.proofs.Prelude.{is_bar_or_colon, list_any, option_map, some_alignments, trim, unwrap_or}
use Rattle.std.specs.Prelude.{codes}
use Rattle.std.proofs.lemmas.Bool.{false_from_ne_true}
use Rattle.std.proofs.lemmas.List.{append_assoc}
use Rattle.std.proofs.lemmas.Slice.Eq.{bytes_eq-Decides}
use Rattle.definition_text.specs.Bytes.{begins_with}
use Rattle.markdown_options.specs.declared.beside.Kind.TheVariants.{Whitespace}
use Rattle.markdown_options.specs.declared.align_kind.AlignKind.{AlignKind}

-- a text that doesn't begin with a colon
pub no_colon : (text : List ℕ) → ((rest : List ℕ) → text ≢ 58 ∷ rest) → begins_with (codes ":") text ≡ false
no_colon [] none = refl
no_colon (b ∷ bs) none =
    false_from_ne_true _
    (λ h.
    let e = (bytes_eq-Decides (58 ∷ []) (b ∷ [])).0 h in
    none bs (ap (λ x. x ∷ bs) (sym (ap (λ l. get_or l 0 0) e))))

module _ (all : Option (List AlignKind)) (items : List AlignKind) (c : Cell) (cs left : List Cell) where
  pub in_front : all ≡ option_map (λ more. items ++ more) (alignments_of cs) → cs ≡ c ∷ left
      → all ≡ option_map (λ more. items ++ more) (and_alignment (column_delimiter (trim c.codes)) (alignments_of left))
  in_front h e = h ∙ ap (λ l. option_map (λ more. items ++ more) (alignments_of l)) e

  pub one_more : (a : AlignKind) → all ≡ option_map (λ more. items ++ more) (alignments_of cs) → cs ≡ c ∷ left → column_delimiter (trim c.codes) ≡ Some a
      → all ≡ option_map (λ more. (items ++ a ∷ []) ++ more) (alignments_of left)
  one_more a h e f = in_front h e ∙ ap (λ d. option_map (λ more. items ++ more) (and_alignment d (alignments_of left))) f ∙ go (alignments_of left)
    where
      go : (others : Option (List AlignKind))
          → option_map (λ more. items ++ more) (and_alignment (Some a) others) ≡ option_map (λ more. (items ++ a ∷ []) ++ more) others
      go None = refl
      go (Some others) = ap Some (sym (append_assoc items (a ∷ []) others))

  pub no_more : all ≡ option_map (λ more. items ++ more) (alignments_of cs) → cs ≡ c ∷ left → column_delimiter (trim c.codes) ≡ None → all ≡ None
  no_more h e f = in_front h e ∙ ap (λ d. option_map (λ more. items ++ more) (and_alignment d (alignments_of left))) f

-- a line with a cell that is no delimiter
pub no_row : (line : List ℕ) → alignments_of (cells Whitespace line) ≡ None → unwrap_or (delimiters line) [] ≡ []
no_row line h = elim (cases_Bool (list_any is_bar_or_colon line)) [
  | inl some ↦ ap (λ d. unwrap_or d []) (cond-true (list_any is_bar_or_colon line) _ _ some ∙ ap some_alignments h)
  | inr none ↦ ap (λ d. unwrap_or d []) (cond-false (list_any is_bar_or_colon line) _ _ none)
]
