-- Pages are laid out the same by options that print calls and the section of footnotes alike, and by any options where nothing is called.
use Rattle.std.proofs.Common.{◌≡◌, ℕ, zero, suc, List, [], ◌∷◌, ◌++◌, map, reverse, refl, sym, ap, ◌∙◌}
use Rattle.markdown_compile_options.specs.declared.configuration.CompileOptions.{CompileOptions}
use Rattle.definition_page.specs.Pieces.{Piece, CallOf, CountOf}
use Rattle.definition_page.specs.GfmLabelStartFootnote.{Call, call_pieces}
use Rattle.definition_page.specs.GfmFootnoteDefinition.{Footnote, section_pieces}
use Rattle.definition_page.specs.Layout.{NamedCall, named_call, named_calls, first_calls, times, call_of, with_calls, content, contents, layout}
use Rattle.definition_page.specs.Layout.{called_footnotes, page_layout}
use Rattle.definition_page.proofs.PagePieces.{PiecesGood}
use Rattle.definition_page.proofs.PlainLayout.{uncalled_page}

-- options that print calls and the section of footnotes alike
pub record CallAlike (one another : CompileOptions) : Type 0 where
  pub call : (c : Call) → call_pieces one c ≡ call_pieces another c
  pub section : (notes : List Footnote) → section_pieces one notes ≡ section_pieces another notes

module _ (one another : CompileOptions) (alike : CallAlike one another) (default : List ℕ) where
  same_shown : (firsts earlier : List NamedCall) (ps : List Piece) → with_calls one firsts earlier ps ≡ with_calls another firsts earlier ps
  same_shown firsts earlier [] = refl
  same_shown firsts earlier (CallOf place label ∷ ps) =
      let c = call_of place (suc (times place earlier)) 1 firsts in
      let now = earlier ++ named_call place label ∷ [] in
      ap (λ call. call ++ with_calls one firsts now ps) (alike.call c) ∙ ap (λ rest. call_pieces another c ++ rest) (same_shown firsts now ps)
  same_shown firsts earlier (CountOf place label ∷ ps) = same_shown firsts (earlier ++ named_call place label ∷ []) ps
  same_shown firsts earlier (p ∷ ps) = ap (λ rest. p ∷ rest) (same_shown firsts earlier ps)

  pub same_layout : (ps : List Piece) → page_layout one default ps ≡ page_layout another default ps
  same_layout ps =
      let calls = named_calls ps in
      let shown = with_calls another (first_calls calls) [] ps in
      let notes : List Piece → List Footnote = λ all. called_footnotes calls (map (layout default) (contents [] all)) in
      ap (λ all. layout default (content zero (reverse all) ++ section_pieces one (notes all))) (same_shown (first_calls calls) [] ps)
      ∙ ap (λ section. layout default (content zero (reverse shown) ++ section)) (alike.section (notes shown))

-- ---- pages on which nothing is called

-- a piece that calls no footnote
abbrev pub IsUncalled : Piece → Type 0
IsUncalled (CallOf place label) = ⊥
IsUncalled (CountOf place label) = ⊥
IsUncalled piece = Unit {0}

abbrev pub AreUncalled : List Piece → Type 0
AreUncalled ps = PiecesGood IsUncalled ps

-- they have no calls
none_called : (ps : List Piece) → AreUncalled ps → named_calls ps ≡ []
none_called [] are = refl
none_called (CallOf place label ∷ ps) are = absurd are.0
none_called (CountOf place label ∷ ps) are = absurd are.0
none_called (p ∷ ps) are = none_called ps are.1

-- such pages are laid out the same by any options
pub uncalled_layout : (one another : CompileOptions) (default : List ℕ) (ps : List Piece) → AreUncalled ps
    → page_layout one default ps ≡ page_layout another default ps
uncalled_layout one another default ps are =
    uncalled_page one default ps (none_called ps are) ∙ sym (uncalled_page another default ps (none_called ps are))
