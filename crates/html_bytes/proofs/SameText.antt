-- Pieces of the definition lay out what they lay out in bytes.
use Rattle.std.proofs.Common.{◌≡◌, ℕ, List, [], ◌∷◌, ◌++◌, refl, ap, ◌∙◌}
use Rattle.std.specs.List.{fold}
use Rattle.std.proofs.lemmas.List.{map-append}
use Rattle.std.proofs.lemmas.List.Sums.{fold-append}
use Rattle.markdown_compile_options.specs.declared.configuration.CompileOptions.{CompileOptions}
use Rattle.html_bytes.specs.Layout.{LayoutState, layout_state, once_more, latest_call}
use Rattle.html_bytes.proofs.LayoutSteps.{lay}
use Rattle.definition_page.specs.Tags.{Tag, start_tag, end_tag}
use Rattle.definition_page.specs.GfmLabelStartFootnote.{call_pieces}
use Rattle.definition_page.specs.InlinePieces.{element}
use Rattle.definition_page.specs.Pieces.{Piece, Open, Close, Void, Says, Eol, Fresh, Named, CallOf, CountOf, NoteStart, NoteEnd}
use Rattle.html_bytes.specs.Layout as bytes_layout
use Rattle.html_bytes.specs.Pieces.{Bytes, piece_bytes, in_bytes}
use Rattle.html_bytes.proofs.Printed.{added}
use Rattle.html_bytes.proofs.SameLayout.{Same}

-- an element in bytes
pub element_bytes : (t : Tag) (ps : List Piece) → in_bytes (element t ps) ≡ Bytes (start_tag t) ∷ (in_bytes ps ++ Bytes (end_tag t.name) ∷ [])
element_bytes t ps = ap (λ x. Bytes (start_tag t) ∷ x) (map-append piece_bytes ps (Close t.name ∷ []))

module _ (options : CompileOptions) (default : List ℕ) where
  piece_same : (l : LayoutState) (p : Piece) → lay options default l p ≡ bytes_layout.lay options default l (piece_bytes p)
  piece_same l (Open t) = refl
  piece_same l (Close name) = refl
  piece_same l (Void t) = refl
  piece_same l (Says said) = refl
  piece_same l Eol = refl
  piece_same l Fresh = refl
  piece_same l (Named t text) = refl
  piece_same l (CallOf place label) =
      let called = once_more place label l.called in
      ap (λ t. layout_state t l.outer l.notes called l.taken) (added default (call_pieces options (latest_call place 1 called)) (tt, (tt, (tt, (tt, (tt, tt))))) l.text)
  piece_same l (CountOf place label) = refl
  piece_same l NoteStart = refl
  piece_same l NoteEnd = refl

  pub pieces_same : (ps : List Piece) → Same options default ps (in_bytes ps)
  pieces_same [] l = refl
  pieces_same (p ∷ ps) l =
      ap (λ x. fold (lay options default) x ps) (piece_same l p) ∙ pieces_same ps (bytes_layout.lay options default l (piece_bytes p))

  -- pieces in bytes after others
  pub laid_both : (l : LayoutState) (ps qs : List Piece)
      → fold (bytes_layout.lay options default) l (in_bytes (ps ++ qs))
      ≡ fold (bytes_layout.lay options default) (fold (bytes_layout.lay options default) l (in_bytes ps)) (in_bytes qs)
  laid_both l ps qs =
      ap (fold (bytes_layout.lay options default) l) (map-append piece_bytes ps qs) ∙ fold-append (bytes_layout.lay options default) l (in_bytes ps) (in_bytes qs)
