-- Pieces of the definition and pieces in bytes that lay out the same.
use Rattle.std.proofs.Common.{◌≡◌, ℕ, List, [], ◌∷◌, ◌++◌, sym, ap, ◌∙◌, append_assoc, map}
use Rattle.std.specs.List.{fold, flat_map}
use Rattle.std.proofs.lemmas.List.{append-nil}
use Rattle.std.proofs.lemmas.List.Sums.{fold-append}
use Rattle.markdown_compile_options.specs.declared.configuration.CompileOptions.{CompileOptions}
use Rattle.definition_page.specs.Tags.{PrintedPart, said_bytes, Tag, start_tag, end_tag}
use Rattle.definition_page.specs.Pieces.{Piece, Close, Says, Fresh}
use Rattle.definition_page.specs.InlinePieces.{element}
use Rattle.html_bytes.specs.Pieces as bytes
use Rattle.html_bytes.specs.Layout as bytes_layout
use Rattle.html_bytes.specs.Layout.{LayoutState, layout_state, with_text}
use Rattle.html_bytes.proofs.LayoutSteps.{lay}

-- ---- texts that grow

-- more bytes of the innermost text
abbrev pub add : LayoutState → List ℕ → LayoutState
add l more = with_text l (l.text ++ more)

-- a fresh line in it
abbrev pub fresh : List ℕ → LayoutState → LayoutState
fresh default l = with_text l (bytes.print default l.text bytes.Fresh)

pub add_nil : (l : LayoutState) → add l [] ≡ l
add_nil l = ap (λ t. layout_state t l.outer l.notes l.called l.taken) (append-nil l.text)

pub add_add : (l : LayoutState) (a b : List ℕ) → add (add l a) b ≡ add l (a ++ b)
add_add l a b = ap (λ t. layout_state t l.outer l.notes l.called l.taken) (append_assoc l.text a b)

-- ---- pieces that lay out the same

module _ (options : CompileOptions) (default : List ℕ) where
  abbrev pub Same : List Piece → List bytes.Piece → Type 0
  Same ps bs = (l : LayoutState) → fold (lay options default) l ps ≡ fold (bytes_layout.lay options default) l bs

  -- pieces that add bytes
  abbrev pub Adds : List Piece → List ℕ → Type 0
  Adds ps more = (l : LayoutState) → fold (lay options default) l ps ≡ add l more

  pub joined : (ps qs : List Piece) (bs cs : List bytes.Piece) → Same ps bs → Same qs cs → Same (ps ++ qs) (bs ++ cs)
  joined ps qs bs cs h k l =
      fold-append (lay options default) l ps qs
      ∙ ap (λ x. fold (lay options default) x qs) (h l)
      ∙ k (fold (bytes_layout.lay options default) l bs)
      ∙ sym (fold-append (bytes_layout.lay options default) l bs cs)

  pub after_fresh : (ps : List Piece) (bs : List bytes.Piece) → Same ps bs → Same (Fresh ∷ ps) (bytes.Fresh ∷ bs)
  after_fresh ps bs h l = h (fresh default l)

  -- an element
  pub element_same : (t : Tag) (start end : List ℕ) (ps : List Piece) (bs : List bytes.Piece) → start_tag t ≡ start → end_tag t.name ≡ end → Same ps bs
      → Same (element t ps) (bytes.Bytes start ∷ (bs ++ bytes.Bytes end ∷ []))
  element_same t start end ps bs e f h l =
      fold-append (lay options default) (add l (start_tag t)) ps (Close t.name ∷ [])
      ∙ ap (λ x. add x (end_tag t.name)) (h (add l (start_tag t)))
      ∙ ap (λ s. add (fold (bytes_layout.lay options default) (add l s) bs) (end_tag t.name)) e
      ∙ ap (λ s. add (fold (bytes_layout.lay options default) (add l start) bs) s) f
      ∙ sym (fold-append (bytes_layout.lay options default) (add l start) bs (bytes.Bytes end ∷ []))

  -- one with more pieces at its end
  pub element_with : (t : Tag) (start end : List ℕ) (ps last : List Piece) (bs end_bytes : List bytes.Piece) → start_tag t ≡ start → end_tag t.name ≡ end
      → Same ps bs → Same last end_bytes → Same (element t (ps ++ last)) (bytes.Bytes start ∷ (bs ++ (end_bytes ++ bytes.Bytes end ∷ [])))
  element_with t start end ps last bs end_bytes e f h k l =
      element_same t start end (ps ++ last) (bs ++ end_bytes) e f (joined ps last bs end_bytes h k) l
      ∙ ap (λ x. fold (bytes_layout.lay options default) (add l start) x) (append_assoc bs end_bytes (bytes.Bytes end ∷ []))

  -- an element of bytes
  pub element_added : (t : Tag) (ps : List Piece) (more : List ℕ) → Adds ps more → Adds (element t ps) (start_tag t ++ more ++ end_tag t.name)
  element_added t ps more h l =
      fold-append (lay options default) (add l (start_tag t)) ps (Close t.name ∷ [])
      ∙ ap (λ x. add x (end_tag t.name)) (h (add l (start_tag t)) ∙ add_add l (start_tag t) more)
      ∙ add_add l (start_tag t ++ more) (end_tag t.name)

  -- pieces that say something
  pub says_added : (parts : List PrintedPart) → Adds (map Says parts) (flat_map said_bytes parts)
  says_added [] l = sym (add_nil l)
  says_added (p ∷ ps) l = says_added ps (add l (said_bytes p)) ∙ add_add l (said_bytes p) (flat_map said_bytes ps)
