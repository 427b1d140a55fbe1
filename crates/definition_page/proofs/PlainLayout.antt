-- Pages without calls, and without footnotes.
use Rattle.std.proofs.Common.{◌≡◌, ℕ, zero, suc, List, [], ◌∷◌, ◌++◌, map, reverse, refl, sym, ap, ◌∙◌, append_assoc}
use Rattle.std.proofs.lemmas.List.{append-nil, reverse-append}
use Rattle.markdown_compile_options.specs.declared.configuration.CompileOptions.{CompileOptions}
use Rattle.definition_text.proofs.Each.{Each}
use Rattle.definition_page.specs.Pieces.{Piece, CallOf, CountOf, NoteStart, NoteEnd}
use Rattle.definition_page.specs.Layout.{NamedCall, named_calls, first_calls, with_calls, content, contents, layout, called_footnotes, page_layout}
use Rattle.definition_page.specs.GfmFootnoteDefinition.{section_pieces}

-- ---- pages that call nothing

-- pieces without calls are printed as they are
pub uncalled_shown : (options : CompileOptions) (firsts earlier : List NamedCall) (ps : List Piece) → named_calls ps ≡ []
    → with_calls options firsts earlier ps ≡ ps
uncalled_shown options firsts earlier [] none = refl
uncalled_shown options firsts earlier (CallOf place label ∷ ps) none = cc
uncalled_shown options firsts earlier (CountOf place label ∷ ps) none = cc
uncalled_shown options firsts earlier (p ∷ ps) none = ap (λ qs. p ∷ qs) (uncalled_shown options firsts earlier ps none)

-- so such a page is what stands outside of footnotes, without a section of them
pub uncalled_page : (options : CompileOptions) (default : List ℕ) (ps : List Piece) → named_calls ps ≡ []
    → page_layout options default ps ≡ layout default (content zero (reverse ps))
uncalled_page options default ps none =
    ap (λ (calls : List NamedCall). let shown = with_calls options (first_calls calls) [] ps in
    layout default (content zero (reverse shown) ++ section_pieces options (called_footnotes calls (map (layout default) (contents [] shown))))) none
    ∙ ap (layout default)
    (append-nil (content zero (reverse (with_calls options [] [] ps)))
    ∙ ap (λ qs. content zero (reverse qs)) (uncalled_shown options [] [] ps none))

-- ---- pages without footnotes

-- a piece that footnotes don't need
abbrev pub IsPlain : Piece → Type 0
IsPlain (CallOf place label) = ⊥
IsPlain (CountOf place label) = ⊥
IsPlain NoteStart = ⊥
IsPlain NoteEnd = ⊥
IsPlain piece = Unit {0}

abbrev pub ArePlain : List Piece → Type 0
ArePlain ps = Each IsPlain ps

pub plain_calls : (ps : List Piece) → ArePlain ps → named_calls ps ≡ []
plain_calls [] are = refl
plain_calls (CallOf place label ∷ ps) are = absurd are.0
plain_calls (CountOf place label ∷ ps) are = absurd are.0
plain_calls (p ∷ ps) are = plain_calls ps are.1

-- pieces before others, from the last one to the first
pub turned : (ps qs before : List Piece) → reverse (ps ++ qs) ++ before ≡ reverse qs ++ (reverse ps ++ before)
turned ps qs before = ap (λ all. all ++ before) (reverse-append ps qs) ∙ append_assoc (reverse qs) (reverse ps) before

-- one more piece of a content
content_more : (before : List Piece) (p : Piece) → IsPlain p → content zero (p ∷ before) ≡ content zero before ++ p ∷ []
content_more before (CallOf place label) is = absurd is
content_more before (CountOf place label) is = absurd is
content_more before NoteStart is = absurd is
content_more before NoteEnd is = absurd is
content_more before p is = refl

-- such pieces are more of a content
pub plain_content : (ps before : List Piece) → ArePlain ps → content zero (reverse ps ++ before) ≡ content zero before ++ ps
plain_content [] before are = sym (append-nil (content zero before))
plain_content (p ∷ ps) before are =
    ap (content zero) (turned (p ∷ []) ps before)
    ∙ plain_content ps (p ∷ before) are.1
    ∙ ap (λ qs. qs ++ ps) (content_more before p are.0)
    ∙ append_assoc (content zero before) (p ∷ []) ps

-- they end no footnote
pub plain_contents : (ps before others : List Piece) → ArePlain ps → contents before (ps ++ others) ≡ contents (reverse ps ++ before) others
plain_contents [] before others are = refl
plain_contents (CallOf place label ∷ ps) before others are = absurd are.0
plain_contents (CountOf place label ∷ ps) before others are = absurd are.0
plain_contents (NoteStart ∷ ps) before others are = absurd are.0
plain_contents (NoteEnd ∷ ps) before others are = absurd are.0
plain_contents (p ∷ ps) before others are =
    plain_contents ps (p ∷ before) others are.1 ∙ ap (λ all. contents all others) (sym (turned (p ∷ []) ps before))

-- nor do they change what stands further out
pub plain_outer : (k : ℕ) (ps before : List Piece) → ArePlain ps → content (suc k) (reverse ps ++ before) ≡ content (suc k) before
plain_outer k [] before are = refl
plain_outer k (CallOf place label ∷ ps) before are = absurd are.0
plain_outer k (CountOf place label ∷ ps) before are = absurd are.0
plain_outer k (NoteStart ∷ ps) before are = absurd are.0
plain_outer k (NoteEnd ∷ ps) before are = absurd are.0
plain_outer k (p ∷ ps) before are = ap (content (suc k)) (turned (p ∷ []) ps before) ∙ plain_outer k ps (p ∷ before) are.1

-- a page of them has no section of footnotes
pub plain_page : (options : CompileOptions) (default : List ℕ) (ps : List Piece) → ArePlain ps → page_layout options default ps ≡ layout default ps
plain_page options default ps are =
    uncalled_page options default ps (plain_calls ps are)
    ∙ ap (layout default) (ap (content zero) (sym (append-nil (reverse ps))) ∙ plain_content ps [] are)
