-- Footnotes of a page (in no standard; as GitHub prints them).
use Rattle.std.specs.Prelude.{◌≡◌, ℕ, zero, suc, Bool, true, false, if◌then◌else◌, ◌==◌, List, [], ◌∷◌, ◌++◌, map, reverse}
use Rattle.std.specs.List.{count_by}
use Rattle.markdown_compile_options.specs.declared.configuration.CompileOptions.{CompileOptions}
use Rattle.definition_page.specs.Pieces.{Piece, CallOf, CountOf, NoteEnd, NoteStart}
use Rattle.definition_page.specs.Layout.{NamedCall, named_call, named_calls, first_calls, content, contents, layout, called_footnotes, page_layout}

-- ---- calls

-- a page that calls no footnote has no section of them: its HTML is what stands outside of footnotes alone
abbrev pub NoCallLaw : Type 0
NoCallLaw =
    (options : CompileOptions) (default : List ℕ) (ps : List Piece) → named_calls ps ≡ [] → page_layout options default ps ≡ layout default
    (content zero (reverse ps))

-- a footnote's count is how many calls name it, printed or not
abbrev pub CountLaw : Type 0
CountLaw =
    (calls : List NamedCall) (notes : List (List ℕ))
    → map (λ n. n.calls) (called_footnotes calls notes) ≡ map (λ c. count_by (λ k. c.place == k.place) calls) (first_calls calls)

-- the pieces that call footnotes
abbrev pub only_calls : List Piece → List Piece
only_calls [] = []
only_calls (CallOf place label ∷ ps) = CallOf place label ∷ only_calls ps
only_calls (CountOf place label ∷ ps) = CountOf place label ∷ only_calls ps
only_calls (piece ∷ ps) = only_calls ps

-- what is counted of the calls depends on the calls alone, in their order
abbrev pub CountedCallsLaw : Type 0
CountedCallsLaw =
    (ps : List Piece) (notes : List (List ℕ))
    → called_footnotes (named_calls ps) notes ≡ called_footnotes (named_calls (only_calls ps)) notes

-- one of these calls is of the footnote at this place
abbrev pub is_called : ℕ → List NamedCall → Bool
is_called place [] = false
is_called place (c ∷ cs) = if c.place == place then true else is_called place cs

-- a first call gives its footnote the next number, and any other call changes no number: so the numbers are 1, 2, 3 and so on in the order of first calls
abbrev pub NumberLaw : Type 0
NumberLaw =
    (ps : List Piece) (place : ℕ) (label : List ℕ)
    → (let firsts = first_calls (named_calls ps) in
    first_calls (named_calls (ps ++ CallOf place label ∷ []))
    ≡ (if is_called place (named_calls ps) then firsts else firsts ++ named_call place label ∷ []))

-- ---- contents

-- where so many footnotes are open, these pieces end them, and each that starts among them
abbrev pub AreWhole : List Piece → ℕ → Type 0
AreWhole [] zero = Unit {0}
AreWhole [] (suc open_notes) = ⊥
AreWhole (NoteStart ∷ ps) open_notes = AreWhole ps (suc open_notes)
AreWhole (NoteEnd ∷ ps) zero = ⊥
AreWhole (NoteEnd ∷ ps) (suc open_notes) = AreWhole ps open_notes
AreWhole (piece ∷ ps) open_notes = AreWhole ps open_notes

-- a footnote around pieces
abbrev pub note : List Piece → List Piece
note ps = NoteStart ∷ ps ++ NoteEnd ∷ []

-- what stands around a footnote goes on as if it weren't there
abbrev pub AroundLaw : Type 0
AroundLaw = (before ps : List Piece) (out : ℕ) → AreWhole ps 0 → content out (reverse (note ps) ++ before) ≡ content out before

-- the content of a footnote is what stands between its start and its end, outside of footnotes in it; it comes after those of these, and before those that end
-- later
abbrev pub ContentLaw : Type 0
ContentLaw =
    (before ps later : List Piece) → AreWhole ps 0
    → contents before (note ps ++ later) ≡ contents [] ps ++ content zero (reverse ps) ∷ contents (reverse (note ps) ++ before) later

-- these pieces neither start nor end a footnote
abbrev pub HasNoNote : List Piece → Type 0
HasNoNote [] = Unit {0}
HasNoNote (NoteStart ∷ ps) = ⊥
HasNoNote (NoteEnd ∷ ps) = ⊥
HasNoNote (piece ∷ ps) = HasNoNote ps

-- outside of footnotes stands all of such pieces, and no footnote ends in them
abbrev pub PlainContentLaw : Type 0
PlainContentLaw = (ps : List Piece) → HasNoNote ps → AreWhole ps 0 × (content zero (reverse ps) ≡ ps) × (contents [] ps ≡ [])
