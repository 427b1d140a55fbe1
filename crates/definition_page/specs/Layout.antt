-- The pieces of a page laid out: its footnotes are numbered by their first calls, and stand at its end (in no standard; as GitHub prints them).
use Rattle.std.specs.Prelude.{ℕ, zero, suc, not, if◌then◌else◌, ◌==◌, List, [], ◌∷◌, ◌++◌, map, reverse, slice_index_or}
use Rattle.std.specs.List.{filter, fold}
use Rattle.markdown_compile_options.specs.declared.configuration.CompileOptions.{CompileOptions}
use Rattle.definition_page.specs.Pieces.{Piece, CallOf, CountOf, NoteStart, NoteEnd, print}
use Rattle.definition_page.specs.GfmLabelStartFootnote.{Call, call_pieces}
use Rattle.definition_page.specs.GfmFootnoteDefinition.{Footnote, section_pieces}

-- ---- calls

-- a call: the place of its footnote among those of the document, in the order in which these end, and its label as labels are matched
pub record NamedCall : Type 0 where
  pub place : ℕ
  pub label : List ℕ

abbrev pub named_call : ℕ → List ℕ → NamedCall
named_call place label = record { place = place; label = label }

-- the calls among pieces, printed or not, in the order in which they stand
abbrev pub named_calls : List Piece → List NamedCall
named_calls [] = []
named_calls (CallOf place label ∷ ps) = named_call place label ∷ named_calls ps
named_calls (CountOf place label ∷ ps) = named_call place label ∷ named_calls ps
named_calls (p ∷ ps) = named_calls ps

-- the calls of other footnotes than the one at this place
abbrev pub of_others : ℕ → List NamedCall → List NamedCall
of_others place cs = filter (λ c. not (place == c.place)) cs

-- the first call of each footnote: the footnotes are numbered in this order
abbrev pub first_calls : List NamedCall → List NamedCall
first_calls [] = []
first_calls (c ∷ cs) = c ∷ of_others c.place (first_calls cs)

-- how many calls the footnote at this place has
abbrev pub times : ℕ → List NamedCall → ℕ
times place [] = 0
times place (c ∷ cs) = if place == c.place then suc (times place cs) else times place cs

-- the call of the footnote at this place with this count, where these first calls have the numbers from this one on
abbrev pub call_of : ℕ → ℕ → ℕ → List NamedCall → Call
call_of place count number [] = record { label = []; number = number; count = count }
call_of place count number (c ∷ cs) =
    if c.place == place then record { label = c.label; number = number; count = count } else call_of place count (suc number) cs

-- pieces with what each call prints in its place, where the first calls of the page are given, and the calls before these pieces
abbrev pub with_calls : CompileOptions → List NamedCall → List NamedCall → List Piece → List Piece
with_calls options firsts earlier [] = []
with_calls options firsts earlier (CallOf place label ∷ ps) =
    call_pieces options (call_of place (suc (times place earlier)) 1 firsts) ++ with_calls options firsts (earlier ++ named_call place label ∷ []) ps
with_calls options firsts earlier (CountOf place label ∷ ps) = with_calls options firsts (earlier ++ named_call place label ∷ []) ps
with_calls options firsts earlier (p ∷ ps) = p ∷ with_calls options firsts earlier ps

-- ---- contents

-- what stands in the innermost footnote that is open after pieces, or outside of footnotes where none is, or so many footnotes further out, each without the
-- footnotes inside of it; the pieces are given from the last one to the first
abbrev pub content : ℕ → List Piece → List Piece
content out [] = []
content out (NoteEnd ∷ before) = content (suc out) before
content zero (NoteStart ∷ before) = []
content (suc out) (NoteStart ∷ before) = content out before
content zero (p ∷ before) = content zero before ++ p ∷ []
content (suc out) (p ∷ before) = content (suc out) before

-- the contents of the footnotes that end in pieces, in this order; the pieces before are given from the last one to the first
abbrev pub contents : List Piece → List Piece → List (List Piece)
contents before [] = []
contents before (NoteEnd ∷ ps) = content zero before ∷ contents (NoteEnd ∷ before) ps
contents before (p ∷ ps) = contents (p ∷ before) ps

-- ---- the page

-- pieces, one after another
abbrev pub layout : List ℕ → List Piece → List ℕ
layout default ps = fold (print default) [] ps

-- the footnote with this first call, where all calls and the HTML of all footnotes are given
abbrev pub footnote_of : List NamedCall → List (List ℕ) → NamedCall → Footnote
footnote_of calls notes c = record { label = c.label; calls = times c.place calls; html = slice_index_or notes c.place [] }

-- the footnotes that are called, each once, in the order of their first calls
abbrev pub called_footnotes : List NamedCall → List (List ℕ) → List Footnote
called_footnotes calls notes = map (footnote_of calls notes) (first_calls calls)

-- what stands outside of footnotes, and after it the footnotes that are called; each footnote is laid out by itself
abbrev pub page_layout : CompileOptions → List ℕ → List Piece → List ℕ
page_layout options default pieces =
    let calls = named_calls pieces in
    let shown = with_calls options (first_calls calls) [] pieces in
    layout default (content zero (reverse shown) ++ section_pieces options (called_footnotes calls (map (layout default) (contents [] shown))))
