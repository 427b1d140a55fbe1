-- The pieces of a page laid out one after another, as printers do it: its footnotes are numbered by their first calls, and stand at its end.
use Rattle.std.specs.Prelude.{ℕ, suc, if◌then◌else◌, ◌==◌, List, [], ◌∷◌, ◌++◌, map, slice_index_or}
use Rattle.std.specs.List.{fold}
use Rattle.markdown_compile_options.specs.declared.configuration.CompileOptions.{CompileOptions}
use Rattle.definition_page.specs.Pieces as page
use Rattle.definition_page.specs.GfmLabelStartFootnote.{Call, call_pieces}
use Rattle.definition_page.specs.GfmFootnoteDefinition.{Footnote, section_pieces}
use Rattle.definition_page.specs.Slug.{next_slug, with_slug}
use Rattle.definition_page.specs.HeadingIds.{tag_with_id}
use Rattle.definition_page.specs.Tags.{start_tag}
use Rattle.html_bytes.specs.Pieces.{Piece, Bytes, Eol, Fresh, Named, CallOf, CountOf, NoteStart, NoteEnd, print, pieces_html}

-- ---- what was laid out

-- a footnote that is called: its place among the footnotes of the document, in the order in which these end, its label as labels are matched, and how many
-- calls it has so far
pub record NoteCalls : Type 0 where
  pub place : ℕ
  pub label : List ℕ
  pub count : ℕ

-- one more call of the footnote at a place: they stand in the order of their first calls
abbrev pub once_more : ℕ → List ℕ → List NoteCalls → List NoteCalls
once_more place label [] = record { place = place; label = label; count = 1 } ∷ []
once_more place label (c ∷ cs) =
    if c.place == place then record { place = c.place; label = c.label; count = suc c.count } ∷ cs else c ∷ once_more place label cs

-- the latest call of the footnote at a place, where the first of these has this number
abbrev pub latest_call : ℕ → ℕ → List NoteCalls → Call
latest_call place number [] = record { label = []; number = number; count = 0 }
latest_call place number (c ∷ cs) =
    if c.place == place then record { label = c.label; number = number; count = c.count } else latest_call place (suc number) cs

-- what was laid out: the innermost text that is open, which is the page or the content of a footnote, those around it, the contents of the footnotes that have
-- ended, the footnotes that are called, and the slugs of the headings
pub record LayoutState : Type 0 where
  pub text : List ℕ
  pub outer : List (List ℕ)
  pub notes : List (List ℕ)
  pub called : List NoteCalls
  pub taken : List (List ℕ)

abbrev pub layout_state : List ℕ → List (List ℕ) → List (List ℕ) → List NoteCalls → List (List ℕ) → LayoutState
layout_state text outer notes called taken = record { text = text; outer = outer; notes = notes; called = called; taken = taken }

-- where the innermost text ends, which is the content of a footnote, the one around it goes on, and an empty one where none is
abbrev pub note_end : List ℕ → List (List ℕ) → List (List ℕ) → List NoteCalls → List (List ℕ) → LayoutState
note_end text [] notes called taken = layout_state [] [] (notes ++ text ∷ []) called taken
note_end text (around ∷ others) notes called taken = layout_state around others (notes ++ text ∷ []) called taken

-- a footnote that is called, with its content
abbrev pub note_of : List (List ℕ) → NoteCalls → Footnote
note_of notes c = record { label = c.label; calls = c.count; html = slice_index_or notes c.place [] }

-- ---- steps

-- the innermost text that is open, with more of it
abbrev pub with_text : LayoutState → List ℕ → LayoutState
with_text l text = layout_state text l.outer l.notes l.called l.taken

-- one more piece
abbrev pub lay : CompileOptions → List ℕ → LayoutState → Piece → LayoutState
lay options default l (Bytes bs) = with_text l (l.text ++ bs)
lay options default l Eol = with_text l (l.text ++ default)
lay options default l Fresh = with_text l (print default l.text Fresh)
lay options default l (Named t text) =
    layout_state (l.text ++ start_tag (tag_with_id options (next_slug l.taken text) t)) l.outer l.notes l.called (with_slug l.taken text)
lay options default l (CallOf place label) =
    let called = once_more place label l.called in
    layout_state (l.text ++ pieces_html (call_pieces options (latest_call place 1 called))) l.outer l.notes called l.taken
lay options default l (CountOf place label) = layout_state l.text l.outer l.notes (once_more place label l.called) l.taken
lay options default l NoteStart = layout_state [] (l.text ∷ l.outer) l.notes l.called l.taken
lay options default l NoteEnd = note_end l.text l.outer l.notes l.called l.taken

-- a page on which nothing is laid out
abbrev pub nothing_laid : LayoutState
nothing_laid = layout_state [] [] [] [] []

-- a page, and after it the footnotes that are called
abbrev pub with_footnotes : CompileOptions → List ℕ → LayoutState → List ℕ
with_footnotes options default l = fold (page.print default) l.text (section_pieces options (map (note_of l.notes) l.called))

abbrev pub page_layout : CompileOptions → List ℕ → List Piece → List ℕ
page_layout options default pieces = with_footnotes options default (fold (lay options default) nothing_laid pieces)
