-- What is printed of footnotes.
use Rattle.std.specs.Prelude.{◌≡◌, ℕ, List, OnOk, Result, String, string_bytes}
use Rattle.std.specs.List.{fold}
use Rattle.markdown_compile_options.specs.declared.configuration.CompileOptions.{CompileOptions}
use Rattle.definition_page.specs.GfmLabelStartFootnote as call
use Rattle.definition_page.specs.GfmFootnoteDefinition as footnote
use Rattle.definition_page.specs.GfmFootnoteDefinition.{backs_pieces, content_pieces}
use Rattle.definition_page.specs.Pieces.{Piece, print}
use Rattle.html_footnotes.specs.declared.gfm_label_start_footnote.Call.{Call}
use Rattle.html_footnotes.specs.declared.gfm_footnote_definition.Footnote.{Footnote}

-- these pieces and no others are laid out by a default ending, unless memory ran out
abbrev pub LaysOut : {A B C : Type 0} → List ℕ → Result B C → String A → String A → List Piece → Type 0
LaysOut default result old new pieces = OnOk result (string_bytes new ≡ fold (print default) (string_bytes old) pieces)

abbrev pub call_view : Call → call.Call
call_view c = record { label = c.label.now; number = c.number; count = c.count }

abbrev pub note_view : Footnote → footnote.Footnote
note_view n = record { label = n.label.now; calls = n.calls; html = n.html.now }

-- the content of a footnote, with the ways back to its calls
abbrev pub with_ways_back : CompileOptions → footnote.Footnote → List Piece
with_ways_back options note = content_pieces note.html (backs_pieces options note.label note.calls)
