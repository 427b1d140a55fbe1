-- What is printed on a page.
use Rattle.std.specs.Prelude.{◌≡◌, ℕ, List, [], ◌∷◌, ◌++◌}
use Rattle.std.specs.List.{fold}
use Rattle.markdown_compile_options.specs.declared.configuration.CompileOptions.{CompileOptions}
use Rattle.markdown_options.specs.declared.line_ending.LineEnding.{LineEnding}
use Rattle.markdown_options.specs.LineEndings.{ending_bytes}
use Rattle.html_bytes.specs.Layout.{LayoutState, layout_state, note_end, lay, with_text}
use Rattle.html_bytes.specs.Pieces.{Piece, Fresh, print}
use Rattle.html_footnotes.specs.Output.{output_view}
use Rattle.html_leaves.specs.declared.page.Page.{Page}

-- what was laid out of a page
abbrev pub page_view : {A : Type 0} → Page A → LayoutState
page_view page = output_view page.out

-- with more bytes, and with a fresh line
abbrev pub with_bytes : List ℕ → LayoutState → LayoutState
with_bytes bytes l = with_text l (l.text ++ bytes)

abbrev pub with_fresh : List ℕ → LayoutState → LayoutState
with_fresh default l = with_text l (print default l.text Fresh)

-- with a fresh line that begins with this tag
abbrev pub with_tag : List ℕ → List ℕ → LayoutState → LayoutState
with_tag default tag l = with_bytes tag (with_fresh default l)

-- where the content of a footnote starts, in a text of its own, and where it ends
abbrev pub footnote_text_started : LayoutState → LayoutState
footnote_text_started l = layout_state [] (l.text ∷ l.outer) l.notes l.called l.taken

abbrev pub footnote_text_left : LayoutState → LayoutState
footnote_text_left l = note_end l.text l.outer l.notes l.called l.taken

-- a page after more pieces
abbrev pub layout_after : CompileOptions → LineEnding → LayoutState → List Piece → LayoutState
layout_after options ending l pieces = fold (lay options (ending_bytes ending)) l pieces

-- a page grows by these pieces
abbrev pub LaysOut : {A : Type 0} → CompileOptions → Page A → Page A → List Piece → Type 0
LaysOut options old new pieces = page_view new ≡ layout_after options old.default_ending (page_view old) pieces

-- a page grows by these bytes
abbrev pub Prints : {A : Type 0} → Page A → Page A → List ℕ → Type 0
Prints old new bytes = page_view new ≡ with_bytes bytes (page_view old)

-- a page keeps its default ending
abbrev pub KeepsEnding : {A : Type 0} → Page A → Page A → Type 0
KeepsEnding old new = new.default_ending ≡ old.default_ending
