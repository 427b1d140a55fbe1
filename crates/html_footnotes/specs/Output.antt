-- What was printed of a page.
use Rattle.std.specs.Prelude.{◌≡◌, ℕ, List, OnOk, Result, map, reverse, string_bytes}
use Rattle.markdown_compile_options.specs.declared.configuration.CompileOptions.{CompileOptions}
use Rattle.html_bytes.specs.Layout.{LayoutState, layout_state, lay}
use Rattle.html_bytes.specs.Pieces.{Piece}
use Rattle.html_footnotes.specs.declared.output.Output.{Output}

-- the innermost text that is open, those around it, the contents of the footnotes that have ended, the footnotes that are called, and the slugs of the headings
abbrev pub output_view : {A : Type 0} → Output A → LayoutState
output_view o = layout_state (string_bytes o.html) (reverse (map string_bytes o.outer.items)) (map string_bytes o.notes.items) o.calls o.slugs

-- this piece and no other is laid out, where the default ending is given, unless memory ran out
abbrev pub Lays : {A B C : Type 0} → CompileOptions → List ℕ → Result B C → Output A → Output A → Piece → Type 0
Lays options default result old new piece = OnOk result (output_view new ≡ lay options default (output_view old) piece)
