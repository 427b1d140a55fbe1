-- What is open on a page, and what was printed on it.
use Rattle.std.specs.Prelude.{Bool, false, List, [], ◌∷◌, reverse}
use Rattle.markdown_compile_options.specs.declared.configuration.CompileOptions.{CompileOptions}
use Rattle.definition_page.specs.Pieces.{Piece}
use Rattle.html_bytes.specs.Pieces.{in_bytes}
use Rattle.html_leaves.specs.Prints.{LaysOut}
use Rattle.compile_html.specs.Opened.{Opened, opened}
use Rattle.compile_html.specs.declared.printer.Printer.{Printer}

abbrev pub opened_of : {A : Type 0} → Printer A → Opened
opened_of p = opened p.level (reverse p.outer.items)

-- a page grows by these pieces of the definition
abbrev pub Prints : {A : Type 0} → CompileOptions → Printer A → Printer A → List Piece → Type 0
Prints options old new pieces = LaysOut options old.leaves.page new.leaves.page (in_bytes pieces)

-- whether the next list is loose
abbrev pub head_or_tight : List Bool → Bool
head_or_tight [] = false
head_or_tight (loose ∷ others) = loose

abbrev pub next_loose : {A : Type 0} → Printer A → Bool
next_loose p = head_or_tight (reverse p.loose.items)
