-- What a call for sanitized HTML leaves in the caller's buffer.
use Rattle.std.specs.Prelude.{◌≡◌, ◌≤◌, ◌<◌, ◌↔◌, ℕ, List, length}
use Rattle.markdown_compile_options.specs.declared.configuration.CompileOptions.{CompileOptions}
use Rattle.markdown_tables.specs.Builtin.{builtin_tables}
use Rattle.definition_html.specs.Listed.{sanitized}
use Rattle.markdown_c_options.specs.declared.flat_options.FlatOptions.{FlatOptions}
use Rattle.markdown_c_options.specs.Switches.{options_of_numbers}
use Rattle.markdown_buffers.specs.Pages.{HoldsPage}

-- how a page is printed by options of the caller's, with the default texts
abbrev pub compile_options_of : FlatOptions → CompileOptions
compile_options_of flat = (options_of_numbers flat.constructs flat.switches flat.default_line_ending).compile

-- what is kept of HTML, by the built-in names of references
abbrev pub kept : CompileOptions → List ℕ → List ℕ
kept options html = sanitized builtin_tables.names options html

-- with the status 0 the buffer begins with what is kept of the HTML; with any other it is unchanged. With 0 and 1 its size is stored, otherwise 0
pub record StoresSanitized (options : CompileOptions) (html old new : List ℕ) (size status : ℕ) : Type 0 where
  pub ok : status ≡ 0 → HoldsPage (kept options html) old new
  pub unchanged : ¬ (status ≡ 0) → new ≡ old
  pub stored : status ≤ 1 → size ≡ length (kept options html)
  pub room : status ≤ 1 → ((status ≡ 0) ↔ (size ≤ length old))
  pub none : 1 < status → size ≡ 0
