-- How raw HTML is printed (CommonMark 4.6 and 6.6).
use Rattle.std.specs.Prelude.{ℕ, Bool, List}
use Rattle.markdown_compile_options.specs.declared.configuration.CompileOptions.{CompileOptions}
use Rattle.definition_page.specs.Tags.{said_bytes}
use Rattle.definition_page.specs.InlinePieces.{raw_html}

-- what raw HTML prints, in the description of an image or not
abbrev pub raw_bytes : Bool → CompileOptions → List ℕ → List ℕ
raw_bytes described options html = said_bytes (raw_html described options html)
