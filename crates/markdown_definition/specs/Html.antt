-- The HTML of a text: its page as it is printed, with its raw HTML by the list where the options keep it.
use Rattle.std.specs.Prelude.{ℕ, List}
use Rattle.markdown_compile_options.specs.declared.configuration.Options.{Options}
use Rattle.definition_page.specs.TextTables.{TextTables}
use Rattle.definition_page.specs.PrintedPage.{printed_page}
use Rattle.definition_html.specs.Listed.{with_listed}

abbrev pub html : TextTables → List ℕ → Options → List ℕ
html tables text options = with_listed tables.names options.compile (printed_page tables text options)
