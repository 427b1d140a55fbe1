-- A comment's page in an element of its own.
use Rattle.std.specs.Prelude.{ℕ, List, ◌++◌, codes}
use Rattle.markdown_compile_options.specs.Defaults.{default_options}
use Rattle.markdown_definition.specs.Html.{html}
use Rattle.markdown_tables.specs.Builtin.{builtin_tables}

abbrev pub article : List ℕ → List ℕ
article comment = codes "<article>\n" ++ (html builtin_tables comment default_options ++ codes "\n</article>\n")
