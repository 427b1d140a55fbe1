-- Line endings as they are printed.
use Rattle.std.specs.Prelude.{ℕ, List}
use Rattle.std.specs.List.{flat_map}
use Rattle.markdown_options.specs.LineEndings.{ending_bytes}
use Rattle.markdown_options.specs.declared.line_ending.LineEnding.{LineEnding}

abbrev pub endings_bytes : List LineEnding → List ℕ
endings_bytes endings = flat_map ending_bytes endings
