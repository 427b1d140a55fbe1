-- Indented code (CommonMark 4.4).
use Rattle.std.specs.Prelude.{Bool, ◌&&◌, leb}
use Rattle.markdown_options.specs.declared.configuration.Constructs.{Constructs}
use Rattle.definition_text.specs.Columns.{Rest, indent}

-- at least 4 columns of white space (CommonMark 4.4)
abbrev pub starts_code_indented : Constructs → Rest → Bool
starts_code_indented on rest = on.code_indented && leb 4 (indent rest)
