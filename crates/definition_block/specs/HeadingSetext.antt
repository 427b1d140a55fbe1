-- Underlines of setext headings (CommonMark 4.3).
use Rattle.std.specs.Prelude.{ℕ, if◌then◌else◌, ◌&&◌, List, Option, None, Some}
use Rattle.markdown_options.specs.declared.configuration.Constructs.{Constructs}
use Rattle.definition_text.specs.Ascii.{hyphen, equals}
use Rattle.definition_text.specs.Columns.{Rest, bare, bytes_of}
use Rattle.definition_text.specs.Indents.{small_indent}
use Rattle.definition_text.specs.Runs.{is_run}

-- a run of `=` or of `-`, and then only spaces and tabs
abbrev pub underline_of : List ℕ → Option ℕ
underline_of text = if is_run 1 equals text then Some 1 else (if is_run 1 hyphen text then Some 2 else None)

-- the rank of a heading that this line would underline: 1 by `=`, 2 by `-` (CommonMark 4.3)
abbrev pub underline : Constructs → Rest → Option ℕ
underline on rest = if on.heading_setext && small_indent on rest then underline_of (bytes_of (bare rest)) else None
