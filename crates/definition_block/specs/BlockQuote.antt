-- Block quotes (CommonMark 5.1).
use Rattle.std.specs.Prelude.{ℕ, if◌then◌else◌, ◌==◌, ◌&&◌, [], ◌∷◌, Option, None, Some}
use Rattle.markdown_options.specs.declared.configuration.Constructs.{Constructs}
use Rattle.definition_text.specs.Ascii.{greater_than}
use Rattle.definition_text.specs.Columns.{Rest, bare}
use Rattle.definition_text.specs.Indents.{small_indent, outdent}
use Rattle.definition_block.specs.ContainerLine.{ContainerLine, container_line, kind_before_content}

-- what follows this byte, where the rest begins with it
abbrev pub after_byte : ℕ → Rest → Option Rest
after_byte byte [] = None
after_byte byte (code ∷ codes) = if code == byte then Some codes else None

-- a column of space after the `>` belongs to it
abbrev pub after_mark : Option Rest → Option ContainerLine
after_mark None = None
after_mark (Some rest) = Some (container_line (outdent 1 rest) (kind_before_content rest))

-- what is left after a `>`, with which a quote starts and goes on (CommonMark 5.1)
abbrev pub quote_prefix : Constructs → Rest → Option ContainerLine
quote_prefix on rest = if on.block_quote && small_indent on rest then after_mark (after_byte greater_than (bare rest)) else None
