-- What containers leave of a line (CommonMark 5).
use Rattle.std.specs.Prelude.{Bool, false, if◌then◌else◌, [], ◌∷◌}
use Rattle.markdown_options.specs.declared.beside.Kind.{Kind}
use Rattle.markdown_options.specs.declared.beside.Kind.TheVariants.{Whitespace, Punctuation}
use Rattle.definition_text.specs.Columns.{Rest, is_white}

-- the rest of a line after what a container has on it, and the kind of the character before that rest
pub record ContainerLine : Type 0 where
  pub rest : Rest
  pub before : Kind

abbrev pub container_line : Rest → Kind → ContainerLine
container_line rest before = record { rest = rest; before = before }

-- whether a space or tab comes first
abbrev pub begins_with_white : Rest → Bool
begins_with_white [] = false
begins_with_white (code ∷ codes) = is_white code

-- the kind of the character before the content after a `>` or a `:`: that of white space that belongs to the mark, or of the mark (CommonMark 5.1)
abbrev pub kind_before_content : Rest → Kind
kind_before_content rest = if begins_with_white rest then Whitespace else Punctuation
