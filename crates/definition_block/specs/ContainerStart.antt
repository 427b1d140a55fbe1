-- Containers that start on a line (CommonMark 5).
use Rattle.markdown_options.specs.declared.beside.Kind.{Kind}
use Rattle.definition_text.specs.Columns.{Rest}
use Rattle.definition_block.specs.Container.{Container}

-- a container, the rest of the line after what starts it, and the kind of the character before that rest
pub record ContainerStart : Type 0 where
  pub container : Container
  pub rest : Rest
  pub before : Kind

abbrev pub container_start : Container → Rest → Kind → ContainerStart
container_start container rest before = record { container = container; rest = rest; before = before }
