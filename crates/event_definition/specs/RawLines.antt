-- Lines that are taken as they are (CommonMark 4.4 to 4.6).
use Rattle.std.specs.Prelude.{ℕ, suc, zero, List}
use Rattle.markdown_options.specs.declared.configuration.Constructs.{Constructs}
use Rattle.definition_text.specs.Indents.{outdent}
use Rattle.definition_block.specs.Container.{Container}
use Rattle.engine_events.specs.declared.event.Name.{Name}
use Rattle.engine_events.specs.declared.event.Name.TheVariants as n
use Rattle.event_definition.specs.Pieces.{Nil}
use Rattle.event_definition.specs.Containers.{next_line}
use Rattle.event_definition.specs.Written.{Left, Written, and_then, rest_of, up_to, whole_rest, written}

-- at most this many columns of white space at the front of a line, which don't belong to it
abbrev pub cut_columns : ℕ → Left → Written
cut_columns columns left = up_to n.SpaceOrTab (outdent columns (rest_of left)) left

-- those columns, and the rest of the line
abbrev pub raw_line : Name → ℕ → Left → Written
raw_line name columns left = and_then (cut_columns columns left) (whole_rest name)

-- so many more lines
abbrev pub raw_lines : Constructs → List Container → Name → ℕ → ℕ → Left → Written
raw_lines on outer name columns zero left = written Nil left
raw_lines on outer name columns (suc count) left =
    and_then (and_then (next_line on outer left) (raw_line name columns)) (raw_lines on outer name columns count)
