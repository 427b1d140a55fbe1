-- Indented code (CommonMark 4.4).
use Rattle.std.specs.Prelude.{ℕ, ◌-◌, List}
use Rattle.markdown_options.specs.declared.configuration.Constructs.{Constructs}
use Rattle.definition_block.specs.Container.{Container}
use Rattle.engine_events.specs.declared.event.Name.TheVariants as n
use Rattle.event_definition.specs.RawLines.{cut_columns, raw_lines}
use Rattle.event_definition.specs.Written.{Left, Written, and_then, inside, whole_rest}

-- so many lines, each without four columns; those of the first line are before the block
abbrev pub indented_written : Constructs → List Container → ℕ → Left → Written
indented_written on outer count left =
    and_then (cut_columns 4 left) (λ l. inside n.CodeIndented (and_then (whole_rest n.CodeFlowChunk l) (raw_lines on outer n.CodeFlowChunk 4 (count - 1))))
