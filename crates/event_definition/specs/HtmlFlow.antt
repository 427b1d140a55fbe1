-- HTML blocks (CommonMark 4.6).
use Rattle.std.specs.Prelude.{ℕ, ◌-◌, List}
use Rattle.markdown_options.specs.declared.configuration.Constructs.{Constructs}
use Rattle.definition_block.specs.Container.{Container}
use Rattle.engine_events.specs.declared.event.Name.TheVariants as n
use Rattle.event_definition.specs.RawLines.{raw_lines}
use Rattle.event_definition.specs.Written.{Left, Written, and_then, inside, whole_rest}

-- so many whole lines
abbrev pub html_written : Constructs → List Container → ℕ → Left → Written
html_written on outer count left = inside n.HtmlFlow (and_then (whole_rest n.HtmlFlowData left) (raw_lines on outer n.HtmlFlowData 0 (count - 1)))
