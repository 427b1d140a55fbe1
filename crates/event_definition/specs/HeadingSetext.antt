-- Setext headings (CommonMark 4.3).
use Rattle.std.specs.Prelude.{List, drop, slice_index, take}
use Rattle.definition_text.specs.BlockLines.{BlockLine}
use Rattle.definition_text.specs.Columns.{Code, bytes_of}
use Rattle.definition_text.specs.Runs.{run}
use Rattle.definition_block.specs.Container.{Container}
use Rattle.definition_page.specs.Read.{Reading, read_text}
use Rattle.engine_events.specs.declared.event.Name.{Name}
use Rattle.engine_events.specs.declared.event.Name.TheVariants as n
use Rattle.event_definition.specs.Pieces.{Pieces, around, join, token}
use Rattle.event_definition.specs.Context.{on_of}
use Rattle.event_definition.specs.Containers.{next_line}
use Rattle.event_definition.specs.Paragraph.{content_white, content_written}
use Rattle.event_definition.specs.Written.{Left, Written, and_then, inside, line_written, rest_of, white}

-- the run of a byte that a line begins with, and the white space after it
abbrev pub run_pieces : Name → List Code → Pieces
run_pieces name bytes = let size = run (slice_index bytes 0) bytes in join (token name (take size bytes)) (token n.SpaceOrTab (drop size bytes))

abbrev pub underline_written : Left → Written
underline_written left =
    and_then (white left)
    (λ l. line_written (around n.HeadingSetextUnderline (run_pieces n.HeadingSetextUnderlineSequence (bytes_of (rest_of l)))) l)

-- a text and the underline below it
abbrev pub setext_written : Reading → List Container → List BlockLine → Left → Written
setext_written r outer ls left =
    and_then (content_white ls left) (λ l. inside n.HeadingSetext (and_then
    (content_written r outer n.HeadingSetextText (read_text r ls) ls l)
    (λ m. and_then (next_line (on_of r) outer m) underline_written)))
