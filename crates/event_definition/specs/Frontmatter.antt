-- Frontmatter: lines of metadata between fences at the front of a text (in neither standard).
use Rattle.std.specs.Prelude.{◌-◌, List, [], ◌∷◌, Option, None, Some, drop, length, take}
use Rattle.markdown_options.specs.declared.configuration.Constructs.{Constructs}
use Rattle.definition_text.specs.Lines.{TextLine}
use Rattle.definition_block.specs.Frontmatter.{after_frontmatter}
use Rattle.engine_events.specs.declared.event.Name.TheVariants as n
use Rattle.event_definition.specs.Pieces.{Nil, around, join, token}
use Rattle.event_definition.specs.Containers.{begun, next_line}
use Rattle.event_definition.specs.RawLines.{raw_lines}
use Rattle.event_definition.specs.Written.{Left, Between, Written, and_then, ended, inside, line_written, rest_of, written}

-- three dashes or plus signs, and white space
abbrev pub metadata_fence : Left → Written
metadata_fence left =
    line_written (around n.FrontmatterFence (join
    (token n.FrontmatterSequence (take 3 (rest_of left)))
    (token n.SpaceOrTab (drop 3 (rest_of left))))) left

abbrev pub front_with : Constructs → List TextLine → Option (List TextLine) → Written
front_with on ls None = written Nil (Between ls)
front_with on ls (Some others) =
    and_then (begun on [] (Between ls)) (λ l. and_then
    (inside n.Frontmatter (and_then
    (and_then (metadata_fence l) (raw_lines on [] n.FrontmatterChunk 0 (length ls - length others - 2)))
    (λ m. and_then (next_line on [] m) metadata_fence)))
    (ended n.LineEnding))

-- the frontmatter of the lines of a text, if there is one, with its ending
abbrev pub front_written : Constructs → List TextLine → Written
front_written on ls = front_with on ls (after_frontmatter on ls)
