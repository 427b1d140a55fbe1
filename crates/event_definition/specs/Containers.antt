-- The prefixes of containers, at the start of a container and of each further line (CommonMark 5).
use Rattle.std.specs.Prelude.{false, List, [], ◌∷◌, Option, None, Some}
use Rattle.markdown_options.specs.declared.configuration.Constructs.{Constructs}
use Rattle.markdown_options.specs.declared.line_ending.LineEnding.{LineEnding}
use Rattle.definition_text.specs.Lines.{TextLine}
use Rattle.definition_text.specs.Columns.{Rest, bare, whole}
use Rattle.definition_block.specs.Container.{Container, Quote, Item, Footnote}
use Rattle.definition_block.specs.ContainerLine.{ContainerLine}
use Rattle.definition_block.specs.ContainerStart.{ContainerStart}
use Rattle.definition_block.specs.Containers.{continues, starts}
use Rattle.engine_events.specs.declared.event.Name.{Name}
use Rattle.engine_events.specs.declared.event.Name.TheVariants as n
use Rattle.event_definition.specs.Pieces.{Pieces, Nil, join}
use Rattle.event_definition.specs.Written.{Left, Between, Within, Written, and_then, ended, rest_of, with_rest, written}
use Rattle.event_definition.specs.BlockQuote.{quote_mark, quote_prefix_pieces}
use Rattle.event_definition.specs.ListItem.{item_prefix_pieces, item_start_pieces}
use Rattle.event_definition.specs.GfmFootnoteDefinition.{footnote_start_pieces}

-- ---- containers that continue

-- the prefix of a container between a rest and the rest after it
abbrev pub prefix_pieces : Container → Rest → Rest → Pieces
prefix_pieces Quote rest after = quote_prefix_pieces rest after
prefix_pieces (Item item) rest after = item_prefix_pieces rest after
prefix_pieces (Footnote label) rest after = item_prefix_pieces rest after

-- the pieces of prefixes, and the rest of the line after them
pub record Prefixed : Type 0 where
  pub pieces : Pieces
  pub rest : Rest

abbrev pub prefixed_by : Pieces → Rest → Prefixed
prefixed_by pieces rest = record { pieces = pieces; rest = rest }

-- the prefix of a container and then those in it, if it continues; otherwise none
abbrev pub prefix_and : Container → Rest → Option ContainerLine → (Rest → Prefixed) → Prefixed
prefix_and c rest None more = prefixed_by Nil rest
prefix_and c rest (Some line) more = let p = more line.rest in prefixed_by (join (prefix_pieces c rest line.rest) p.pieces) p.rest

-- the prefixes of the containers that continue, from the outermost to the first that doesn't
abbrev pub prefixed : Constructs → List Container → Rest → Prefixed
prefixed on [] rest = prefixed_by Nil rest
prefixed on (c ∷ cs) rest = prefix_and c rest (continues on c false rest) (prefixed on cs)

-- ---- lines

abbrev pub begun_with : Prefixed → Option LineEnding → List TextLine → Written
begun_with p ending ls = written p.pieces (Within p.rest ending ls)

-- the prefixes of the next line, unless a line is begun
abbrev pub begun : Constructs → List Container → Left → Written
begun on outer (Within rest ending ls) = written Nil (Within rest ending ls)
begun on outer (Between []) = written Nil (Within [] None [])
begun on outer (Between (line ∷ ls)) = begun_with (prefixed on outer (whole line.content)) line.ending ls

-- the ending of the line, and the prefixes of the next one
abbrev pub next_line : Constructs → List Container → Left → Written
next_line on outer left = and_then (ended n.LineEnding left) (begun on outer)

-- ---- containers that start

-- the prefix of a container at its start
abbrev pub start_pieces : Container → Rest → Rest → Pieces
start_pieces Quote rest after = quote_mark rest after
start_pieces (Item item) rest after = item_start_pieces rest after
start_pieces (Footnote label) rest after = footnote_start_pieces label rest after

abbrev pub container_name : Container → Name
container_name Quote = n.BlockQuote
container_name (Item item) = n.ListItem
container_name (Footnote label) = n.GfmFootnoteDefinition

abbrev pub started_with : Option ContainerStart → Rest → Left → Written
started_with None rest left = written Nil left
started_with (Some s) rest left = written (start_pieces s.container (bare rest) s.rest) (with_rest s.rest left)

-- the prefix of the container that starts here, after white space
abbrev pub started : Constructs → Left → Written
started on left = started_with (starts on false (rest_of left)) (rest_of left) left
