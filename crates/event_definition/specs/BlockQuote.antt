-- The prefixes of block quotes (CommonMark 5.1).
use Rattle.std.specs.Prelude.{drop, take}
use Rattle.definition_text.specs.Columns.{Rest, bare}
use Rattle.engine_events.specs.declared.event.Name.TheVariants as n
use Rattle.event_definition.specs.Pieces.{Pieces, around, join, token}
use Rattle.event_definition.specs.Written.{before_rest, white_ahead}

-- `>` at the front of a rest, with the column of white space before the rest after it
abbrev pub quote_mark : Rest → Rest → Pieces
quote_mark rest after =
    around n.BlockQuotePrefix (join (token n.BlockQuoteMarker (take 1 rest)) (token n.SpaceOrTab (before_rest (drop 1 rest) after)))

-- the prefix of a quote that continues on a line: white space, and then that
abbrev pub quote_prefix_pieces : Rest → Rest → Pieces
quote_prefix_pieces rest after = join (white_ahead rest) (quote_mark (bare rest) after)
