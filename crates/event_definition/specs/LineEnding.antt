-- Line endings within a content, with the white space beside them (CommonMark 4.8 and 6.8).
use Rattle.std.specs.Prelude.{◌+◌, if◌then◌else◌, List, drop, take}
use Rattle.definition_text.specs.Columns.{Code, indent}
use Rattle.definition_inline.specs.Space.{after_spaces}
use Rattle.definition_inline.specs.Strings.{begins_with_eol}
use Rattle.engine_events.specs.declared.event.Name.TheVariants as n
use Rattle.event_definition.specs.Pieces.{Pieces, Nil, join, token}
use Rattle.event_definition.specs.Written.{white_ahead}
use Rattle.event_definition.specs.Sized.{Sized, sized}

-- a line ending, and the white space after it
abbrev pub eol_pieces : List Code → Sized
eol_pieces content = sized (join (token n.LineEnding (take 1 content)) (white_ahead (drop 1 content))) (1 + indent (drop 1 content))

-- the same with the white space before it
abbrev pub line_end_pieces : List Code → Sized
line_end_pieces content = let ending = eol_pieces (after_spaces content) in sized (join (white_ahead content) ending.pieces) (indent content + ending.size)

-- spaces and tabs with at most one line ending (CommonMark 4.7 and 6.3)
abbrev pub white_pieces : List Code → Pieces
white_pieces content = join (white_ahead content) (if begins_with_eol (after_spaces content) then (eol_pieces (after_spaces content)).pieces else Nil)
