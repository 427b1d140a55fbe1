-- Hard line breaks, up to the line ending (CommonMark 6.7).
use Rattle.std.specs.Prelude.{List, take}
use Rattle.definition_text.specs.Columns.{Code, indent}
use Rattle.engine_events.specs.declared.event.Name.TheVariants as n
use Rattle.event_definition.specs.Pieces.{token}
use Rattle.event_definition.specs.Written.{first_white}
use Rattle.event_definition.specs.Sized.{Sized, sized}

-- a backslash
abbrev pub escaped_break_pieces : List Code → Sized
escaped_break_pieces content = sized (token n.HardBreakEscape (take 1 content)) 1

-- white space
abbrev pub trailing_break_pieces : List Code → Sized
trailing_break_pieces content = sized (token n.HardBreakTrailing (first_white content)) (indent content)
