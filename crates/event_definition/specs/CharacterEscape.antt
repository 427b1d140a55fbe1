-- Backslash escapes (CommonMark 2.4).
use Rattle.std.specs.Prelude.{List, drop, take}
use Rattle.definition_text.specs.Columns.{Code}
use Rattle.engine_events.specs.declared.event.Name.TheVariants as n
use Rattle.event_definition.specs.Pieces.{around, join, token}
use Rattle.event_definition.specs.Sized.{Sized, sized}

-- a backslash, and the byte that it escapes
abbrev pub escape_pieces : List Code → Sized
escape_pieces content =
    sized (around n.CharacterEscape (join (token n.CharacterEscapeMarker (take 1 content)) (token n.CharacterEscapeValue (take 1 (drop 1 content))))) 2
