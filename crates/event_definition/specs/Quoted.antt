-- Strings between two markers: labels, destinations in brackets, titles (CommonMark 4.7 and 6.3).
use Rattle.std.specs.Prelude.{◌-◌, List, [], ◌∷◌, drop, length, take}
use Rattle.markdown_options.specs.declared.configuration.Constructs.{Constructs}
use Rattle.definition_text.specs.Columns.{Code}
use Rattle.definition_inline.specs.CharacterReference.{Names}
use Rattle.engine_events.specs.declared.event.Name.{Name}
use Rattle.event_definition.specs.Pieces.{Pieces, around, join_all, token}
use Rattle.event_definition.specs.Strings.{named_string}

-- the names of the whole, of both markers, and of the string
pub record Quoted : Type 0 where
  pub outer : Name
  pub marker : Name
  pub string : Name

abbrev pub quoted : Name → Name → Name → Quoted
quoted outer marker string = record { outer = outer; marker = marker; string = string }

-- codes of which the first and the last are the markers
abbrev pub quoted_pieces : Constructs → Names → Quoted → List Code → Pieces
quoted_pieces on names q text =
    around q.outer (join_all (
    token q.marker (take 1 text) ∷ named_string on names q.string (drop 1 (take (length text - 1) text)) ∷ token q.marker (drop (length text - 1) text) ∷ []
    ))
