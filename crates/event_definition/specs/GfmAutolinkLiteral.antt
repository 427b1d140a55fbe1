-- Links without brackets (GFM 6.9).
use Rattle.std.specs.Prelude.{if◌then◌else◌, ◌==◌, ◌||◌, List, length, slice_index}
use Rattle.definition_text.specs.Ascii.{capital_x, small_x}
use Rattle.definition_text.specs.Columns.{Code}
use Rattle.definition_inline.specs.Inline.{LiteralKind, Www, Protocol, Email}
use Rattle.engine_events.specs.declared.event.Name.{Name}
use Rattle.engine_events.specs.declared.event.Name.TheVariants as n
use Rattle.event_definition.specs.Pieces.{token}
use Rattle.event_definition.specs.Sized.{Sized, sized}

-- `mailto:`, `xmpp:` or `http(s)://`, by its first byte
abbrev pub protocol_name : Code → Name
protocol_name c =
    if (c == 109) || (c == 77) then n.GfmAutolinkLiteralMailto
    else (if (c == small_x) || (c == capital_x) then n.GfmAutolinkLiteralXmpp else n.GfmAutolinkLiteralProtocol)

abbrev pub literal_name : LiteralKind → List Code → Name
literal_name Www text = n.GfmAutolinkLiteralWww
literal_name Email text = n.GfmAutolinkLiteralEmail
literal_name Protocol text = protocol_name (slice_index text 0)

-- a literal, which these codes are
abbrev pub literal_pieces : LiteralKind → List Code → Sized
literal_pieces kind text = sized (token (literal_name kind text) text) (length text)
